-- A keeper around another at rest has no working view.
use Rattle.std.specs.Prelude.{◌≡◌, refl}
use Rattle.gaz_keeper.specs.Keeper.{Broken, Content, Idle, Open, Progress}
use Rattle.gaz_faulty.specs.Faulting.{content_around}
use Rattle.gaz_views.specs.View.{empty_view}

pub bare_around : (p : Progress) (k : Content) → p ≡ Idle
    → (content_around p k).working ≡ empty_view
bare_around Idle k is = refl
bare_around (Open c) k is = cc
bare_around Broken k is = refl
