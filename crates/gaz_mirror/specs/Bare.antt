-- A keeper at rest has no working view.
use Rattle.std.specs.Prelude.{◌≡◌, ℕ, List, refl}
use Rattle.gaz_keeper.specs.Keeper.{Idle, Seen}
use Rattle.gaz_shelf.specs.Mem.{progress_of, working_of}
use Rattle.gaz_shelf.specs.declared.mem_shelf.Judging.{Judging}
use Rattle.gaz_shelf.specs.declared.mem_shelf.Judging.TheVariants as judging
use Rattle.gaz_views.specs.Accounts.{Account}
use Rattle.gaz_views.specs.View.{empty_view}

-- where no judgement is in progress, the working view is the empty one
abbrev pub RestsBare : {K : Type 0} → (K → Seen) → Type 0
RestsBare {K} seen = (k : K) → (seen k).progress ≡ Idle → (seen k).content.working ≡ empty_view

-- a keeper in memory
pub bare_in : (j : Judging) (es : List (ℕ × Account)) → progress_of j ≡ Idle
    → working_of j es ≡ empty_view
bare_in judging.Idle es is = refl
bare_in (judging.Open c) es is = cc
bare_in judging.Broken es is = refl
