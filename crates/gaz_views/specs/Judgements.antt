-- What became of a custodian's volumes.
use Rattle.std.specs.Prelude.{ℕ, List, ◌∷◌, map, slice_get, unwrap_or}
use Rattle.std.specs.List.{enumerate_from}
use Rattle.gaz_views.specs.View.{View, empty_view}
use Rattle.gaz_views.specs.declared.verdict.Verdict.{Verdict}

-- a volume's verdict, and its custodian's view afterwards
pub record Judgement : Type 0 where
  pub verdict : Verdict
  pub view : View

-- a custodian's views: the empty one, and the one after each volume
abbrev pub views : List Judgement → List View
views js = empty_view ∷ map (λ j. j.view) js

-- the view after a volume that is judged; the empty one where it isn't
abbrev pub view_behind : List Judgement → ℕ → View
view_behind js volume = unwrap_or (slice_get (views js) volume) empty_view

-- the verdicts on the volumes 1, 2, 3, .. beside the views after them
unfoldable pub judgements : List Verdict → (ℕ → View) → List Judgement
judgements verdicts view_at =
    map (λ p. record { verdict = p.1; view = view_at p.0 }) (enumerate_from 1 verdicts)
