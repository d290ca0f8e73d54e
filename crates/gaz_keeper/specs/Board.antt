-- The judgements of all custodians.
use Rattle.std.specs.Prelude.{ℕ, zero, suc, ◌==◌, if◌then◌else◌, List, [], ◌∷◌, ◌++◌, length}
use Rattle.std.specs.Prelude.{slice_get, Option, None, option_map}
pub use Rattle.gaz_views.specs.Judgements.{Judgement, view_behind, views}
use Rattle.gaz_views.specs.View.{View}
use Rattle.gaz_views.specs.declared.verdict.Verdict.{Verdict}

-- each custodian's judgements, those of the volumes 1, 2, 3, ..
abbrev pub Board : Type 0
Board = ℕ → List Judgement

abbrev pub empty_board : Board
empty_board = λ c. []

-- how many volumes of a custodian are judged
abbrev pub reached : Board → ℕ → ℕ
reached board c = length (board c)

-- the view of a custodian after a volume that it has reached
abbrev pub view_after : Board → ℕ → ℕ → View
view_after board c volume = view_behind (board c) volume

-- the last one
abbrev pub last_view : Board → ℕ → View
last_view board c = view_after board c (reached board c)

-- the judgement of a volume, where it is judged; the first is volume 1
abbrev pub judgement_on : Board → ℕ → ℕ → Option Judgement
judgement_on board c zero = None
judgement_on board c (suc n) = slice_get (board c) n

abbrev pub verdict_on : Board → ℕ → ℕ → Option Verdict
verdict_on board c volume = option_map (λ j. j.verdict) (judgement_on board c volume)

-- the board with one more judgement of a custodian
abbrev pub adds : Board → ℕ → Judgement → Board
adds board c j = λ other. if other == c then board other ++ j ∷ [] else board other
