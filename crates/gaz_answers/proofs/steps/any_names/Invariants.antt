use Rattle.std.proofs.Common.{◌≡◌, false, take}
use Rattle.std.specs.List.{list_any}
use Rattle.std.specs.Prelude.{option_map}
use Rattle.gaz_answers.specs.Streets.{names_left}
use Rattle.gaz_answers.proofs.steps.any_names.Given as goal

abbrev pub invariant-loop-row : goal.invariant-loop-row
invariant-loop-row l = list_any (names_left l.kind (option_map (λ c. c.now) l.passed)) (take l.row-index l.rows) ≡ false
