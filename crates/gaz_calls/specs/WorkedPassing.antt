-- Worked examples of what is known of numbers that were passed on, computed from the definitions.
use Rattle.std.specs.Prelude.{◌≡◌, false, true, [], ◌∷◌, None, Some}
use Rattle.gaz_row_items.specs.PassageExamples.{given_up}
use Rattle.gaz_calls.specs.Passing.{is_any, knows_none}

pub record WorkedPassing : Type 0 where
  pub nothing_passed : is_any [] ≡ false
  pub one_given_up : is_any (given_up ∷ []) ≡ true
  pub not_asked : knows_none None ≡ false
  pub asked_and_none : knows_none (Some false) ≡ true
  pub asked_and_one : knows_none (Some true) ≡ false
