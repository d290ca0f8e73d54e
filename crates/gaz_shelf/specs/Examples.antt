-- Worked examples, computed from the definitions.
use Rattle.std.specs.Prelude.{◌≡◌, true, false, [], ◌∷◌}
use Rattle.gaz_shelf.specs.Highest.{is_below}

-- the highest volume of 1001 is the third, that of 1002 the first
pub record WorkedExamples : Type 0 where
  pub at_the_highest : is_below ((1001, 3) ∷ (1002, 1) ∷ []) 1001 3 ≡ true
  pub above_the_highest : is_below ((1001, 3) ∷ (1002, 1) ∷ []) 1002 2 ≡ false
  pub of_nobody : is_below ((1001, 3) ∷ (1002, 1) ∷ []) 1003 1 ≡ false
