-- Worked examples, computed from the definitions.
use Rattle.std.specs.Prelude.{◌≡◌, ℕ, true, false, [], ◌∷◌, ◌++◌, Some, None}
use Rattle.gaz_histories.specs.Histories.{Versions, before, lived, standing_at, was_used_at}

-- a number for what stands at the key: inserted by volume 2, updated by volume 3, and deleted by
-- volume 5
abbrev pub three : Versions ℕ
three = (2, Some 10) ∷ (3, Some 20) ∷ (5, None) ∷ []

pub record WorkedExamples : Type 0 where
  pub nothing_before : standing_at three 1 ≡ None
  pub as_inserted : standing_at three 2 ≡ Some 10
  pub as_updated : standing_at three 3 ≡ Some 20
  pub stays : standing_at three 4 ≡ Some 20
  pub deleted : standing_at three 5 ≡ None
  pub stays_deleted : standing_at three 9 ≡ None
  pub unused_before : was_used_at three 1 ≡ false
  pub used : was_used_at three 2 ≡ true
  pub stays_used : was_used_at three 9 ≡ true
  pub set_again : before three 3 ++ (3, None) ∷ [] ≡ (2, Some 10) ∷ (3, None) ∷ []
  pub lives_on : lived three 6 None 30 ≡ three ++ (6, Some 30) ∷ []
  pub lives_again : lived three 5 (Some 7) 30 ≡
      (2, Some 10) ∷ (3, Some 20) ∷ (5, Some 30) ∷ (7, None) ∷ []
  pub comes_and_goes : lived three 6 (Some 6) 30 ≡ three ++ (6, None) ∷ []
