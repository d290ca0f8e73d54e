-- The fields behind the first ones.
use Rattle.std.proofs.Common.{◌≡◌, ℕ, zero, suc, ◌+◌, List, [], ◌∷◌, drop, refl, arith, length-drop}
use Rattle.csv.specs.Records.{field_at}

pub field_at-drop : (xs : List (List ℕ)) (k i : ℕ) → field_at (drop k xs) i ≡ field_at xs (k + i)
unfolding field_at
field_at-drop xs zero i = let e : 0 + i ≡ i = omega arith in rw e refl
field_at-drop [] (suc k) i = refl
field_at-drop (x ∷ xs) (suc k) i = let e : suc k + i ≡ suc (k + i) = omega arith in rw e (field_at-drop xs k i)

pub ruleset field_drops = (field_at-drop, length-drop)
