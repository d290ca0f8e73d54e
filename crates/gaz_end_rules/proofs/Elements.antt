-- What holds of each of a list.
use Rattle.std.proofs.Common.{◌∷◌, List, suc, arith}
use Rattle.std.specs.List.{All}

pub all_first : {X : Type 0} (P : X → Type 0) (x : X) (xs : List X) → All P (x ∷ xs) → P x
all_first P x xs all = all 0 x (omega arith)

pub all_rest : {X : Type 0} (P : X → Type 0) (x : X) (xs : List X) → All P (x ∷ xs) → All P xs
all_rest P x xs all k d below = all (suc k) d (omega (arith, below))
