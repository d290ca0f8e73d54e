-- A number in the range of its kind is that number.
use Rattle.std.proofs.Common.{◌≡◌, ◌+◌, ◌≤◌, ℕ, Bool, true, false, arith, cond, min}
use Rattle.std.specs.Prelude.{Some, None}
use Rattle.gaz_ids.specs.Numbers.{in_range, of_id}

pub numbered : (low high n v : ℕ) → Some v ≡ of_id low high n → v ≡ n
numbered low high n v is = by_test (in_range low high n) is
  where
    by_test : (b : Bool) → Some v ≡ cond b (Some n) None → v ≡ n
    by_test true e = cc
    by_test false e = absurd (cc)

-- the next volume, where there is one
pub is_next : (n sum next : ℕ) → sum ≡ min (n + 1) 18446744073709551615 → next ≡ sum → next ≤ 999_999 → next ≡ n + 1
is_next n sum next is same most = omega arith
