-- What was received.
use Rattle.std.specs.Prelude.{◌≡◌, ℕ, ◌==◌, nat_le, not, ◌&&◌, List, count_by, Some}
use Rattle.std.specs.declared.cmp.Ordering.{Ordering}
use Rattle.std.specs.Ordering.{nat_cmp, ordering_then}
use Rattle.std.specs.FinMap as map

-- by custodian, then by volume
abbrev pub pair_cmp : ℕ × ℕ → ℕ × ℕ → Ordering
pair_cmp p q = ordering_then (nat_cmp p.0 q.0) (nat_cmp p.1 q.1)

-- the bytes that were received for each custodian and volume
abbrev pub Received : Type 0
Received = map.FinMap pair_cmp (List ℕ)

abbrev pub with_file : Received → ℕ → ℕ → List ℕ → Received
with_file files c volume bytes = map.insert files (c, volume) bytes

-- each file of the smaller set is in the bigger one, with the same bytes
abbrev pub HasAllOf : Received → Received → Type 0
HasAllOf bigger smaller =
    (p : ℕ × ℕ) (bytes : List ℕ) → map.get smaller p ≡ Some bytes → map.get bigger p ≡ Some bytes

-- how many of a custodian's files are above a volume
abbrev pub count_above : Received → ℕ → ℕ → ℕ
count_above files c volume = count_by (λ p. (p.0 == c) && not (nat_le p.1 volume)) (map.keys files)
