-- An item at its place in a list whose keys rise.
use Rattle.std.proofs.Common.{◌≡◌, ℕ, zero, suc, ◌<◌, ◌≤◌, true, false, List, [], ◌∷◌, length, get_or, refl, ap, arith}
use Rattle.std.specs.Prelude.{nat_le, nat_lt}
use Rattle.std.proofs.lemmas.Bool.Decides.{nat_tests}
use Rattle.std.proofs.lemmas.List.Sorted.{IsNonDecreasingBy-insert}
use Rattle.std.specs.List.{insert}
use Rattle.std.specs.List.Sorted.{IsPartitionPoint, IsNonDecreasingBy}
use Rattle.gaz_register.specs.Lists.{place}

-- the first i items have no higher key than x, and those from i on have
pub record Splits {X : Type 0} (key : X → ℕ) (x : X) (xs : List X) (i : ℕ) : Type 0 where
  pub bound : i ≤ length xs
  pub below : (k : ℕ) (d : X) → k < i → key (get_or xs k d) ≤ key x
  pub above : (k : ℕ) (d : X) → i ≤ k → k < length xs → key x < key (get_or xs k d)

at_most : (a b : ℕ) → nat_le a b ≡ true → a ≤ b
at_most a b e = grind (arith, nat_tests)

over : (a b : ℕ) → nat_le a b ≡ false → b < a
over a b e = grind (arith, nat_tests)

pub splits : {X : Type 0} (key : X → ℕ) (x : X) (xs : List X) (i : ℕ) → i ≤ length xs
    → IsPartitionPoint (λ y. nat_le (key y) (key x) ≡ true) (λ y. nat_le (key y) (key x) ≡ false) xs i → Splits key x xs i
splits key x xs i b h = record {
  bound = b;
  below = λ k d l. at_most _ _ (h.0 k d (omega arith) l);
  above = λ k d l m. over _ _ (h.1 k d l m);
}

first_over : (a b : ℕ) → b < a → nat_lt b a ≡ true
first_over a b h = grind (arith, nat_tests)

not_over : (a b : ℕ) → a ≤ b → nat_lt b a ≡ false
not_over a b h = grind (arith, nat_tests)

pub insert_is_place : {X : Type 0} (key : X → ℕ) (x : X) (xs : List X) (i : ℕ) → Splits key x xs i → insert xs i x ≡ place key x xs
insert_is_place key x [] zero s = refl
insert_is_place key x [] (suc i) s = absurd (omega (arith, s.bound))
insert_is_place key x (y ∷ ys) zero s = rw (first_over (key y) (key x) (s.above 0 y (omega arith) (omega arith))) refl
insert_is_place key x (y ∷ ys) (suc i) s =
    rw (not_over (key y) (key x) (s.below 0 y (omega arith)))
    (ap (λ t. y ∷ t) (insert_is_place key x ys i (record {
      bound = omega (arith, s.bound);
      below = λ k d l. s.below (suc k) d (omega arith);
      above = λ k d l m. s.above (suc k) d (omega arith) (omega arith);
    })))

pub insert_rises : {X : Type 0} (key : X → ℕ) (x : X) (xs : List X) (i : ℕ) → Splits key x xs i → IsNonDecreasingBy key xs → IsNonDecreasingBy key (insert xs i x)
insert_rises key x xs i s up = IsNonDecreasingBy-insert key xs i x up s.bound s.below (λ k d l m. omega (arith, s.above k d l m))
