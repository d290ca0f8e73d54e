-- Searches in lists that rise.
use Rattle.std.proofs.Common.{◌≡◌, inl, inr, ℕ, suc, ◌+◌, ◌-◌, ◌<◌, ◌≤◌, Bool, true, false, List, [], ◌∷◌, length, get_or, Some, None, refl, ◌∙◌, arith}
use Rattle.std.specs.Prelude.{◌==◌, ◌&&◌, nat_le, nat_lt}
use Rattle.std.proofs.lemmas.Bool.{cases_lt}
use Rattle.std.proofs.lemmas.Bool.Decides.{nat_tests}
use Rattle.std.proofs.lemmas.List.Folds.{find_at}
use Rattle.std.proofs.lemmas.List.Sums.{position_or_len_is}
use Rattle.std.proofs.lemmas.Option.{slice_get-get_or}
use Rattle.std.specs.List.{AllAdjacentBelow, find}
use Rattle.std.specs.List.Sorted.{IsNonDecreasingBy, IsPartitionPoint}

-- an item that passes, after others that don't
pub find-first : {X : Type 0} (p : X → Bool) (xs : List X) (i : ℕ) (d : X) → i < length xs → p (get_or xs i d) ≡ true
    → ((k : ℕ) → k < i → p (get_or xs k d) ≡ false) → find p xs ≡ Some (get_or xs i d)
find-first p xs i d h yes' none =
    let at = position_or_len_is p xs i d (omega arith) none (λ _. yes') in
    find_at p xs ∙ rw at (slice_get-get_or xs i d h)

pub find-nowhere : {X : Type 0} (p : X → Bool) (xs : List X) → ((k : ℕ) (d : X) → k < length xs → p (get_or xs k d) ≡ false) → find p xs ≡ None
find-nowhere p [] h = refl
find-nowhere p (x ∷ xs) h = rw (h 0 x (omega arith)) (find-nowhere p xs (λ k d l. h (suc k) d (omega arith)))

not-over : (a b : ℕ) → nat_le a b ≡ true → a ≤ b
not-over a b e = grind (arith, nat_tests)

over : (a b : ℕ) → nat_le a b ≡ false → b < a
over a b e = grind (arith, nat_tests)

below : (a b : ℕ) → nat_lt a b ≡ true → a < b
below a b e = grind (arith, nat_tests)

not-below : (a b : ℕ) → nat_lt a b ≡ false → b ≤ a
not-below a b e = grind (arith, nat_tests)

is-other : (a b : ℕ) → (a ≡ b → ⊥) → (a == b) ≡ false
is-other a b n = grind (arith, nat_tests)

is-same : (a b : ℕ) → a ≡ b → (a == b) ≡ true
is-same a b n = grind (arith, nat_tests)

-- ---- an item by its key

module _ {X : Type 0} (key : X → ℕ) (x : ℕ) where
  -- those before i have lower keys, and those from i on have not
  abbrev pub Point : List X → ℕ → Type 0
  Point xs i = IsPartitionPoint (λ y. nat_lt (key y) x ≡ true) (λ y. nat_lt (key y) x ≡ false) xs i

  pub key-found : (xs : List X) (i : ℕ) (d : X) → i < length xs → Point xs i → key (get_or xs i d) ≡ x → find (λ y. key y == x) xs ≡ Some (get_or xs i d)
  key-found xs i d h point e =
      find-first (λ y. key y == x) xs i d h (is-same _ _ e)
      (λ k l. is-other _ _ (λ same. let low = below _ _ (point.0 k d (omega arith) l) in omega arith))

  pub key-missed : (xs : List X) (i : ℕ) → IsNonDecreasingBy key xs → Point xs i → ((d : X) → i < length xs → key (get_or xs i d) ≡ x → ⊥) → find (λ y. key y == x) xs ≡ None
  key-missed xs i up point no-way = find-nowhere (λ y. key y == x) xs (λ k d h. is-other _ _ (λ same. elim (cases_lt k i) [
    | inl before ↦ let low = below _ _ (point.0 k d (omega arith) before) in omega arith
    | inr after ↦
        let high = not-below _ _ (point.1 i d (omega arith) (omega arith)) in
        let upward = up i k d after h in
        no-way d (omega arith) (omega arith)
  ]))

-- ---- an item whose numbers, from a low to a high one, have the number among them

module _ {X : Type 0} (low high : X → ℕ) (n : ℕ) where
  abbrev pub among : X → Bool
  among x = nat_le (low x) n && nat_le n (high x)

  -- those before i begin no later than at n, and those from i on later
  abbrev pub Start : List X → ℕ → Type 0
  Start xs i = IsPartitionPoint (λ y. nat_le (low y) n ≡ true) (λ y. nat_le (low y) n ≡ false) xs i

  among-not-low : (x : X) → nat_le (low x) n ≡ false → among x ≡ false
  among-not-low x e = rw e refl

  among-not-high : (x : X) → high x < n → among x ≡ false
  among-not-high x e = grind (arith, nat_tests)

  among-both : (x : X) → nat_le (low x) n ≡ true → n ≤ high x → among x ≡ true
  among-both x e h = grind (arith, nat_tests)

  -- all but the last that begins no later end before n
  past : (xs : List X) (i k : ℕ) (d : X) → i ≤ length xs → IsNonDecreasingBy low xs → AllAdjacentBelow (λ x y. high x < low y) xs (length xs)
      → Start xs i → k + 1 < i → among (get_or xs k d) ≡ false
  past xs i k d b up rises start h =
      let next = rises k d (omega arith) in
      let begun = not-over _ _ (start.0 (k + 1) d (omega arith) h) in
      among-not-high (get_or xs k d) (omega arith)

  pub among-zero : (xs : List X) → Start xs 0 → find among xs ≡ None
  among-zero xs start = find-nowhere among xs (λ k d h. among-not-low (get_or xs k d) (start.1 k d (omega arith) h))

  pub among-hit : (xs : List X) (i : ℕ) (d : X) → 0 < i → i ≤ length xs → IsNonDecreasingBy low xs → AllAdjacentBelow (λ x y. high x < low y) xs (length xs)
      → Start xs i → n ≤ high (get_or xs (i - 1) d) → find among xs ≡ Some (get_or xs (i - 1) d)
  among-hit xs i d pos' b up rises start h =
      find-first among xs (i - 1) d (omega arith) (among-both (get_or xs (i - 1) d) (start.0 (i - 1) d (omega arith) (omega arith)) h)
      (λ k l. past xs i k d b up rises start (omega arith))

  pub among-miss : (xs : List X) (i : ℕ) → 0 < i → i ≤ length xs → IsNonDecreasingBy low xs → AllAdjacentBelow (λ x y. high x < low y) xs (length xs)
      → Start xs i → ((d : X) → high (get_or xs (i - 1) d) < n) → find among xs ≡ None
  among-miss xs i pos' b up rises start h = find-nowhere among xs (λ k d l. elim (cases_lt (k + 1) i) [
    | inl before ↦ past xs i k d b up rises start before
    | inr after ↦ elim (cases_lt k i) [
      | inl last ↦ let at : k ≡ i - 1 = omega arith in rw at (among-not-high (get_or xs (i - 1) d) (h d))
      | inr beyond ↦ among-not-low (get_or xs k d) (start.1 k d beyond l)
    ]
  ])
