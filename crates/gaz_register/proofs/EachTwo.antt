-- Each two of a list, in whatever order the list stands.
use Rattle.std.proofs.Common.{◌≡◌, ◌≢◌, inl, inr, ℕ, zero, suc, ◌+◌, ◌-◌, ◌<◌, ◌≤◌, Bool, true, false, cond, List, [], ◌∷◌, length, map, get_or, refl, ap, ◌∙◌, arith}
use Rattle.std.specs.Prelude.{◌==◌, ◌||◌, nat_lt}
use Rattle.std.proofs.lemmas.Bool.{and_parts, and_from, cases_eq, cases_order, false_from_ne_true}
use Rattle.std.proofs.lemmas.Bool.Decides.{nat_tests}
use Rattle.std.proofs.lemmas.List.Folds.{list_all-map}
use Rattle.std.proofs.lemmas.List.Edits.{Swapped, swapped_from_swap, length-swap}
use Rattle.std.proofs.lemmas.List.Sorted.{IsPermutation-keeps, IsPermutation-sym}
use Rattle.std.specs.List.{AllAdjacentBelow, list_all, swap}
use Rattle.std.specs.List.Sorted.{IsPermutation, IsNonDecreasingBy}
use Rattle.gaz_register.specs.Lists.{each_two}

pub list_all-get_or : {X : Type 0} (p : X → Bool) (xs : List X) (i : ℕ) (d : X) → list_all p xs ≡ true → i < length xs → p (get_or xs i d) ≡ true
list_all-get_or p [] i d e h = absurd (omega arith)
list_all-get_or p (x ∷ xs) zero d e h = (and_parts (p x) (list_all p xs) e).0
list_all-get_or p (x ∷ xs) (suc i) d e h = list_all-get_or p xs i d ((and_parts (p x) (list_all p xs) e).1) (omega arith)

pub list_all-from : {X : Type 0} (p : X → Bool) (xs : List X) → ((i : ℕ) (d : X) → i < length xs → p (get_or xs i d) ≡ true) → list_all p xs ≡ true
list_all-from p [] h = refl
list_all-from p (x ∷ xs) h = and_from (p x) (list_all p xs) (h 0 x (omega arith)) (list_all-from p xs (λ i d l. h (suc i) d (omega arith)))

-- the test holds of each two different places
pub record Everywhere {X : Type 0} (test : X → X → Bool) (xs : List X) : Type 0 where
  pub at : (i j : ℕ) (d : X) → i ≢ j → i < length xs → j < length xs → test (get_or xs i d) (get_or xs j d) ≡ true

pub everywhere : {X : Type 0} (test : X → X → Bool) → ((x y : X) → test x y ≡ test y x) → (xs : List X) → each_two test xs ≡ true
    → (i j : ℕ) (d : X) → i ≢ j → i < length xs → j < length xs → test (get_or xs i d) (get_or xs j d) ≡ true
everywhere test same [] e i j d ne h k = absurd (omega arith)
everywhere test same (x ∷ xs) e zero zero d ne h k = absurd (ne refl)
everywhere test same (x ∷ xs) e zero (suc j) d ne h k = list_all-get_or (test x) xs j d ((and_parts _ _ e).0) (omega arith)
everywhere test same (x ∷ xs) e (suc i) zero d ne h k = same (get_or xs i d) x ∙ list_all-get_or (test x) xs i d ((and_parts _ _ e).0) (omega arith)
everywhere test same (x ∷ xs) e (suc i) (suc j) d ne h k =
    everywhere test same xs ((and_parts _ _ e).1) i j d (λ q. ne (ap suc q)) (omega arith) (omega arith)

pub each_two-from : {X : Type 0} (test : X → X → Bool) (xs : List X) → Everywhere test xs → each_two test xs ≡ true
each_two-from test [] h = refl
each_two-from test (x ∷ xs) h =
    and_from (list_all (test x) xs) (each_two test xs)
    (list_all-from (test x) xs (λ i d l. h.at 0 (suc i) d (omega arith) (omega arith) (omega arith)))
    (each_two-from test xs (record { at = λ i j d ne l m. h.at (suc i) (suc j) d (omega arith) (omega arith) (omega arith) }))

-- where the i-th stood before places a and b changed
abbrev other : ℕ → ℕ → ℕ → ℕ
other a b i = cond (i == a) b (cond (i == b) a i)

other-ne : (a b i j : ℕ) → i ≢ j → other a b i ≢ other a b j
other-ne a b i j ne = grind (arith, nat_tests)

other-lt : (a b i n : ℕ) → a < n → b < n → i < n → other a b i < n
other-lt a b i n h k l = grind (arith, nat_tests)

other-first : (a b i : ℕ) → i ≡ a → other a b i ≡ b
other-first a b i e = grind (arith, nat_tests)

other-second : (a b i : ℕ) → i ≢ a → i ≡ b → other a b i ≡ a
other-second a b i n e = grind (arith, nat_tests)

other-none : (a b i : ℕ) → i ≢ a → i ≢ b → other a b i ≡ i
other-none a b i n m = grind (arith, nat_tests)

at-other : {X : Type 0} (f g : ℕ → X) (a b i : ℕ) → Swapped f g a b → g i ≡ f (other a b i)
at-other f g a b i s = elim (cases_eq i a) [
  | inl first ↦ rw (other-first a b i first, first) (s.0)
  | inr not-first ↦ elim (cases_eq i b) [
    | inl second ↦ rw (other-second a b i not-first second, second) (s.1)
    | inr neither ↦ rw (other-none a b i not-first neither) (s.2 i not-first neither)
  ]
]

swapped : {X : Type 0} (test : X → X → Bool) (xs : List X) (a b : ℕ) → a < length xs → b < length xs → Everywhere test xs → Everywhere test (swap xs a b)
swapped test xs a b h k e = record {
  at = λ i j d ne l m.
      let same = length-swap xs a b in
      let s = swapped_from_swap xs (swap xs a b) a b d h k refl in
      let ni : i < length xs = omega (arith, same) in
      let nj : j < length xs = omega (arith, same) in
      rw (at-other (λ i. get_or xs i d) (λ i. get_or (swap xs a b) i d) a b i s, at-other (λ i. get_or xs i d) (λ i. get_or (swap xs a b) i d) a b j s)
      (e.at (other a b i) (other a b j) d (other-ne a b i j ne) (other-lt a b i (length xs) h k ni) (other-lt a b j (length xs) h k nj));
}

pub permuted : {X : Type 0} (test : X → X → Bool) (xs ys : List X) → IsPermutation xs ys → Everywhere test xs → Everywhere test ys
permuted test xs ys p e = IsPermutation-keeps xs (Everywhere test) e (λ l i j h k q. swapped test l i j h k q) ys p

-- the same test over what a function gives
pub each_two-map : {X Y : Type 0} (test : Y → Y → Bool) (f : X → Y) (xs : List X) → each_two test (map f xs) ≡ each_two (λ a b. test (f a) (f b)) xs
each_two-map test f [] = refl
each_two-map test f (x ∷ xs) = rw (list_all-map (test (f x)) f xs, each_two-map test f xs) refl

-- ---- items that go from a low to a high number

module _ {X : Type 0} (low high : X → ℕ) where
  -- the two have no number in common
  abbrev pub apart : X → X → Bool
  apart x y = nat_lt (high x) (low y) || nat_lt (high y) (low x)

  -- each ends before the next begins
  abbrev pub Adjacent : List X → Type 0
  Adjacent xs = AllAdjacentBelow (λ x y. high x < low y) xs (length xs)

  -- none ends before it begins
  abbrev pub Upward : List X → Type 0
  Upward xs = (k : ℕ) (d : X) → k < length xs → low (get_or xs k d) ≤ high (get_or xs k d)

  pub apart-comm : (x y : X) → apart x y ≡ apart y x
  apart-comm x y = grind (arith, nat_tests)

  next-from : (xs : List X) → Adjacent xs → (k j : ℕ) (d : X) → j ≡ k + 1 → j < length xs → high (get_or xs k d) < low (get_or xs j d)
  next-from xs up k j d e h = rw e (up k d (omega arith))

  far-from : (xs : List X) → Upward xs → Adjacent xs → (m i j : ℕ) (d : X) → j ≡ i + suc m → j < length xs → high (get_or xs i d) < low (get_or xs j d)
  far-from xs good up zero i j d e h = next-from xs up i j d (omega arith) h
  far-from xs good up (suc m) i j d e h =
      let near = far-from xs good up m i (i + suc m) d refl (omega arith) in
      let within = good (i + suc m) d (omega arith) in
      let last = next-from xs up (i + suc m) j d (omega arith) h in
      omega arith

  apart-below : (x y : X) → high x < low y → apart x y ≡ true
  apart-below x y h = grind (arith, nat_tests)

  pub everywhere-from-adjacent : (xs : List X) → Upward xs → Adjacent xs → Everywhere apart xs
  everywhere-from-adjacent xs good up = record {
    at = λ i j d ne h k. elim (cases_order i j) [
      | inl same ↦ absurd (ne same)
      | inr (inl less) ↦ apart-below _ _ (far-from xs good up (j - i - 1) i j d (omega arith) k)
      | inr (inr more) ↦ apart-comm _ _ ∙ apart-below _ _ (far-from xs good up (i - j - 1) j i d (omega arith) h)
    ];
  }

  below-from-apart : (x y : X) → low x ≤ high x → low y ≤ high y → low x ≤ low y → apart x y ≡ true → high x < low y
  below-from-apart x y a b c e = grind (arith, nat_tests)

  pub adjacent-from-everywhere : (xs : List X) → Upward xs → IsNonDecreasingBy low xs → Everywhere apart xs → Adjacent xs
  adjacent-from-everywhere xs good up e = λ k d h.
      below-from-apart _ _ (good k d (omega arith)) (good (k + 1) d h) (up k (k + 1) d (omega arith) h) (e.at k (k + 1) d (omega arith) (omega arith) h)

  -- the items in rising order end before the next begins just where each two of them, in any order, are apart
  pub each_two-adjacent : (xs ys : List X) → IsPermutation xs ys → Upward ys → Adjacent ys → each_two apart xs ≡ true
  each_two-adjacent xs ys p good up =
      each_two-from apart xs (permuted apart ys xs (IsPermutation-sym xs ys p) (everywhere-from-adjacent ys good up))

  pub adjacent-each_two : (xs ys : List X) → IsPermutation xs ys → Upward ys → IsNonDecreasingBy low ys → each_two apart xs ≡ true → Adjacent ys
  adjacent-each_two xs ys p good up e =
      adjacent-from-everywhere ys good up (permuted apart xs ys p (record { at = everywhere apart apart-comm xs e }))

  pub each_two-not : (xs ys : List X) → IsPermutation xs ys → Upward ys → IsNonDecreasingBy low ys → (Adjacent ys → ⊥) → each_two apart xs ≡ false
  each_two-not xs ys p good up no_way = false_from_ne_true _ (λ e. no_way (adjacent-each_two xs ys p good up e))

pub each_two-agree : {X : Type 0} (test like : X → X → Bool) → ((x y : X) → test x y ≡ like x y) → (xs : List X) → each_two test xs ≡ each_two like xs
each_two-agree test like same [] = refl
each_two-agree {X} test like same (x ∷ xs) = rw (each_two-agree test like same xs, all-agree xs) refl
  where
    all-agree : (ys : List X) → list_all (test x) ys ≡ list_all (like x) ys
    all-agree [] = refl
    all-agree (y ∷ ys) = rw (same x y, all-agree ys) refl
