-- Where versions ascend, those that begin until a volume are the ones in front.
use Rattle.std.proofs.Common.{◌≡◌, ◌<◌, ℕ, zero, suc, Bool, true, false, cond, ◌||◌, List, [], ◌∷◌, ◌++◌, map, length, take, refl, sym, ap, subst, ◌∙◌, arith, slice_index_or}
use Rattle.std.specs.Prelude.{Option, filter, fold, nat_le, nat_lt}
use Rattle.std.specs.List.{AllByRecursion, AllWithin, list_any}
use Rattle.std.specs.List.Sorted.{IsNonDecreasingBy, IsPartitionPoint, IsStrictlySortedBy}
use Rattle.std.specs.Ordering.{nat_cmp}
use Rattle.std.specs.declared.cmp.Ordering.TheVariants.{Less}
use Rattle.std.proofs.lemmas.Bool.Decides.{nat_tests}
use Rattle.std.proofs.lemmas.Cmp.{ranked}
use Rattle.std.proofs.lemmas.List.Kept.{IsStrictlySortedBy-filter}
use Rattle.std.specs.Cmp.{nat_cmp_is}
use Rattle.gaz_histories.specs.Histories.{Ascends, Version, Versions, before, was_used_at}

module _ {X Y : Type 0} (f : X → Y) (n : Y → ℕ) where
  below : (x : ℕ) (xs : List X) → AllByRecursion (λ y. nat_cmp x y ≡ Less) (map n (map f xs)) → (j : ℕ) (d : X) → j < length xs → x < n (f (slice_index_or xs j d))
  below x [] h j d lt = absurd (omega arith)
  below x (y ∷ ys) h zero d lt = ranked x (n (f y)) Less (sym h.0)
  below x (y ∷ ys) h (suc j) d lt = below x ys h.1 j d (omega arith)

  pub rises : (xs : List X) → IsStrictlySortedBy nat_cmp (map n (map f xs)) → IsNonDecreasingBy (λ x. n (f x)) xs
  unfolding IsStrictlySortedBy
  rises [] h i j d le lt = absurd (omega arith)
  rises (x ∷ xs) h zero zero d le lt = omega arith
  rises (x ∷ xs) h zero (suc j) d le lt = let more = below (n (f x)) xs h.0 j d (omega arith) in omega arith
  rises (x ∷ xs) h (suc i) zero d le lt = absurd (omega arith)
  rises (x ∷ xs) h (suc i) (suc j) d le lt = rises xs h.1 i j d (omega arith) (omega arith)

module _ {X Y : Type 0} (f : X → Y) (p : Y → Bool) where
  none_left : (xs : List X) → AllWithin (λ y. p (f y) ≡ false) xs 0 (length xs) → filter p (map f xs) ≡ []
  none_left [] h = refl
  none_left (x ∷ xs) h = ap (λ b. cond b (f x ∷ filter p (map f xs)) (filter p (map f xs))) (h 0 x (omega arith) (omega arith)) ∙ none_left xs (λ k d low lt. h (suc k) d (omega arith) (omega arith))

  pub front : (xs : List X) (i : ℕ) → IsPartitionPoint (λ y. p (f y) ≡ true) (λ y. p (f y) ≡ false) xs i → filter p (map f xs) ≡ take i (map f xs)
  front [] zero h = refl
  front [] (suc i) h = refl
  front (x ∷ xs) zero h = none_left (x ∷ xs) h.1
  front (x ∷ xs) (suc i) h =
      ap (λ b. cond b (f x ∷ filter p (map f xs)) (filter p (map f xs))) (h.0 0 x (omega arith) (omega arith))
      ∙ ap (λ l. f x ∷ l) (front xs i ((λ k d low lt. h.0 (suc k) d (omega arith) (omega arith)), (λ k d low lt. h.1 (suc k) d (omega arith) (omega arith))))

-- ---- versions

pub last_of : {T : Type 0} (a : Option T) (vs : Versions T) (n : ℕ) (d : Version T) → n < length vs → fold (λ i v. v.1) a (take (suc n) vs) ≡ (slice_index_or vs n d).1
last_of a [] n d lt = absurd (omega arith)
last_of a (v ∷ vs) zero d lt = refl
last_of a (v ∷ vs) (suc n) d lt = last_of v.1 vs n d (omega arith)

volumes_before : {T : Type 0} (vs : Versions T) (volume : ℕ) → map (λ v. v.0) (before vs volume) ≡ filter (λ n. nat_lt n volume) (map (λ v. v.0) vs)
volumes_before [] volume = refl
volumes_before (v ∷ vs) volume = elim (nat_lt v.0 volume) as (λ b. map (λ w. w.0) (cond b (v ∷ before vs volume) (before vs volume)) ≡ cond b (v.0 ∷ filter (λ n. nat_lt n volume) (map (λ w. w.0) vs)) (filter (λ n. nat_lt n volume) (map (λ w. w.0) vs))) [
  | true ↦ ap (λ l. v.0 ∷ l) (volumes_before vs volume)
  | false ↦ volumes_before vs volume
]

pub before_ascends : {T : Type 0} (vs : Versions T) (volume : ℕ) → Ascends vs → Ascends (before vs volume)
before_ascends vs volume h = subst (IsStrictlySortedBy nat_cmp) (sym (volumes_before vs volume)) (IsStrictlySortedBy-filter nat_cmp (λ n. nat_lt n volume) (map (λ v. v.0) vs) h)

end_behind : (x n : ℕ) (ks : List ℕ) → AllByRecursion (λ y. nat_cmp x y ≡ Less) ks → nat_cmp x n ≡ Less → AllByRecursion (λ y. nat_cmp x y ≡ Less) (ks ++ n ∷ [])
end_behind x n [] h less = (less, tt)
end_behind x n (k ∷ ks) h less = (h.0, end_behind x n ks h.1 less)

with_end : (n : ℕ) (ks : List ℕ) → IsStrictlySortedBy nat_cmp ks → AllByRecursion (λ k. nat_cmp k n ≡ Less) ks → IsStrictlySortedBy nat_cmp (ks ++ n ∷ [])
unfolding IsStrictlySortedBy
with_end n [] h all = (tt, tt)
with_end n (k ∷ ks) h all = (end_behind k n ks h.0 all.0, with_end n ks h.1 all.1)

all_below : {T : Type 0} (vs : Versions T) (volume : ℕ) → AllByRecursion (λ k. nat_cmp k volume ≡ Less) (map (λ v. v.0) (before vs volume))
all_below [] volume = tt
all_below (v ∷ vs) volume = by_test (all_below vs volume) (nat_lt v.0 volume) refl
  where
    by_test : AllByRecursion (λ k. nat_cmp k volume ≡ Less) (map (λ w. w.0) (before vs volume)) → (b : Bool) → nat_lt v.0 volume ≡ b
        → AllByRecursion (λ k. nat_cmp k volume ≡ Less) (map (λ w. w.0) (cond b (v ∷ before vs volume) (before vs volume)))
    by_test rest true e = (sym (nat_cmp_is v.0 volume Less (grind (arith, nat_tests))), rest)
    by_test rest false e = rest

volumes_added : {T : Type 0} (vs : Versions T) (v : Version T) → map (λ w. w.0) (vs ++ v ∷ []) ≡ map (λ w. w.0) vs ++ v.0 ∷ []
volumes_added [] v = refl
volumes_added (w ∷ vs) v = ap (λ l. w.0 ∷ l) (volumes_added vs v)

pub set_ascends : {T : Type 0} (vs : Versions T) (volume : ℕ) (i : Option T) → Ascends vs → Ascends (before vs volume ++ (volume, i) ∷ [])
set_ascends vs volume i h =
    subst (IsStrictlySortedBy nat_cmp) (sym (volumes_added (before vs volume) (volume, i)))
    (with_end volume (map (λ v. v.0) (before vs volume)) (before_ascends vs volume h) (all_below vs volume))

-- ---- the first version

-- what begins after a version that begins too late begins too late
too_late : {T : Type 0} (from volume : ℕ) (vs : Versions T) → AllByRecursion (λ n. nat_cmp from n ≡ Less) (map (λ v. v.0) vs) → nat_le from volume ≡ false → list_any (λ v. nat_le v.0 volume) vs ≡ false
too_late from volume [] h late = refl
too_late from volume (v ∷ vs) h late =
    let more = ranked from v.0 Less (sym h.0) in
    let here : nat_le v.0 volume ≡ false = grind (arith, nat_tests) in
    ap (λ b. b || list_any (λ w. nat_le w.0 volume) vs) here ∙ too_late from volume vs h.1 late

-- the first version tells whether the key was used
pub first_tells : {T : Type 0} (v : Version T) (vs : Versions T) (volume : ℕ) → Ascends (v ∷ vs) → was_used_at (v ∷ vs) volume ≡ nat_le v.0 volume
unfolding IsStrictlySortedBy
first_tells v vs volume h = by_test (nat_le v.0 volume) refl
  where
    by_test : (b : Bool) → nat_le v.0 volume ≡ b → (b || list_any (λ w. nat_le w.0 volume) vs) ≡ b
    by_test true e = refl
    by_test false e = too_late v.0 volume vs h.0 e
