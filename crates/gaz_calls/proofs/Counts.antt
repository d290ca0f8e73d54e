-- How many files of a custodian are above a volume.
use Rattle.std.proofs.Common.{◌≡◌, ◌∙◌, ◌+◌, ◌<◌, ◌==◌, ◌&&◌, ◌||◌, ℕ, suc, Bool, true, false, not, List, [], ◌∷◌, map, length, refl, sym, ap, arith, eq-eqb, eqb-true}
use Rattle.std.specs.Prelude.{T, nat_le}
use Rattle.std.specs.FinMap as finite
use Rattle.std.specs.FinMap.Entries.{below_all, is_sorted}
use Rattle.std.specs.List.{AllByRecursion, IsDistinct, filter}
use Rattle.std.specs.List.Sorted.{IsStrictlySortedBy}
use Rattle.std.specs.Ordering.{eq_by_cmp, is_eq, is_lt}
use Rattle.std.specs.Set.{is_member}
use Rattle.std.specs.Cmp.{IsEquivalence}
use Rattle.std.specs.declared.cmp.Ordering.{Ordering}
use Rattle.std.specs.declared.cmp.Ordering.TheVariants.{Less, Equal, Greater}
use Rattle.std.proofs.lemmas.Bool.{leb-false, lt-leb}
use Rattle.std.proofs.lemmas.Cmp.{eq_by_cmp_equiv}
use Rattle.std.proofs.lemmas.List.Kept.{IsStrictlySortedBy-filter}
use Rattle.std.proofs.lemmas.List.Sums.{length-filter}
use Rattle.std.proofs.lemmas.Map.Keys.{IsDistinct-cons, IsDistinct-from_sorted}
use Rattle.std.proofs.lemmas.Map.Made.{is_member-filter, length-from_same_keys}
use Rattle.gaz_keeper.specs.Received.{Received, count_above, pair_cmp}
use Rattle.gaz_keeper.proofs.Pairs.{pairs_exact, pairs_total}

abbrev Pair : Type 0
Pair = ℕ × ℕ

abbrev pub same : Pair → Pair → Bool
same = eq_by_cmp pair_cmp

pub laws : IsEquivalence same
laws = eq_by_cmp_equiv pairs_total

abbrev pub is_above : ℕ → ℕ → Pair → Bool
is_above c v p = (p.0 == c) && not (nat_le p.1 v)

pub above_true : (c v d u : ℕ) → d ≡ c → v < u → is_above c v (d, u) ≡ true
above_true c v d u cust less = ap (λ b. b && not (nat_le u v)) (eq-eqb d c cust) ∙ ap not (lt-leb u v less)

pub above_is : (c v d u : ℕ) → is_above c v (d, u) ≡ true → (d ≡ c) × (v < u)
above_is c v d u e = by_test (d == c) refl (nat_le u v) refl e
  where
    by_test : (a : Bool) → (d == c) ≡ a → (b : Bool) → nat_le u v ≡ b → (a && not b) ≡ true → (d ≡ c) × (v < u)
    by_test true cust false vol is = (eqb-true d c cust, leb-false u v vol)
    by_test true cust true vol is = let clash : false ≡ true = is in absurd (cc)
    by_test false cust b vol is = let clash : false ≡ true = is in absurd (cc)

-- a file of a custodian above a volume
abbrev pub waits : Received → ℕ → ℕ → Pair → Bool
waits files c v q = finite.contains_key files q && is_above c v q

both_hold : (a b : Bool) → T (a && b) → T a × T b
both_hold true b h = (tt, h)
both_hold false b h = absurd h

is_less : (o : Ordering) → T (is_lt o) → o ≡ Less
is_less Less h = refl
is_less Equal h = absurd h
is_less Greater h = absurd h

is_equal : (o : Ordering) → is_eq o ≡ true → o ≡ Equal
is_equal Less e = cc
is_equal Equal e = refl
is_equal Greater e = cc

pub is_same : (p q : Pair) → same p q ≡ true → p ≡ q
is_same p q e = pairs_exact p q (is_equal (pair_cmp p q) e)

-- the keys of files ascend
ascending : (files : Received) → IsStrictlySortedBy pair_cmp (finite.keys files)
unfolding IsStrictlySortedBy
ascending files = ascends (finite.entries files) (finite.entries_sorted files)
  where
    above : (k : Pair) (es : List (Pair × List ℕ)) → T (below_all pair_cmp k es) → AllByRecursion (λ y. pair_cmp k y ≡ Less) (map (λ e. e.0) es)
    above k [] h = tt
    above k (e ∷ es) h = let two = both_hold (is_lt (pair_cmp k e.0)) (below_all pair_cmp k es) h in (is_less _ two.0, above k es two.1)

    ascends : (es : List (Pair × List ℕ)) → T (is_sorted pair_cmp es) → IsStrictlySortedBy pair_cmp (map (λ e. e.0) es)
    ascends [] h = tt
    ascends (e ∷ es) h = let two = both_hold (below_all pair_cmp e.0 es) (is_sorted pair_cmp es) h in (above e.0 es two.0, ascends es two.1)

abbrev waiting : Received → ℕ → ℕ → List Pair
waiting files c v = filter (is_above c v) (finite.keys files)

waiting_distinct : (files : Received) (c v : ℕ) → IsDistinct same (waiting files c v)
waiting_distinct files c v = IsDistinct-from_sorted pair_cmp _ (IsStrictlySortedBy-filter pair_cmp (is_above c v) (finite.keys files) (ascending files))

waiting_has : (files : Received) (c v : ℕ) (q : Pair) → is_member same (waiting files c v) q ≡ waits files c v q
waiting_has files c v q =
    is_member-filter laws (is_above c v) q (λ x e. ap (is_above c v) (is_same q x e)) (finite.keys files)
    ∙ ap (λ b. b && is_above c v q) (sym (finite.contains_key-keys files q))

-- they are as many as are listed once each
pub counts : (files : Received) (c v : ℕ) (listed : List Pair) → IsDistinct same listed → ((q : Pair) → is_member same listed q ≡ waits files c v q)
    → count_above files c v ≡ length listed
counts files c v listed distinct has =
    sym (length-filter (is_above c v) (finite.keys files))
    ∙ length-from_same_keys laws (waiting files c v) listed (waiting_distinct files c v) distinct (λ q. waiting_has files c v q ∙ sym (has q))

-- where one more waits, the count is one more
pub counts_one_more : (files more : Received) (c v w : ℕ) (one : Pair) → ((q : Pair) → waits more c w q ≡ (same q one || waits files c v q)) → waits files c v one ≡ false
    → count_above more c w ≡ count_above files c v + 1
counts_one_more files more c v w one has absent =
    counts more c w (one ∷ waiting files c v) (IsDistinct-cons same one (waiting files c v) (apart (waiting files c v) (waiting_has files c v one ∙ absent)) (waiting_distinct files c v))
    (λ q. ap (λ b. same q one || b) (waiting_has files c v q) ∙ sym (has q))
    ∙ (let n = counts files c v (waiting files c v) (waiting_distinct files c v) (waiting_has files c v) in ap suc (sym n) ∙ plus (count_above files c v))
  where
    plus : (n : ℕ) → suc n ≡ n + 1
    plus n = omega arith

    apart : (ks : List Pair) → is_member same ks one ≡ false → AllByRecursion (λ y. same one y ≡ false) ks
    apart [] e = tt
    apart (k ∷ ks) e = by_test (apart ks) (same one k) refl e
      where
        by_test : (is_member same ks one ≡ false → AllByRecursion (λ y. same one y ≡ false) ks) → (b : Bool) → same one k ≡ b → (b || is_member same ks one) ≡ false → AllByRecursion (λ y. same one y ≡ false) (k ∷ ks)
        by_test behind true is none = let clash : true ≡ false = none in absurd (cc)
        by_test behind false is none = (is, behind none)

-- where the same ones wait, they are as many
pub counts_same : (files more : Received) (c v : ℕ) → ((q : Pair) → waits more c v q ≡ waits files c v q) → count_above more c v ≡ count_above files c v
counts_same files more c v has =
    counts more c v (waiting files c v) (waiting_distinct files c v) (λ q. waiting_has files c v q ∙ sym (has q))
    ∙ sym (counts files c v (waiting files c v) (waiting_distinct files c v) (waiting_has files c v))
