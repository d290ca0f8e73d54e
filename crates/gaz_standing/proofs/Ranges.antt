-- Where a page begins and ends in entries whose keys ascend.
use Rattle.std.proofs.Common.{◌≡◌, ◌≤◌, ◌<◌, ◌+◌, ◌&&◌, ℕ, zero, suc, Bool, true, false, not, cond, List, [], ◌∷◌, ◌++◌, map, length, take, drop, slice_index_or, append_assoc, refl, sym, ap, subst, ◌∙◌, arith, inl, inr}
use Rattle.std.specs.Prelude.{Option, Some, None, filter, option_map}
use Rattle.std.proofs.lemmas.Bool.{cases_lt}
use Rattle.std.proofs.lemmas.Bool.Decides.{nat_tests}
use Rattle.std.proofs.Math.Seq.{take-append_seam}
use Rattle.std.proofs.lemmas.List.{append-nil, take_all}
use Rattle.std.proofs.lemmas.List.Elements.{filter_agree}
use Rattle.std.proofs.lemmas.List.Kept.{IsStrictlySortedBy-filter}
use Rattle.std.specs.Cmp.{nat_cmp_is}
use Rattle.std.specs.List.{AllByRecursion, AllWithin, cons_option}
use Rattle.std.specs.List.Sorted.{IsPartitionPoint, IsPartitionedBy, IsStrictlySortedBy}
use Rattle.std.specs.Ordering.{is_lt, nat_cmp, ordering_then}
use Rattle.std.specs.declared.cmp.Ordering.{Ordering}
use Rattle.std.specs.declared.cmp.Ordering.TheVariants.{Less, Equal, Greater}
use Rattle.gaz_histories.specs.Histories.{standing_at}
use Rattle.gaz_records.proofs.KeyOrder.{keys_total}
use Rattle.gaz_records.specs.Keys.{key_cmp, kind_number}
use Rattle.gaz_records.specs.declared.item.Item.{Item}
use Rattle.gaz_records.specs.declared.item.Kind.{Kind}
use Rattle.gaz_records.specs.declared.item.Kind.TheVariants as kind
use Rattle.gaz_records.specs.declared.key.Key.{Key}
use Rattle.gaz_records.specs.declared.key.Key.TheVariants as key
use Rattle.gaz_views.proofs.Pages.{passes}
use Rattle.gaz_views.specs.Words.{comes_after, is_of}
use Rattle.gaz_standing.proofs.Passing.{Ascends}
use Rattle.gaz_standing.specs.KeyHistories.{ItemVersions, rows_at, versions_among, with_versions}
use Rattle.gaz_standing.specs.Ranges.{is_past}

abbrev Row : Type 0
Row = Key × Item

-- a key and its versions
abbrev Past : Type 0
Past = Key × ItemVersions

-- ---- the rows after a volume

-- a key's row, where an item stands there, before others
abbrev row : Key → Option Item → List Row → List Row
row k o rows = cons_option (option_map (λ i. (k, i)) o) rows

either_way : {X : Type 0} (b : Bool) (x : X) → x ≡ cond b x x
either_way true x = refl
either_way false x = refl

row_kept : (p : Key → Bool) (k : Key) (o : Option Item) (rows : List Row) → filter (λ e. p e.0) (row k o rows) ≡ cond (p k) (row k o (filter (λ e. p e.0) rows)) (filter (λ e. p e.0) rows)
row_kept p k None rows = either_way (p k) _
row_kept p k (Some i) rows = refl

-- keys are kept before or after
rows_kept : (p : Key → Bool) (volume : ℕ) (es : List Past) → rows_at (filter (λ e. p e.0) es) volume ≡ filter (λ e. p e.0) (rows_at es volume)
rows_kept p volume [] = refl
rows_kept p volume (e ∷ es) = by_test (rows_kept p volume es) (p e.0) ∙ sym (row_kept p e.0 (standing_at e.1 volume) (rows_at es volume))
  where
    by_test : rows_at (filter (λ e. p e.0) es) volume ≡ filter (λ e. p e.0) (rows_at es volume) → (b : Bool)
        → rows_at (cond b (e ∷ filter (λ e. p e.0) es) (filter (λ e. p e.0) es)) volume ≡ cond b (row e.0 (standing_at e.1 volume) (filter (λ e. p e.0) (rows_at es volume))) (filter (λ e. p e.0) (rows_at es volume))
    by_test rest true = ap (row e.0 (standing_at e.1 volume)) rest
    by_test rest false = rest

with_kept : (p : Key → Bool) (es : List Past) (ks : List Key) → with_versions (filter p ks) es ≡ filter (λ e. p e.0) (with_versions ks es)
with_kept p es [] = refl
with_kept p es (k ∷ ks) =
    let rest = with_kept p es ks in
    elim (p k) as (λ b. with_versions (cond b (k ∷ filter p ks) (filter p ks)) es ≡ cond b ((k, versions_among es k) ∷ filter (λ e. p e.0) (with_versions ks es)) (filter (λ e. p e.0) (with_versions ks es))) [
      | true ↦ ap (λ l. (k, versions_among es k) ∷ l) rest
      | false ↦ rest
    ]

keys_kept : (p : Key → Bool) (volume : ℕ) (es : List Past) (ks : List Key) → rows_at (with_versions (filter p ks) es) volume ≡ filter (λ e. p e.0) (rows_at (with_versions ks es) volume)
keys_kept p volume es ks = ap (λ (l : List Past). rows_at l volume) (with_kept p es ks) ∙ rows_kept p volume (with_versions ks es)

-- ---- the start

and_swap : (a b : Bool) → (a && b) ≡ (b && a)
and_swap true true = refl
and_swap true false = refl
and_swap false true = refl
and_swap false false = refl

pub from_start : (kind : Kind) (after : Option Key) (volume : ℕ) (es : List Past) (ks fs : List Key) → fs ≡ filter (comes_after after) ks
    → filter (λ e. is_of kind e.0) (rows_at (with_versions fs es) volume) ≡ filter (λ e. is_of kind e.0 && comes_after after e.0) (rows_at (with_versions ks es) volume)
from_start kind after volume es ks fs is =
    ap (λ (l : List Key). filter (λ e. is_of kind e.0) (rows_at (with_versions l es) volume)) is
    ∙ ap (filter (λ e. is_of kind e.0)) (keys_kept (comes_after after) volume es ks)
    ∙ passes (λ (e : Row). comes_after after e.0) (λ e. is_of kind e.0) (rows_at (with_versions ks es) volume)
    ∙ filter_agree _ _ (λ (e : Row). and_swap (comes_after after e.0) (is_of kind e.0)) (rows_at (with_versions ks es) volume)

pub part_ascends : (after : Option Key) (ks fs : List Key) → fs ≡ filter (comes_after after) ks → Ascends ks → Ascends fs
part_ascends after ks fs is h = subst Ascends (sym is) (IsStrictlySortedBy-filter key_cmp (comes_after after) ks h)

-- whether a page after a key passes over another
abbrev pub passed : Key → Key → Bool
passed a k = not (is_lt (key_cmp a k))

is_less : (o : Ordering) → is_lt o ≡ true → o ≡ Less
is_less Less e = refl
is_less Equal e = cc
is_less Greater e = cc

-- it passes over a key where it passes over a later one
passed_before : (a k y : Key) → key_cmp k y ≡ Less → passed a y ≡ true → passed a k ≡ true
passed_before a k y less is = by_test (is_lt (key_cmp a k)) refl
  where
    by_test : (b : Bool) → is_lt (key_cmp a k) ≡ b → not b ≡ true
    by_test true at =
        let more : key_cmp a y ≡ Less = keys_total.trans a k y (is_less (key_cmp a k) at) less in
        ap (λ o. not (is_lt o)) (sym more) ∙ is
    by_test false at = refl

at_place : (P : Key → Type 0) (ks : List Key) (j : ℕ) (d : Key) → AllByRecursion P ks → j < length ks → P (slice_index_or ks j d)
at_place P [] j d h lt = absurd (omega arith)
at_place P (k ∷ ks) zero d h lt = h.0
at_place P (k ∷ ks) (suc j) d h lt = at_place P ks j d h.1 (omega arith)

pub passed_first : (a : Key) (ks : List Key) → Ascends ks → IsPartitionedBy (passed a) ks
unfolding IsStrictlySortedBy
passed_first a [] h i j d le lt is = absurd (omega arith)
passed_first a (k ∷ ks) h zero zero d le lt is = is
passed_first a (k ∷ ks) h zero (suc j) d le lt is = passed_before a k (slice_index_or ks j d) (at_place (λ y. key_cmp k y ≡ Less) ks j d h.0 (omega arith)) is
passed_first a (k ∷ ks) h (suc i) zero d le lt is = absurd (omega arith)
passed_first a (k ∷ ks) h (suc i) (suc j) d le lt is = passed_first a ks h.1 i j d (omega arith) (omega arith) is

module _ (p : Key → Bool) where
  turned : (b c : Bool) → not b ≡ not c → b ≡ c
  turned true true e = refl
  turned true false e = cc
  turned false true e = cc
  turned false false e = refl

  all_kept : (ks : List Key) → AllWithin (λ k. not (p k) ≡ false) ks 0 (length ks) → filter p ks ≡ ks
  all_kept [] h = refl
  all_kept (k ∷ ks) h =
      ap (λ b. cond b (k ∷ filter p ks) (filter p ks)) (turned (p k) true (h 0 k (omega arith) (omega arith)))
      ∙ ap (λ l. k ∷ l) (all_kept ks (λ n d low lt. h (suc n) d (omega arith) (omega arith)))

  pub behind : (ks : List Key) (i : ℕ) → IsPartitionPoint (λ k. not (p k) ≡ true) (λ k. not (p k) ≡ false) ks i → drop i ks ≡ filter p ks
  behind [] zero h = refl
  behind [] (suc i) h = refl
  behind (k ∷ ks) zero h = sym (all_kept (k ∷ ks) h.1)
  behind (k ∷ ks) (suc i) h =
      behind ks i ((λ n d low lt. h.0 (suc n) d (omega arith) (omega arith)), (λ n d low lt. h.1 (suc n) d (omega arith) (omega arith)))
      ∙ sym (ap (λ b. cond b (k ∷ filter p ks) (filter p ks)) (turned (p k) false (h.0 0 k (omega arith) (omega arith))))

-- a page from the start passes over none
pub from_first : (ks : List Key) → ks ≡ filter (comes_after None) ks
from_first [] = refl
from_first (k ∷ ks) = ap (λ l. k ∷ l) (from_first ks)

-- ---- the end

not_of : (kind : Kind) (k : Key) → is_past kind k ≡ true → is_of kind k ≡ false
not_of kind.Street (key.Street n) h = cc
not_of kind.Descriptor (key.Descriptor n l) h = cc
not_of kind.Blpu (key.Blpu n) h = cc
not_of kind.Xref (key.Xref t) h = cc
not_of kind.Lpi (key.Lpi t) h = cc
not_of a b h = refl

not_above : (x y : ℕ) → y < x → nat_cmp x y ≡ Greater
not_above x y h = sym (nat_cmp_is x y Greater h)

later : (x y : ℕ) (o : Ordering) → ordering_then (nat_cmp x y) o ≡ Less → x ≤ y
later x y o e = elim (cases_lt y x) [ inl h ↦ absurd (greater_first o (ap (λ r. ordering_then r o) (sym (not_above x y h)) ∙ e)) | inr h ↦ h ]
  where
    greater_first : (o : Ordering) → Greater ≡ Less → ⊥
    greater_first o e = cc

past_on : (kind : Kind) (a b : Key) → is_past kind a ≡ true → key_cmp a b ≡ Less → is_past kind b ≡ true
past_on kind a b h e =
    let more = later (kind_number a) (kind_number b) _ e in
    grind (arith, nat_tests)

none_past : (kind : Kind) (k : Key) (ks : List Key) → Ascends (k ∷ ks) → is_past kind k ≡ true → filter (is_of kind) (k ∷ ks) ≡ []
unfolding IsStrictlySortedBy
none_past kind k ks h past = ap (λ b. cond b (k ∷ filter (is_of kind) ks) (filter (is_of kind) ks)) (not_of kind k past) ∙ rest ks h.0
  where
    rest : (qs : List Key) → AllByRecursion (λ y. key_cmp k y ≡ Less) qs → filter (is_of kind) qs ≡ []
    rest [] h = refl
    rest (q ∷ qs) h = ap (λ b. cond b (q ∷ filter (is_of kind) qs) (filter (is_of kind) qs)) (not_of kind q (past_on kind k q past h.0)) ∙ rest qs h.1

nothing_past : (kind : Kind) (volume : ℕ) (es : List Past) (k : Key) (ks : List Key) → Ascends (k ∷ ks) → is_past kind k ≡ true → filter (λ e. is_of kind e.0) (rows_at (with_versions (k ∷ ks) es) volume) ≡ []
nothing_past kind volume es k ks h past = sym (keys_kept (is_of kind) volume es (k ∷ ks)) ∙ ap (λ (l : List Key). rows_at (with_versions l es) volume) (none_past kind k ks h past)

-- ---- a page, key by key

module _ (kind : Kind) (volume : ℕ) (es : List Past) (all : List Item) (found : List Item) where
  abbrev left : List Key → List Item
  left ks = map (λ e. e.1) (filter (λ e. is_of kind e.0) (rows_at (with_versions ks es) volume))

  -- the item at a key that is wanted
  abbrev wanted : Key → Option Item
  wanted k = cond (is_of kind k) (standing_at (versions_among es k) volume) None

  items_by : (b : Bool) (k : Key) (o : Option Item) (rows : List Row) → map (λ (e : Row). e.1) (cond b (row k o rows) rows) ≡ cons_option (cond b o None) (map (λ (e : Row). e.1) rows)
  items_by true k None rows = refl
  items_by true k (Some i) rows = refl
  items_by false k o rows = refl

  left_with : (k : Key) (rest : List Key) → left (k ∷ rest) ≡ cons_option (wanted k) (left rest)
  left_with k rest =
      let o = standing_at (versions_among es k) volume in
      ap (map (λ (e : Row). e.1)) (row_kept (is_of kind) k o (rows_at (with_versions rest es) volume)) ∙ items_by (is_of kind k) k o _

  pub told_in : (k : Key) (i : Item) (fs rest : List Key) → fs ≡ k ∷ rest → Some i ≡ wanted k → found ++ left fs ≡ all → (found ++ i ∷ []) ++ left rest ≡ all
  told_in k i fs rest is there told =
      append_assoc found (i ∷ []) (left rest) ∙ ap (λ o. found ++ cons_option o (left rest)) there ∙ ap (λ l. found ++ l) (sym (left_with k rest)) ∙ ap (λ l. found ++ left l) (sym is) ∙ told

  pub told_out : (k : Key) (fs rest : List Key) → fs ≡ k ∷ rest → None ≡ wanted k → found ++ left fs ≡ all → found ++ left rest ≡ all
  told_out k fs rest is none told = ap (λ o. found ++ cons_option o (left rest)) none ∙ ap (λ l. found ++ l) (sym (left_with k rest)) ∙ ap (λ l. found ++ left l) (sym is) ∙ told

  pub full : (most : ℕ) (fs : List Key) → found ++ left fs ≡ all → length found ≡ most → found ≡ take most all
  full most fs told long = sym (take-append_seam found (left fs)) ∙ (λ i. take (long i) (told i))

  pub past : (most : ℕ) (k : Key) (fs rest : List Key) → fs ≡ k ∷ rest → Ascends fs → is_past kind k ≡ true → found ++ left fs ≡ all → length found ≤ most → found ≡ take most all
  past most k fs rest is ascend over told few =
      let whole : found ≡ all =
      sym (append-nil found) ∙ ap (λ l. found ++ map (λ e. e.1) l) (sym (nothing_past kind volume es k rest (subst Ascends is ascend) over)) ∙ ap (λ l. found ++ left l) (sym is) ∙ told in
      sym (take_all most found few) ∙ ap (take most) whole

-- the keys behind the first ascend too
rest_ascends : (k : Key) (ks : List Key) → Ascends (k ∷ ks) → Ascends ks
unfolding IsStrictlySortedBy
rest_ascends k ks h = h.1

pub next_ascends : (k : Key) (fs rest : List Key) → fs ≡ k ∷ rest → Ascends fs → Ascends rest
next_ascends k fs rest is h = rest_ascends k rest (subst Ascends is h)

next_key : (ks : List Key) (i : ℕ) (k : Key) → i < length ks → k ≡ slice_index_or ks i k → drop i ks ≡ k ∷ drop (suc i) ks
next_key [] i k lt is = absurd (omega arith)
next_key (x ∷ xs) zero k lt is = ap (λ y. y ∷ xs) (sym is)
next_key (x ∷ xs) (suc i) k lt is = next_key xs i k (omega arith) is

-- the key at a place stands before those behind it
pub steps : (ks : List Key) (i : ℕ) (k : Key) → i < length ks → k ≡ slice_index_or ks i k → drop i ks ≡ k ∷ drop (i + 1) ks
steps ks i k lt is =
    let e : suc i ≡ i + 1 = omega arith in
    next_key ks i k lt is ∙ ap (λ n. k ∷ drop n ks) e
