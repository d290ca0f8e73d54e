-- Questions of laid views.
use Rattle.std.proofs.Common.{◌≡◌, ◌<◌, ◌+◌, ◌∙◌, ◌++◌, length, get_or, drop, drop-cons, add-one, ◌||◌, ◌&&◌, Bool, true, false, not, cond, sym, ap, refl, ℕ, is_some, List, [], ◌∷◌, true≢false}
use Rattle.std.specs.Prelude.{Option, Some, None, filter, option_map}
use Rattle.std.specs.Cmp.{eq_by_cmp_equiv, tied_itself}
use Rattle.std.specs.FinMap as finite
use Rattle.std.specs.FinMap.{find}
use Rattle.std.specs.List.{list_any}
use Rattle.std.specs.List.Sorted.{IsStrictlySortedBy}
use Rattle.std.specs.Option.{option_and_then, option_map_or}
use Rattle.std.specs.Ordering.{eq_by_cmp, is_eq}
use Rattle.gaz_standing.proofs.KeyHistories.{view_ascends}
use Rattle.gaz_standing.proofs.Passing.{Ascends, first_row, has, held, in_key_order, is_cons, keys_back, rows_ascend, same_maps, some_keys, some_kept}
use Rattle.gaz_records.specs.contracts.key.KeyOrd.TheImpl.{cmp-value as key-value}
use Rattle.gaz_records.proofs.KeyOrder.{keys_total}
use Rattle.gaz_records.specs.Keys.{key_cmp}
use Rattle.gaz_records.specs.declared.item.Item.{Item}
use Rattle.gaz_records.specs.declared.key.Key.{Key}
use Rattle.gaz_records.specs.declared.key.Key.TheVariants as key
use Rattle.gaz_views.proofs.SameKeys.{same_key}
use Rattle.gaz_views.specs.Lawful.{IsLawfulView}
use Rattle.gaz_views.specs.View.{View, was_used}
use Rattle.gaz_views.specs.Words.{address_of, approved_of, entries, first_of, property_of, is_approved_of, is_approved_on, is_child_of, names}
use Rattle.gaz_overlay.specs.Laid.{laid, untouched}
use Rattle.gaz_overlay.specs.Questions.{LaidQuestions, both, in_order, keys_with, property_at}
use Rattle.gaz_overlay.proofs.Laid.{at_key}

-- an item of a view passes a test
abbrev any_with : (Item → Bool) → View → Bool
any_with p v = list_any (λ e. p e.1) (entries v)

-- the keys of an ascending list in order are the list
ordered : (ks : List Key) → Ascends ks → in_order ks ≡ ks
ordered ks h = keys_back ks h

same_order : (xs ys : List Key) → ((q : Key) → has xs q ≡ has ys q) → in_order xs ≡ in_order ys
same_order xs ys same = ap finite.keys (same_maps xs ys same)

-- ---- the property of a number

address_by_key : (v : View) (uprn : ℕ) → address_of v uprn ≡ option_and_then (finite.get v.items) (first_of (approved_of v uprn))
address_by_key v uprn = sym (first_row (λ e. is_approved_of uprn e.1) (entries v) (view_ascends v)) ∙ at_first (first_of (approved_of v uprn))
  where
    at_first : (o : Option Key) → option_and_then (λ k. find key_cmp k (entries v)) o ≡ option_and_then (finite.get v.items) o
    at_first None = refl
    at_first (Some k) = sym (finite.get-entries v.items k)

property_by_key : (v : View) (uprn : ℕ) (ks : List Key) → approved_of v uprn ≡ ks → property_of v uprn ≡ property_at v uprn ks
property_by_key v uprn ks is =
    let address : address_of v uprn ≡ option_and_then (finite.get v.items) (first_of ks) = address_by_key v uprn ∙ ap (λ (l : List Key). option_and_then (finite.get v.items) (first_of l)) is in
    λ i. option_map (λ blpu. record { blpu = blpu; address = address i }) (finite.get v.items (key.Blpu uprn))

-- ---- lists with the keys of two

has_both : (f : Key → Bool) (xs ys : List Key) → list_any f (xs ++ ys) ≡ (list_any f xs || list_any f ys)
has_both f [] ys = refl
has_both f (x ∷ xs) ys = elim (f x) as (λ b. (b || list_any f (xs ++ ys)) ≡ ((b || list_any f xs) || list_any f ys)) [ true ↦ refl | false ↦ has_both f xs ys ]

has_kept : (f : Key → Bool) (q : Key) (xs : List Key) → has (filter f xs) q ≡ (f q && has xs q)
has_kept f q [] = none (f q)
  where
    none : (b : Bool) → false ≡ (b && false)
    none true = refl
    none false = refl
has_kept f q (x ∷ xs) = by_test (has_kept f q xs) (eq_by_cmp key_cmp q x) refl (f x) refl
  where
    by_test : has (filter f xs) q ≡ (f q && has xs q) → (t : Bool) → eq_by_cmp key_cmp q x ≡ t → (b : Bool) → f x ≡ b → has (cond b (x ∷ filter f xs) (filter f xs)) q ≡ (f q && (t || has xs q))
    by_test rest true at true is = ap (λ t. t || has (filter f xs) q) at ∙ sym (ap (λ b. b && true) (ap f (same_key q x at) ∙ is))
    by_test rest true at false is = rest ∙ ap (λ b. b && has xs q) (ap f (same_key q x at) ∙ is) ∙ sym (ap (λ b. b && true) (ap f (same_key q x at) ∙ is))
    by_test rest false at true is = ap (λ t. t || has (filter f xs) q) at ∙ rest
    by_test rest false at false is = rest

some_both : (xs ys : List Key) → is_cons (xs ++ ys) ≡ (is_cons xs || is_cons ys)
unfolding is_cons
some_both [] ys = refl
some_both (x ∷ xs) ys = refl

itself : (k : Key) (ks : List Key) → has (k ∷ ks) k ≡ true
itself k ks = ap (λ o. is_eq o || has ks k) (tied_itself keys_total k)

same_some : (xs ys : List Key) → ((q : Key) → has xs q ≡ has ys q) → is_cons xs ≡ is_cons ys
unfolding is_cons
same_some [] [] same = refl
same_some [] (y ∷ ys) same = absurd (true≢false (sym (same y ∙ itself y ys)))
same_some (x ∷ xs) [] same = absurd (true≢false (sym (itself x xs) ∙ same x))
same_some (x ∷ xs) (y ∷ ys) same = refl

or_none : (b : Bool) → (b || false) ≡ b
or_none true = refl
or_none false = refl

-- ---- the items that pass a test

module _ (p : Item → Bool) where
  abbrev passes : Option Item → Bool
  passes o = option_map_or p o false

  held_in : (v : View) (q : Key) → has (keys_with p v) q ≡ passes (finite.get v.items q)
  held_in v q = held p (entries v) (view_ascends v) q ∙ ap passes (sym (finite.get-entries v.items q))

  any_is : (v : View) → any_with p v ≡ is_cons (keys_with p v)
  any_is v = some_kept (λ e. p e.1) (entries v) ∙ sym (some_keys (filter (λ e. p e.1) (entries v)))

  module _ (v s : View) (lawful : IsLawfulView s) where
    -- a key that the changes haven't used has no item there
    apart : (q : Key) (u : Bool) → was_used s q ≡ u → passes (cond u (finite.get s.items q) (finite.get v.items q)) ≡ ((not u && passes (finite.get v.items q)) || passes (finite.get s.items q))
    apart q true is = refl
    apart q false is = no_item (finite.get s.items q) refl
      where
        no_item : (o : Option Item) → finite.get s.items q ≡ o → passes (finite.get v.items q) ≡ (passes (finite.get v.items q) || passes o)
        no_item None none = sym (or_none (passes (finite.get v.items q)))
        no_item (Some i) some = absurd (true≢false (sym (lawful.used q (ap is_some some)) ∙ is))

    members : (q : Key) → has (keys_with p (laid v s)) q ≡ has (filter (untouched s) (keys_with p v) ++ keys_with p s) q
    members q =
        let last : has (filter (untouched s) (keys_with p v)) q ≡ (untouched s q && passes (finite.get v.items q)) =
        has_kept (untouched s) q (keys_with p v) ∙ ap (λ b. untouched s q && b) (held_in v q) in
        let own = held_in s q in
        held_in (laid v s) q ∙ ap passes (at_key v s lawful q) ∙ apart q (was_used s q) refl
        ∙ sym (has_both (eq_by_cmp key_cmp q) (filter (untouched s) (keys_with p v)) (keys_with p s) ∙ (λ i. last i || own i))

    pub keys_laid : keys_with p (laid v s) ≡ both s (keys_with p v) (keys_with p s)
    keys_laid =
        sym (ordered (keys_with p (laid v s)) (rows_ascend (λ e. p e.1) (entries (laid v s)) (view_ascends (laid v s))))
        ∙ same_order (keys_with p (laid v s)) (filter (untouched s) (keys_with p v) ++ keys_with p s) members

    pub any_laid : any_with p (laid v s) ≡ (list_any (untouched s) (keys_with p v) || any_with p s)
    any_laid =
        any_is (laid v s)
        ∙ same_some (keys_with p (laid v s)) (filter (untouched s) (keys_with p v) ++ keys_with p s) members
        ∙ some_both (filter (untouched s) (keys_with p v)) (keys_with p s)
        ∙ (λ i. sym (some_kept (untouched s) (keys_with p v)) i || sym (any_is s) i)

pub laid_questions : LaidQuestions
laid_questions v s lawful = record {
  approved_of = λ uprn. keys_laid (is_approved_of uprn) v s lawful;
  property_of = λ uprn. property_by_key (laid v s) uprn (both s (approved_of v uprn) (approved_of s uprn)) (keys_laid (is_approved_of uprn) v s lawful);
  approved_on = λ usrn lang. any_laid (is_approved_on usrn lang) v s lawful;
  has_children = λ uprn. any_laid (is_child_of uprn) v s lawful;
  tied = λ uprn. any_laid (names uprn) v s lawful;
}

-- ---- keys of two lists as they are merged

pub in_turn : (none mid ks xs ys : List Key) → none ≡ [] → ((q : Key) → has mid q ≡ (has none q || has xs q)) → ((q : Key) → has ks q ≡ (has mid q || has ys q)) → IsStrictlySortedBy key-value.it ks → ks ≡ in_order (xs ++ ys)
in_turn none mid ks xs ys empty first second sorted =
    sym (ordered ks (in_key_order ks sorted)) ∙ same_order ks (xs ++ ys) (λ q. second q ∙ ap (λ b. b || has ys q) (first q ∙ ap (λ (l : List Key). has l q || has xs q) empty) ∙ sym (has_both (eq_by_cmp key_cmp q) xs ys))

turned : (a b c : Bool) → ((a || b) || c) ≡ (b || (a || c))
turned true true c = refl
turned true false c = refl
turned false b c = refl

-- one more key is added, and those that are left
pub added_next : (old new xs : List Key) (i : ℕ) (x : Key) → i < length xs → x ≡ get_or xs i x → (q : Key) → has new q ≡ (eq_by_cmp key_cmp x q || has old q)
    → (has new q || has (drop (i + 1) xs) q) ≡ (has old q || has (drop i xs) q)
added_next old new xs i x short is q adds =
    let next : drop i xs ≡ x ∷ drop (i + 1) xs = rw (add-one, drop-cons xs i x short, ← is) refl in
    ap (λ b. b || has (drop (i + 1) xs) q) (adds ∙ ap (λ b. b || has old q) ((eq_by_cmp_equiv keys_total).symm x q)) ∙ turned (eq_by_cmp key_cmp q x) (has old q) (has (drop (i + 1) xs) q) ∙ ap (λ (l : List Key). has old q || has l q) (sym next)
