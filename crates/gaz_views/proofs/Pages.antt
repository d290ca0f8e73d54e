-- What is left after a page, in entries whose keys ascend.
use Rattle.std.proofs.Common.{◌≡◌, ◌≤◌, ◌<◌, ◌-◌, ℕ, zero, suc, Bool, true, false, cond, ◌&&◌, List, [], ◌∷◌, ◌++◌, map, length, take, drop, append_assoc, refl, sym, ap, subst, ◌∙◌, arith, T, slice_get}
use Rattle.std.specs.Prelude.{Option, Some, None, filter, nat_le, option_map}
use Rattle.std.proofs.lemmas.Bool.Decides.{nat_tests}
use Rattle.std.proofs.lemmas.List.{append-nil, drop-map, length-take, take-append-drop, take_all}
use Rattle.std.specs.List.{All}
use Rattle.std.proofs.lemmas.List.Elements.{All-cons, All-filter, All-head, All-nil, All-tail, filter_agree, filter_passes}
use Rattle.std.specs.Cmp.{tied_itself}
use Rattle.std.specs.Ordering.{eq_by_cmp, is_eq, is_lt, ordering_reverse}
use Rattle.std.specs.declared.cmp.Ordering.{Ordering}
use Rattle.std.specs.declared.cmp.Ordering.TheVariants.{Less, Equal, Greater}
use Rattle.std.specs.FinMap as finite
use Rattle.std.specs.FinMap.Entries.{below_all, is_sorted, is_sorted-where_key}
use Rattle.gaz_records.proofs.KeyOrder.{keys_exact, keys_total}
use Rattle.gaz_records.specs.Keys.{key_cmp, key_of}
use Rattle.gaz_records.specs.declared.item.Item.{Item}
use Rattle.gaz_records.specs.declared.item.Kind.{Kind}
use Rattle.gaz_records.specs.declared.key.Key.{Key}
use Rattle.gaz_views.specs.Lawful.{IsKeyed}
use Rattle.gaz_views.specs.Reading.{left_after, next_after}
use Rattle.gaz_views.specs.View.{View}
use Rattle.gaz_views.specs.Words.{comes_after, entries, is_of, page, rest_of}

-- ---- lists

at : {X : Type 0} (P : X → Type 0) (xs : List X) (n : ℕ) (x : X) → All P xs → slice_get xs n ≡ Some x → P x
at P [] n x h e = cc
at P (y ∷ ys) zero x h e = let same : y ≡ x = cc in subst P same (All-head P y ys h)
at P (y ∷ ys) (suc n) x h e = at P ys n x (All-tail P y ys h) e

map_at : {X Y : Type 0} (f : X → Y) (xs : List X) (n : ℕ) (y : Y) → slice_get (map f xs) n ≡ Some y → (x : X) × (slice_get xs n ≡ Some x) × (f x ≡ y)
map_at f [] n y e = cc
map_at f (x ∷ xs) zero y e = (x, refl, cc)
map_at f (x ∷ xs) (suc n) y e = map_at f xs n y e

take_at : {X : Type 0} (m : ℕ) (xs : List X) (n : ℕ) (x : X) → slice_get (take m xs) n ≡ Some x → slice_get xs n ≡ Some x
take_at zero xs n x e = cc
take_at (suc m) [] n x e = cc
take_at (suc m) (y ∷ ys) zero x e = e
take_at (suc m) (y ∷ ys) (suc n) x e = take_at m ys n x e

pub passes : {X : Type 0} (p q : X → Bool) (xs : List X) → filter q (filter p xs) ≡ filter (λ x. p x && q x) xs
passes p q [] = refl
passes p q (x ∷ xs) = elim (p x) as (λ b. filter q (cond b (x ∷ filter p xs) (filter p xs)) ≡ cond (b && q x) (x ∷ filter (λ y. p y && q y) xs) (filter (λ y. p y && q y) xs)) [
  | true ↦ ap (λ l. cond (q x) (x ∷ l) l) (passes p q xs)
  | false ↦ passes p q xs
]

past_end : {X : Type 0} (xs : List X) (n : ℕ) → slice_get xs n ≡ None → length xs ≤ n
past_end [] n e = omega arith
past_end (x ∷ xs) zero e = cc
past_end (x ∷ xs) (suc n) e = let more = past_end xs n e in omega arith

-- ---- keys that ascend

abbrev Row : Type 0
Row = Key × Item

abbrev follows : Key → Row → Bool
follows k e = is_lt (key_cmp k e.0)

passing : (b : Bool) → b ≡ true → T b
passing b e = subst T (sym e) tt

both_true : (a b : Bool) → T (a && b) → (a ≡ true) × T b
both_true true b h = (refl, h)
both_true false b h = absurd h

second_true : (a b : Bool) → (a && b) ≡ true → b ≡ true
second_true true b e = e
second_true false b e = cc

less : (o : Ordering) → is_lt o ≡ true → o ≡ Less
less Less e = refl
less Equal e = cc
less Greater e = cc

not_itself : (k : Key) → is_lt (key_cmp k k) ≡ false
not_itself k = ap is_lt (tied_itself keys_total k)

not_back : (a b : Key) → is_lt (key_cmp a b) ≡ true → is_lt (key_cmp b a) ≡ false
not_back a b e = ap is_lt (keys_total.antisymm b a ∙ ap ordering_reverse (less _ e))

-- all behind a row follow it
rest_follows : (k : Key) (es : List Row) → T (below_all key_cmp k es) → filter (follows k) es ≡ es
rest_follows k [] h = refl
rest_follows k (e ∷ es) h =
    let two = both_true _ _ h in
    ap (λ b. cond b (e ∷ filter (follows k) es) (filter (follows k) es)) two.0 ∙ ap (λ l. e ∷ l) (rest_follows k es two.1)

-- a row at a place follows what stands in front of it
in_front : (k : Key) (es : List Row) (n : ℕ) (e : Row) → T (below_all key_cmp k es) → slice_get es n ≡ Some e → is_lt (key_cmp k e.0) ≡ true
in_front k [] n e h is = cc
in_front k (f ∷ es) zero e h is = let same : f ≡ e = cc in subst (λ (x : Row). is_lt (key_cmp k x.0) ≡ true) same (both_true _ _ h).0
in_front k (f ∷ es) (suc n) e h is = in_front k es n e (both_true _ _ h).1 is

-- the rows that follow the one at a place are those behind it
behind : (es : List Row) (n : ℕ) (e : Row) → T (is_sorted key_cmp es) → slice_get es n ≡ Some e → filter (follows e.0) es ≡ drop (suc n) es
behind [] n e h is = cc
behind (f ∷ es) zero e h is =
    let same : f ≡ e = cc in
    let here = not_itself f.0 in
    subst (λ (x : Row). filter (follows x.0) (f ∷ es) ≡ es) same (ap (λ b. cond b (f ∷ filter (follows f.0) es) (filter (follows f.0) es)) here ∙ rest_follows f.0 es (passing _ (both_true _ _ h).0))
behind (f ∷ es) (suc n) e h is =
    let before = not_back f.0 e.0 (in_front f.0 es n e (passing _ (both_true _ _ h).0) is) in
    ap (λ b. cond b (f ∷ filter (follows e.0) es) (filter (follows e.0) es)) before ∙ behind es n e (both_true _ _ h).1 is

-- ---- items under their own keys

tied : (o : Ordering) → is_eq o ≡ true → o ≡ Equal
tied Less e = cc
tied Equal e = refl
tied Greater e = cc

-- a row of a key that is below them all isn't among them
none_tied : (x : Key) (es : List Row) → T (below_all key_cmp x es) → (k : Key) (i : Item) → finite.find key_cmp k es ≡ Some i → eq_by_cmp key_cmp k x ≡ false
none_tied x [] h k i e = cc
none_tied x (f ∷ es) h k i e =
    let two = both_true _ _ h in
    elim (eq_by_cmp key_cmp k f.0) as (λ b. eq_by_cmp key_cmp k f.0 ≡ b → cond b (Some f.1) (finite.find key_cmp k es) ≡ Some i → eq_by_cmp key_cmp k x ≡ false) [
      | true ↦ λ tie _.
          let same : f.0 ≡ k = sym (keys_exact k f.0 (tied _ tie)) in
          ap is_eq (keys_total.antisymm k x ∙ ap ordering_reverse (subst (λ (q : Key). key_cmp x q ≡ Less) same (less _ two.0)))
      | false ↦ λ _ found. none_tied x es two.1 k i found
    ] refl e

-- what holds of each key and item that is found holds of each row
pub of_rows : (P : Row → Type 0) (es : List Row) → T (is_sorted key_cmp es) → ((k : Key) (i : Item) → finite.find key_cmp k es ≡ Some i → P (k, i)) → All P es
of_rows P [] h found = All-nil P
of_rows P (e ∷ es) h found =
    let two = both_true _ _ h in
    let here = found e.0 e.1 (ap (λ o. cond (is_eq o) (Some e.1) (finite.find key_cmp e.0 es)) (tied_itself keys_total e.0)) in
    All-cons P e es here (of_rows P es two.1 (λ k i is. found k i (ap (λ b. cond b (Some e.1) (finite.find key_cmp k es)) (none_tied e.0 es (passing _ two.0) k i is) ∙ is)))

pub rows_keyed : (v : View) → IsKeyed v → All (λ (e : Row). key_of e.1 ≡ e.0) (entries v)
rows_keyed v keyed = of_rows (λ (e : Row). key_of e.1 ≡ e.0) (entries v) (finite.entries_sorted v.items) (λ k i is. keyed k i (finite.get-entries v.items k ∙ is))

-- ---- pages

module _ (v : View) (kind : Kind) where
  abbrev is_wanted : Option Key → Key → Bool
  is_wanted after k = is_of kind k && comes_after after k

  abbrev rows_after : Option Key → List Row
  rows_after after = filter (λ e. is_wanted after e.0) (entries v)

  -- a key after the one after which a page begins comes after that
  comes_later : (after : Option Key) (k q : Key) → comes_after after k ≡ true → is_lt (key_cmp k q) ≡ true → comes_after after q ≡ true
  comes_later None k q h e = refl
  comes_later (Some a) k q h e = ap is_lt (keys_total.trans a k q (less _ h) (less _ e))

  of_both : (a b c : Bool) → (c ≡ true → b ≡ true) → ((a && b) && c) ≡ (a && c)
  of_both false b c h = refl
  of_both true true c h = refl
  of_both true false true h = h refl
  of_both true false false h = refl

  same_tests : (after : Option Key) (k q : Key) → comes_after after k ≡ true → (is_wanted after q && is_lt (key_cmp k q)) ≡ is_wanted (Some k) q
  same_tests after k q h = of_both (is_of kind q) (comes_after after q) (is_lt (key_cmp k q)) (comes_later after k q h)

  -- the rows after the one at a place
  rows_behind : (after : Option Key) (n : ℕ) (e : Row) → slice_get (rows_after after) n ≡ Some e → rows_after (Some e.0) ≡ drop (suc n) (rows_after after)
  rows_behind after n e is =
      let sorted = is_sorted-where_key key_cmp (is_wanted after) (entries v) (finite.entries_sorted v.items) in
      let wanted = at (λ (f : Row). is_wanted after f.0 ≡ true) (rows_after after) n e (filter_passes (λ (f : Row). is_wanted after f.0) (entries v)) is in
      let later = second_true (is_of kind e.0) (comes_after after e.0) wanted in
      sym (passes (λ (f : Row). is_wanted after f.0) (follows e.0) (entries v) ∙ filter_agree _ _ (λ (f : Row). same_tests after e.0 f.0 later) (entries v))
      ∙ behind (rows_after after) n e sorted is

  -- a full page and what comes after its last item are what there was
  full_page : (after : Option Key) (most : ℕ) (i : Item) → IsKeyed v → 1 ≤ most → most ≤ length (page v kind after most) → slice_get (page v kind after most) (length (page v kind after most) - 1) ≡ Some i
      → page v kind after most ++ rest_of v kind (Some (key_of i)) ≡ rest_of v kind after
  full_page after most i keyed some full is =
      let all = rest_of v kind after in
      let long : length (take most all) ≡ most = omega (arith, length-take most all) in
      let last : suc (length (take most all) - 1) ≡ most = omega arith in
      let row = map_at (λ (e : Row). e.1) (rows_after after) (length (take most all) - 1) i (take_at most all _ i is) in
      let named = at (λ (e : Row). key_of e.1 ≡ e.0) (rows_after after) _ row.0 (All-filter _ (λ (e : Row). key_of e.1 ≡ e.0) (entries v) (rows_keyed v keyed)) row.1 in
      let same : key_of i ≡ row.0.0 = ap key_of (sym row.2) ∙ named in
      ap (λ k. take most all ++ rest_of v kind (Some k)) same
      ∙ ap (λ (es : List Row). take most all ++ map (λ e. e.1) es) (rows_behind after _ row.0 row.1 ∙ ap (λ n. drop n (rows_after after)) last)
      ∙ ap (λ l. take most all ++ l) (sym (drop-map (λ (e : Row). e.1) most (rows_after after)))
      ∙ take-append-drop most all

  -- a page and what is left after it are what there was
  pub page_then : (after : Option Key) (most : ℕ) → IsKeyed v → 1 ≤ most → page v kind after most ++ left_after v kind (next_after most (page v kind after most)) ≡ rest_of v kind after
  page_then after most keyed some = by_length (nat_le most (length (page v kind after most))) refl
    where
      all : List Item
      all = rest_of v kind after

      short : length (take most all) ≤ most
      short = omega (arith, length-take most all)

      by_last : most ≤ length (page v kind after most) → (o : Option Item) → slice_get (page v kind after most) (length (page v kind after most) - 1) ≡ o → page v kind after most ++ left_after v kind (option_map key_of o) ≡ all
      by_last full None is = let beyond = past_end (page v kind after most) (length (page v kind after most) - 1) is in absurd (omega arith)
      by_last full (Some i) is = full_page after most i keyed some full is

      by_length : (b : Bool) → nat_le most (length (page v kind after most)) ≡ b → page v kind after most ++ left_after v kind (cond b (option_map key_of (slice_get (page v kind after most) (length (page v kind after most) - 1))) None) ≡ all
      by_length true is = let full : most ≤ length (page v kind after most) = grind (arith, nat_tests) in by_last full (slice_get (page v kind after most) (length (page v kind after most) - 1)) refl
      by_length false is = let few : length (page v kind after most) < most = grind (arith, nat_tests) in ap (λ l. l ++ []) (take_all most all (omega (arith, length-take most all))) ∙ append-nil all

  -- with what was read before
  pub page_added : (after : Option Key) (most : ℕ) (was read new : List Item) (next : Option Key) → IsKeyed v → 1 ≤ most → read ≡ page v kind after most → new ≡ was ++ read → next ≡ next_after most read
      → new ++ left_after v kind next ≡ was ++ rest_of v kind after
  page_added after most was read new next keyed some is more begins =
      (λ i. more i ++ left_after v kind (begins i))
      ∙ ap (λ l. (was ++ l) ++ left_after v kind (next_after most l)) is
      ∙ append_assoc was (page v kind after most) (left_after v kind (next_after most (page v kind after most)))
      ∙ ap (λ l. was ++ l) (page_then after most keyed some)
