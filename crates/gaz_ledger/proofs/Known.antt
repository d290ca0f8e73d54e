-- What is known of properties stays so where an item comes or goes.
use Rattle.std.proofs.Common.{◌≡◌, ◌∙◌, ◌||◌, ◌⊎◌, ◌++◌, ◌∷◌, [], ℕ, Bool, true, false, cond, List, map, length, refl, sym, ap, subst, inl, inr, eq-eqb, slice_get, unwrap_or}
use Rattle.std.specs.Prelude.{Option, Some, None, filter, is_some, option_map}
use Rattle.std.proofs.Math.Path.{fun_ext}
use Rattle.std.specs.Cmp.{tied_itself}
use Rattle.std.specs.FinMap as finite
use Rattle.std.specs.FinMap.{find, get-entries}
use Rattle.std.specs.List.{filter_map}
use Rattle.std.specs.Map.{keys_of}
use Rattle.std.specs.Option.{IfSome, option_and_then, option_map_or}
use Rattle.std.specs.Ordering.{eq_by_cmp, is_eq}
use Rattle.gaz_records.proofs.KeyOrder.{keys_total}
use Rattle.gaz_records.specs.Keys.{key_cmp, key_of}
use Rattle.gaz_records.specs.declared.item.Item.{Item}
use Rattle.gaz_records.specs.declared.key.Key.{Key}
use Rattle.gaz_records.specs.declared.key.Key.TheVariants.{Blpu}
use Rattle.gaz_views.proofs.SameKeys.{same_key}
use Rattle.gaz_views.specs.Judgements.{Judgement}
use Rattle.gaz_views.specs.Accounts.{last_of}
use Rattle.gaz_views.specs.View.{View, empty_view, with_item, without_key}
use Rattle.gaz_views.specs.Words.{address_of, entries, first_of, property_of}
use Rattle.gaz_views.specs.declared.property.Property.{Property}
use Rattle.gaz_views.specs.declared.verdict.Verdict.{Verdict}
use Rattle.gaz_standing.proofs.KeyHistories.{view_ascends}
use Rattle.gaz_standing.proofs.Marked.{first_marked, passes}
use Rattle.gaz_standing.proofs.Marks.{mark_itself}
use Rattle.gaz_standing.proofs.Passing.{Row, has, held, rows_ascend}
use Rattle.gaz_standing.specs.Indexes.{has_mark, marked_at, marked_item}
use Rattle.gaz_standing.specs.declared.index.Mark.{Mark}
use Rattle.gaz_standing.specs.declared.index.Mark.TheVariants.{AddressOf}
use Rattle.gaz_ledger.specs.Properties.{AreSo, is_address_of, is_blpu, known_in}
use Rattle.gaz_ledger.specs.declared.properties.Properties.{Properties}

-- ---- an address is that of the items that have its mark

module _ (m : Mark) (v w : View) (same : (k : Key) → marked_item (entries w) m k ≡ marked_item (entries v) m k) where
  tested : (o : Option Item) → option_map_or (has_mark m) o false ≡ is_some (option_and_then (λ i. cond (has_mark m i) (Some i) None) o)
  tested None = refl
  tested (Some i) = either (has_mark m i)
    where
      either : (b : Bool) → b ≡ is_some (cond b (Some i) None)
      either true = refl
      either false = refl

  abbrev keys : List Key
  keys = keys_of (filter (passes m) (entries v))

  kept : (k : Key) → has keys k ≡ marked_at (entries v) m k
  kept k = held (has_mark m) (entries v) (view_ascends v) k

  found : (es : List Row) (k : Key) → has keys k ≡ marked_at es m k → IfSome (find key_cmp k es) (λ i. has_mark m i ≡ true → has keys k ≡ true)
  found es k is = by_item (find key_cmp k es) is
    where
      by_item : (o : Option Item) → has keys k ≡ option_map_or (has_mark m) o false → IfSome o (λ i. has_mark m i ≡ true → has keys k ≡ true)
      by_item None is = tt
      by_item (Some i) is = λ marked. is ∙ marked

  as_marked : (k : Key) → has keys k ≡ marked_at (entries w) m k
  as_marked k = kept k ∙ tested (find key_cmp k (entries v)) ∙ ap is_some (sym (same k)) ∙ sym (tested (find key_cmp k (entries w)))

  pub same_first : option_map (λ (e : Row). e.1) (first_of (filter (passes m) (entries w))) ≡ option_map (λ (e : Row). e.1) (first_of (filter (passes m) (entries v)))
  same_first =
      let in_order = rows_ascend (passes m) (entries v) (view_ascends v) in
      sym (first_marked m (entries w) keys (view_ascends w) in_order (λ k. found (entries w) k (as_marked k)))
      ∙ ap (λ (f : Key → Option Item). first_of (filter_map f keys)) (fun_ext same)
      ∙ first_marked m (entries v) keys (view_ascends v) in_order (λ k. found (entries v) k (kept k))

-- ---- a property that a change at a key doesn't touch

module _ (v w : View) (key : Key) (others : (k : Key) → eq_by_cmp key_cmp k key ≡ false → finite.get w.items k ≡ finite.get v.items k) where
  unmarked : (es : List Row) (m : Mark) → marked_at es m key ≡ false → marked_item es m key ≡ None
  unmarked es m is = by_item (find key_cmp key es) is
    where
      by_test : (i : Item) (b : Bool) → b ≡ false → ◌≡◌ {A = Option Item} (cond b (Some i) None) None
      by_test i true e = cc
      by_test i false e = refl

      by_item : (o : Option Item) → option_map_or (has_mark m) o false ≡ false → option_and_then (λ i. cond (has_mark m i) (Some i) None) o ≡ None
      by_item None e = refl
      by_item (Some i) e = by_test i (has_mark m i) e

  same_marked : (m : Mark) → marked_at (entries v) m key ≡ false → marked_at (entries w) m key ≡ false → (k : Key) → marked_item (entries w) m k ≡ marked_item (entries v) m k
  same_marked m was is k = by_same (eq_by_cmp key_cmp k key) refl
    where
      by_same : (b : Bool) → eq_by_cmp key_cmp k key ≡ b → marked_item (entries w) m k ≡ marked_item (entries v) m k
      by_same true at = subst (λ (q : Key). marked_item (entries w) m q ≡ marked_item (entries v) m q) (sym (same_key k key at)) (unmarked (entries w) m is ∙ sym (unmarked (entries v) m was))
      by_same false at = ap (option_and_then (λ i. cond (has_mark m i) (Some i) None)) (sym (get-entries w.items k) ∙ others k at ∙ get-entries v.items k)

  same_blpu : (uprn : ℕ) → is_blpu uprn key ≡ false → finite.get w.items (Blpu uprn) ≡ finite.get v.items (Blpu uprn)
  same_blpu uprn not = by_same (eq_by_cmp key_cmp (Blpu uprn) key) refl
    where
      by_same : (b : Bool) → eq_by_cmp key_cmp (Blpu uprn) key ≡ b → finite.get w.items (Blpu uprn) ≡ finite.get v.items (Blpu uprn)
      by_same true at = let is : true ≡ false = sym (eq-eqb uprn uprn refl) ∙ ap (is_blpu uprn) (same_key (Blpu uprn) key at) ∙ not in cc
      by_same false at = others (Blpu uprn) at

  same_property : (uprn : ℕ) → is_blpu uprn key ≡ false → marked_at (entries v) (AddressOf uprn) key ≡ false → marked_at (entries w) (AddressOf uprn) key ≡ false → property_of w uprn ≡ property_of v uprn
  same_property uprn not was is =
      let addresses : address_of w uprn ≡ address_of v uprn = same_first (AddressOf uprn) v w (same_marked (AddressOf uprn) was is) in
      λ i. option_map (λ b. record { blpu = b; address = addresses i }) (same_blpu uprn not i)

  module _ (old new : Properties) (was comes : Option Mark × Option Mark)
      (had : (m : Mark) → marked_at (entries v) m key ≡ true → (was.0 ≡ Some m) ⊎ (was.1 ≡ Some m))
      (has_now : (m : Mark) → marked_at (entries w) m key ≡ true → (comes.0 ≡ Some m) ⊎ (comes.1 ≡ Some m))
      (same : (n : ℕ) (p : Property) → known_in new n ≡ Some p → known_in old n ≡ Some p)
      (blpu : (n : ℕ) (p : Property) → known_in new n ≡ Some p → is_blpu n key ≡ false)
      (lost : (n : ℕ) (p : Property) → known_in new n ≡ Some p → (is_address_of n was.0 || is_address_of n was.1) ≡ false)
      (got : (n : ℕ) (p : Property) → known_in new n ≡ Some p → (is_address_of n comes.0 || is_address_of n comes.1) ≡ false) where
    -- a key has no mark that isn't among these
    without : (marks : Option Mark × Option Mark) (es : List Row) (n : ℕ) → ((m : Mark) → marked_at es m key ≡ true → (marks.0 ≡ Some m) ⊎ (marks.1 ≡ Some m)) → (is_address_of n marks.0 || is_address_of n marks.1) ≡ false → marked_at es (AddressOf n) key ≡ false
    without marks es n among none = by_test (marked_at es (AddressOf n) key) refl
      where
        here : is_address_of n (Some (AddressOf n)) ≡ true
        here = mark_itself (AddressOf n)

        or_true : (a : Bool) → (a || true) ≡ true
        or_true true = refl
        or_true false = refl

        there : (marks.0 ≡ Some (AddressOf n)) ⊎ (marks.1 ≡ Some (AddressOf n)) → (is_address_of n marks.0 || is_address_of n marks.1) ≡ true
        there (inl e) = ap (λ b. b || is_address_of n marks.1) (ap (is_address_of n) e ∙ here)
        there (inr e) = ap (λ b. is_address_of n marks.0 || b) (ap (is_address_of n) e ∙ here) ∙ or_true (is_address_of n marks.0)

        by_test : (b : Bool) → marked_at es (AddressOf n) key ≡ b → marked_at es (AddressOf n) key ≡ false
        by_test true at = let both : true ≡ false = sym (there (among (AddressOf n) at)) ∙ none in cc
        by_test false at = at

    pub still_so : AreSo old v → AreSo new w
    still_so so n = by_known (known_in new n) refl
      where
        by_known : (o : Option Property) → known_in new n ≡ o → IfSome o (λ p. property_of w n ≡ Some p)
        by_known None is = tt
        by_known (Some p) is =
            same_property n (blpu n p is) (without was (entries v) n had (lost n p is)) (without comes (entries w) n has_now (got n p is))
            ∙ subst (λ o. IfSome o (λ q. property_of v n ≡ Some q)) (same n p is) (so n)

-- what is known less is so still
pub fewer : (old new : Properties) (v : View) → ((n : ℕ) (p : Property) → known_in new n ≡ Some p → known_in old n ≡ Some p) → AreSo old v → AreSo new v
fewer old new v same so n = by_known (known_in new n) refl
  where
    by_known : (o : Option Property) → known_in new n ≡ o → IfSome o (λ p. property_of v n ≡ Some p)
    by_known None is = tt
    by_known (Some p) is = subst (λ o. IfSome o (λ q. property_of v n ≡ Some q)) (same n p is) (so n)

-- ---- an item comes

itself : (k : Key) → eq_by_cmp key_cmp k k ≡ true
itself k = ap is_eq (tied_itself keys_total k)

pub others_put : (v : View) (i : Item) (k : Key) → eq_by_cmp key_cmp k (key_of i) ≡ false → finite.get (with_item v i).items k ≡ finite.get v.items k
others_put v i k other = finite.get-insert keys_total v.items (key_of i) i k ∙ ap (λ b. cond b (Some i) (finite.get v.items k)) other

pub marked_put : (v : View) (i : Item) (m : Mark) → marked_at (entries (with_item v i)) m (key_of i) ≡ has_mark m i
marked_put v i m =
    ap (λ o. option_map_or (has_mark m) o false)
    (sym (get-entries (with_item v i).items (key_of i)) ∙ finite.get-insert keys_total v.items (key_of i) i (key_of i) ∙ ap (λ b. cond b (Some i) (finite.get v.items (key_of i))) (itself (key_of i)))

-- ---- an item goes

pub others_taken : (v : View) (key k : Key) → eq_by_cmp key_cmp k key ≡ false → finite.get (without_key v key).items k ≡ finite.get v.items k
others_taken v key k other = finite.get-remove keys_total v.items key k ∙ ap (λ b. cond b None (finite.get v.items k)) other

pub unmarked_taken : (v : View) (key : Key) (m : Mark) → marked_at (entries (without_key v key)) m key ≡ false
unmarked_taken v key m =
    ap (λ o. option_map_or (has_mark m) o false)
    (sym (get-entries (without_key v key).items key) ∙ finite.get-remove keys_total v.items key key ∙ ap (λ b. cond b None (finite.get v.items key)) (itself key))

-- ---- the last view

last_added : (e : View) (js : List Judgement) (j : Judgement) → slice_get (e ∷ map (λ (j : Judgement). j.view) (js ++ j ∷ [])) (length (js ++ j ∷ [])) ≡ Some j.view
last_added e [] j = refl
last_added e (x ∷ js) j = last_added x.view js j

pub last_judged : (js : List Judgement) (d : Verdict) (w : View) → last_of (record { judged = js ++ record { verdict = d; view = w } ∷ []; working = w }) ≡ w
last_judged js d w = ap (λ o. unwrap_or o empty_view) (last_added empty_view js (record { verdict = d; view = w }))
