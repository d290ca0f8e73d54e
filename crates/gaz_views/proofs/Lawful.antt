-- Views that keep to the laws of a gazetteer.
use Rattle.std.proofs.Common.{◌≡◌, ◌∙◌, ◌||◌, ℕ, Bool, true, false, cond, sym, ap, subst, refl, is_some, true≢false}
use Rattle.std.proofs.lemmas.Bool.{or_right}
use Rattle.std.specs.Prelude.{Option, Some, None}
use Rattle.std.specs.FinMap as finite
use Rattle.std.specs.FinSet as set
use Rattle.std.specs.Ordering.{eq_by_cmp}
use Rattle.gaz_records.proofs.KeyOrder.{keys_total}
use Rattle.gaz_records.specs.Blpus.{BlpuValue}
use Rattle.gaz_records.specs.Items.{is_entry}
use Rattle.gaz_records.specs.Keys.{key_cmp, key_of}
use Rattle.gaz_records.specs.declared.item.Item.{Item}
use Rattle.gaz_records.specs.declared.item.Item.TheVariants as item
use Rattle.gaz_records.specs.declared.key.Key.{Key}
use Rattle.gaz_records.specs.declared.key.Key.TheVariants as key
use Rattle.gaz_views.proofs.Emptiness.{get_none}
use Rattle.gaz_views.proofs.SameKeys.{same_key}
use Rattle.gaz_views.specs.Lawful.{IsLawfulView}
use Rattle.gaz_views.specs.View.{View, empty_view, holds, was_used, with_adoption, with_item, with_release, without_key}

pub lawful_empty : IsLawfulView empty_view
lawful_empty = record {
  entries = λ k i there. let none : Some i ≡ None = sym there ∙ get_none k in cc;
  keyed = λ k i there. let none : Some i ≡ None = sym there ∙ get_none k in cc;
  used = λ k there. absurd (true≢false (sym there ∙ ap is_some (get_none k)));
}

-- an item is set at its own key, which is used then
pub lawful_put : (v : View) (i : Item) → is_entry i ≡ true → IsLawfulView v → IsLawfulView (with_item v i)
lawful_put v i entry was = record { entries = entries; keyed = keyed; used = used }
  where
    entries : (k : Key) (j : Item) → finite.get (with_item v i).items k ≡ Some j → is_entry j ≡ true
    entries k j there = by_tie (eq_by_cmp key_cmp k (key_of i)) (sym (finite.get-insert keys_total v.items (key_of i) i k) ∙ there)
      where
        by_tie : (b : Bool) → cond b (Some i) (finite.get v.items k) ≡ Some j → is_entry j ≡ true
        by_tie true is = let same : i ≡ j = cc in subst (λ x. is_entry x ≡ true) same entry
        by_tie false is = was.entries k j is

    keyed : (k : Key) (j : Item) → finite.get (with_item v i).items k ≡ Some j → key_of j ≡ k
    keyed k j there = by_tie (eq_by_cmp key_cmp k (key_of i)) refl (sym (finite.get-insert keys_total v.items (key_of i) i k) ∙ there)
      where
        by_tie : (b : Bool) → eq_by_cmp key_cmp k (key_of i) ≡ b → cond b (Some i) (finite.get v.items k) ≡ Some j → key_of j ≡ k
        by_tie true tie is = let same : i ≡ j = cc in ap key_of (sym same) ∙ sym (same_key k (key_of i) tie)
        by_tie false tie is = was.keyed k j is

    used : (k : Key) → holds (with_item v i) k ≡ true → was_used (with_item v i) k ≡ true
    used k there = set.contains-insert keys_total v.used (key_of i) k ∙ by_tie (eq_by_cmp key_cmp k (key_of i)) (sym (ap is_some (finite.get-insert keys_total v.items (key_of i) i k)) ∙ there)
      where
        by_tie : (b : Bool) → is_some (cond b (Some i) (finite.get v.items k)) ≡ true → (b || was_used v k) ≡ true
        by_tie true is = refl
        by_tie false is = was.used k is

-- an item is taken, and its key stays used
pub lawful_taken : (v : View) (key : Key) → IsLawfulView v → IsLawfulView (without_key v key)
lawful_taken v key was = record { entries = entries; keyed = keyed; used = used }
  where
    left : (k : Key) (o : Option Item) → finite.get v.items k ≡ o → finite.get (without_key v key).items k ≡ cond (eq_by_cmp key_cmp k key) None o
    left k o is = finite.get-remove keys_total v.items key k ∙ ap (cond (eq_by_cmp key_cmp k key) None) is

    entries : (k : Key) (j : Item) → finite.get (without_key v key).items k ≡ Some j → is_entry j ≡ true
    entries k j there = by_tie (eq_by_cmp key_cmp k key) (sym (left k (finite.get v.items k) refl) ∙ there)
      where
        by_tie : (b : Bool) → cond b None (finite.get v.items k) ≡ Some j → is_entry j ≡ true
        by_tie true is = let none : None ≡ Some j = is in cc
        by_tie false is = was.entries k j is

    keyed : (k : Key) (j : Item) → finite.get (without_key v key).items k ≡ Some j → key_of j ≡ k
    keyed k j there = by_tie (eq_by_cmp key_cmp k key) (sym (left k (finite.get v.items k) refl) ∙ there)
      where
        by_tie : (b : Bool) → cond b None (finite.get v.items k) ≡ Some j → key_of j ≡ k
        by_tie true is = let none : None ≡ Some j = is in cc
        by_tie false is = was.keyed k j is

    used : (k : Key) → holds (without_key v key) k ≡ true → was_used (without_key v key) k ≡ true
    used k there = by_tie (eq_by_cmp key_cmp k key) (sym (ap is_some (left k (finite.get v.items k) refl)) ∙ there)
      where
        by_tie : (b : Bool) → is_some (cond b None (finite.get v.items k)) ≡ true → was_used v k ≡ true
        by_tie true is = absurd (true≢false (sym is))
        by_tie false is = was.used k is

-- a number is given away: its property is taken, and it stays used
pub lawful_released : (v : View) (uprn to hop : ℕ) → IsLawfulView v → IsLawfulView (with_release v uprn to hop)
lawful_released v uprn to hop was =
    let gone = lawful_taken v (key.Blpu uprn) was in
    record {
      entries = gone.entries;
      keyed = gone.keyed;
      used = λ k there. set.contains-insert keys_total v.used (key.Blpu uprn) k ∙ or_right (eq_by_cmp key_cmp k (key.Blpu uprn)) (set.contains v.used k) (gone.used k there);
    }

-- a property that is taken over is put
pub lawful_adopted : (v : View) (b : BlpuValue) (from hop : ℕ) → IsLawfulView v → IsLawfulView (with_adoption v b from hop)
lawful_adopted v b from hop was = let put = lawful_put v (item.Blpu b) refl was in record { entries = put.entries; keyed = put.keyed; used = put.used }
