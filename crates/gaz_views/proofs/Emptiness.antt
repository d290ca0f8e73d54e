-- What is read of a custodian of which nothing is kept.
use Rattle.std.proofs.Common.{◌≡◌, ◌∙◌, ◌&&◌, ℕ, zero, suc, false, List, [], map, take, refl, sym, ap}
use Rattle.std.specs.Prelude.{Option, None, filter, option_map}
use Rattle.std.specs.FinMap as finite
use Rattle.std.specs.FinSet as set
use Rattle.std.specs.List.{list_any}
use Rattle.std.specs.Ordering.{nat_cmp}
use Rattle.gaz_ids.specs.declared.lang.Lang.{Lang}
use Rattle.gaz_records.specs.Keys.{key_cmp}
use Rattle.gaz_records.specs.declared.item.Item.{Item}
use Rattle.gaz_records.specs.declared.item.Kind.{Kind}
use Rattle.gaz_records.specs.declared.key.Key.{Key}
use Rattle.gaz_records.specs.declared.key.Key.TheVariants as key
use Rattle.gaz_views.proofs.Trees.{no_entries}
use Rattle.gaz_views.specs.View.{View, custody_at, empty_view, was_used}
use Rattle.gaz_views.specs.Words.{address_of, approved_of, approved_on, comes_after, entries, has_children, is_approved_of, is_approved_on, is_child_of, is_of, page, property_of}

-- ---- the empty view

pub get_none : (k : Key) → finite.get empty_view.items k ≡ None
unfolding empty_view
get_none k = finite.get-empty key_cmp k

pub used_none : (k : Key) → was_used empty_view k ≡ false
unfolding empty_view
used_none k = set.contains-empty key_cmp k

pub no_custody : (n : ℕ) → custody_at empty_view n ≡ None
unfolding empty_view
no_custody n = finite.get-empty nat_cmp n

pub no_entries_yet : entries empty_view ≡ []
unfolding empty_view
no_entries_yet = no_entries _ _

-- ---- what its readers are told

module _ (v : View) (empty : v ≡ empty_view) where
  pub no_item : (k : Key) → None ≡ finite.get v.items k
  no_item k = sym (ap (λ (w : View). finite.get w.items k) empty ∙ get_none k)

  pub never_used : (k : Key) → false ≡ was_used v k
  never_used k = sym (ap (λ (w : View). was_used w k) empty ∙ used_none k)

  nothing_held : [] ≡ entries v
  nothing_held = sym (ap entries empty ∙ no_entries_yet)

  pub none_approved : (uprn : ℕ) → [] ≡ approved_of v uprn
  none_approved uprn = ap (λ (es : List (Key × Item)). map (λ e. e.0) (filter (λ e. is_approved_of uprn e.1) es)) nothing_held

  pub no_property : (uprn : ℕ) → None ≡ property_of v uprn
  no_property uprn = ap (λ (o : Option Item). option_map (λ b. record { blpu = b; address = address_of v uprn }) o) (no_item (key.Blpu uprn))

  pub none_approved_on : (usrn : ℕ) (lang : Option Lang) → false ≡ approved_on v usrn lang
  none_approved_on usrn lang = ap (list_any (λ (e : Key × Item). is_approved_on usrn lang e.1)) nothing_held

  pub no_children : (uprn : ℕ) → false ≡ has_children v uprn
  no_children uprn = ap (list_any (λ (e : Key × Item). is_child_of uprn e.1)) nothing_held

  pub empty_page : (kind : Kind) (after : Option Key) (most : ℕ) → [] ≡ page v kind after most
  empty_page kind after most = none_of most ∙ ap (λ (es : List (Key × Item)). take most (map (λ e. e.1) (filter (λ e. is_of kind e.0 && comes_after after e.0) es))) nothing_held
    where
      none_of : (n : ℕ) → ◌≡◌ {A = List Item} [] (take n [])
      none_of zero = refl
      none_of (suc n) = refl
