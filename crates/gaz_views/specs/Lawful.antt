-- What every view of a gazetteer keeps to.
use Rattle.std.specs.Prelude.{◌≡◌, Some, true}
use Rattle.std.specs.Coded.{Coded-set, coded_bool}
use Rattle.std.specs.FinMap as map
use Rattle.gaz_records.specs.Items.{is_entry}
use Rattle.gaz_records.specs.Keys.{key_of}
use Rattle.gaz_records.specs.contracts.key.Key as key
use Rattle.gaz_records.specs.declared.item.Item.{Item}
use Rattle.gaz_records.specs.declared.key.Key.{Key}
use Rattle.gaz_views.specs.View.{View, holds, was_used}

-- each item is an entry: nothing else stands in a view
abbrev pub HasEntries : View → Type 0
HasEntries v = (k : Key) (i : Item) → map.get v.items k ≡ Some i → is_entry i ≡ true

-- each item stands under its own key
abbrev pub IsKeyed : View → Type 0
IsKeyed v = (k : Key) (i : Item) → map.get v.items k ≡ Some i → key_of i ≡ k

-- each item is an entry and stands under its own key, and each key at which one stands was used
pub record IsLawfulView (v : View) : Type 0 where
  pub entries : HasEntries v
  pub keyed : IsKeyed v
  pub used : (k : Key) → holds v k ≡ true → was_used v k ≡ true

-- a view is lawful in one way
pub IsLawfulView-prop : (v : View) → IsProp (IsLawfulView v)
IsLawfulView-prop v = λ a b i. record {
  entries = λ k x there. Coded-set coded_bool _ _ (a.entries k x there) (b.entries k x there) i;
  keyed = λ k x there. Coded-set key.the_row.coded _ _ (a.keyed k x there) (b.keyed k x there) i;
  used = λ k there. Coded-set coded_bool _ _ (a.used k there) (b.used k there) i;
}
