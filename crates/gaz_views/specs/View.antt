-- What a custodian's gazetteer holds after a volume.
use Rattle.std.specs.Prelude.{ℕ, Bool, Option}
use Rattle.std.specs.FinMap as map
use Rattle.std.specs.FinSet as set
use Rattle.std.specs.Ordering.{nat_cmp}
use Rattle.gaz_records.specs.Blpus.{BlpuValue}
use Rattle.gaz_records.specs.Keys.{key_cmp, key_of}
use Rattle.gaz_records.specs.declared.item.Item.{Item}
use Rattle.gaz_records.specs.declared.item.Item.TheVariants as item
use Rattle.gaz_records.specs.declared.key.Key.{Key}
use Rattle.gaz_records.specs.declared.key.Key.TheVariants as key
use Rattle.gaz_views.specs.Custody.{hop_of}
use Rattle.gaz_views.specs.declared.custody.Custody.{Custody}
use Rattle.gaz_views.specs.declared.custody.Custody.TheVariants.{Adopted, Released}

-- the items by their keys, each key that was ever used, and what last became of each number that
-- was passed on
pub record View : Type 0 where
  pub items : map.FinMap key_cmp Item
  pub used : set.FinSet key_cmp
  pub custody : map.FinMap nat_cmp Custody

-- a view of these items and used keys in which nothing was passed on
abbrev pub view_of : map.FinMap key_cmp Item → set.FinSet key_cmp → View
view_of items used = record { items = items; used = used; custody = map.empty }

-- the view before the first volume
unfoldable pub empty_view : View
empty_view = view_of map.empty set.empty

-- the item set at its key, which is marked as used
abbrev pub with_item : View → Item → View
with_item v i = record v {
  items = map.insert v.items (key_of i) i;
  used = set.insert v.used (key_of i);
}

-- the key's item taken; the key stays used
abbrev pub without_key : View → Key → View
without_key v k = record v { items = map.remove v.items k }

-- an item stands under the key
abbrev pub holds : View → Key → Bool
holds v k = map.contains_key v.items k

-- the key was used in the view or before it
abbrev pub was_used : View → Key → Bool
was_used v k = set.contains v.used k

-- ---- numbers that are passed on

-- what last became of a number, where it was passed on
abbrev pub custody_at : View → ℕ → Option Custody
custody_at v uprn = map.get v.custody uprn

-- how often the number had passed on when it last passed through the view
abbrev pub hop_at : View → ℕ → ℕ
hop_at v uprn = hop_of (custody_at v uprn)

-- the number released to a custodian at a hop: its BLPU is taken, if it is there, and the BLPU's
-- key is marked as used
abbrev pub with_release : View → (uprn to hop : ℕ) → View
with_release v uprn to hop = record {
  items = map.remove v.items (key.Blpu uprn);
  used = set.insert v.used (key.Blpu uprn);
  custody = map.insert v.custody uprn (Released to hop);
}

-- the BLPU adopted from a custodian at a hop: it is set at its key, which is marked as used
abbrev pub with_adoption : View → BlpuValue → (from hop : ℕ) → View
with_adoption v blpu from hop = record (with_item v (item.Blpu blpu)) {
  custody = map.insert v.custody blpu.uprn (Adopted from hop);
}
