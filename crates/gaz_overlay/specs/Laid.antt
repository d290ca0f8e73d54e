-- A view with changes laid over it.
use Rattle.std.specs.Prelude.{not, Bool, ◌++◌, List, Option, Some, None, if◌then◌else◌}
use Rattle.std.specs.FinMap as map
use Rattle.std.specs.FinSet as set
use Rattle.std.specs.List.{list_any}
use Rattle.std.specs.Ordering.{nat_cmp}
use Rattle.gaz_records.specs.declared.item.Item.{Item}
use Rattle.gaz_records.specs.declared.key.Key.{Key}
use Rattle.gaz_views.specs.View.{View, was_used, with_item}
use Rattle.gaz_views.specs.declared.custody.Custody.{Custody}

-- the changes have nothing to say of the key
abbrev pub untouched : View → Key → Bool
untouched s k = not (was_used s k)

-- the changes have nothing to say of one of these keys
abbrev pub any_untouched : View → List Key → Bool
any_untouched s keys = list_any (untouched s) keys

-- what became of numbers: what changes say of those that they passed on, else what was
unfoldable pub laid_custody : map.FinMap nat_cmp Custody → map.FinMap nat_cmp Custody
    → map.FinMap nat_cmp Custody
laid_custody was passed = map.from_entries (map.entries passed ++ map.entries was)

-- at a key that the changes have used what they have, else what the view has; used is what either
-- has used. Of a number that the changes have passed on what they say, else what the view says
unfoldable pub laid : View → View → View
laid v s = record {
  items = map.from_entries (map.entries s.items
      ++ map.entries (map.retain_keys v.items (untouched s)));
  used = set.union v.used s.used;
  custody = laid_custody v.custody s.custody;
}

abbrev pub with_some : View → Option Item → View
with_some s None = s
with_some s (Some i) = with_item s i

-- the changes with the item that the view has at a key, where they haven't used it
abbrev pub with_copied : View → Key → Option Item → View
with_copied s k item = if was_used s k then s else with_some s item
