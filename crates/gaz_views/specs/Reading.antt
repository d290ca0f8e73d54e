-- What is read page by page.
use Rattle.std.specs.Prelude.{◌-◌, ℕ, nat_le, List, [], length, slice_get, Option, Some, None}
use Rattle.std.specs.Prelude.{option_map, if◌then◌else◌}
use Rattle.gaz_records.specs.Keys.{key_of}
use Rattle.gaz_records.specs.declared.item.Item.{Item}
use Rattle.gaz_records.specs.declared.item.Kind.{Kind}
use Rattle.gaz_records.specs.declared.key.Key.{Key}
use Rattle.gaz_views.specs.View.{View}
use Rattle.gaz_views.specs.Words.{rest_of}

-- the items of a kind that are left, where the next page begins after a key; none are left where
-- there is no next page
abbrev pub left_after : View → Kind → Option Key → List Item
left_after v kind None = []
left_after v kind (Some k) = rest_of v kind (Some k)

-- the key of a full page's last item, after which the next page begins
abbrev pub next_after : ℕ → List Item → Option Key
next_after most items =
    if nat_le most (length items)
    then option_map key_of (slice_get items (length items - 1)) else None
