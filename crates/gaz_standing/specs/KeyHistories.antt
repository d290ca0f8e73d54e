-- A gazetteer through its volumes.
use Rattle.std.specs.Prelude.{◌≡◌, ◌&&◌, ℕ, true, if◌then◌else◌, List, [], map, filter}
use Rattle.std.specs.Prelude.{Option, None, unwrap_or, option_map, is_some}
use Rattle.std.specs.FinMap as finite
use Rattle.std.specs.FinSet as set
use Rattle.std.specs.List.{filter_map, list_any}
use Rattle.std.specs.Map.{lookup}
use Rattle.std.specs.Ordering.{eq_by_cmp}
use Rattle.gaz_histories.specs.Histories.{Versions, standing_at, was_used_at}
use Rattle.gaz_records.specs.Keys.{key_cmp}
use Rattle.gaz_records.specs.declared.item.Item.{Item}
use Rattle.gaz_records.specs.declared.item.Kind.{Kind}
use Rattle.gaz_records.specs.declared.key.Key.{Key}
use Rattle.gaz_views.specs.View.{View, view_of}
use Rattle.gaz_views.specs.Words.{comes_after, is_of}

-- the versions of a key at which items stand
abbrev pub ItemVersions : Type 0
ItemVersions = Versions Item

-- what stood at each key that was ever used
abbrev pub KeyHistories : Type 0
KeyHistories = finite.FinMap key_cmp ItemVersions

-- what stood at a key; nothing where it was never used
abbrev pub versions_at : KeyHistories → Key → ItemVersions
versions_at g k = unwrap_or (finite.get g k) []

-- these are the versions of a key now, and all others are as they were
abbrev pub ChangesAt : KeyHistories → KeyHistories → Key → ItemVersions → Type 0
ChangesAt old new key vs =
    (k : Key) → versions_at new k ≡ (if eq_by_cmp key_cmp key k then vs else versions_at old k)

-- ---- as it is kept: entries in any order, and their keys in order beside them

-- what an entry has at a key; nothing where there is none
abbrev pub versions_among : List (Key × ItemVersions) → Key → ItemVersions
versions_among es k = unwrap_or (lookup (eq_by_cmp key_cmp k) es) []

-- these keys, each with what an entry has there
abbrev pub with_versions : List Key → List (Key × ItemVersions) → List (Key × ItemVersions)
with_versions ks es = map (λ k. (k, versions_among es k)) ks

-- each key of which there is an entry is among these; at others nothing ever stood
abbrev pub HasTheKeysOf : List Key → List (Key × ItemVersions) → Type 0
HasTheKeysOf ks es =
    (k : Key)
    → is_some (lookup (eq_by_cmp key_cmp k) es) ≡ true
    → list_any (eq_by_cmp key_cmp k) ks ≡ true

-- ---- the view after a volume

-- the keys at which something stands, in order, each with what stands there
abbrev pub rows_at : {K T : Type 0} → List (K × Versions T) → ℕ → List (K × T)
rows_at es volume = filter_map (λ e. option_map (λ i. (e.0, i)) (standing_at e.1 volume)) es

-- the items of a kind among such rows that come after a key
abbrev pub items_after : Kind → Option Key → List (Key × Item) → List Item
items_after kind after rows =
    map (λ e. e.1) (filter (λ e. is_of kind e.0 && comes_after after e.0) rows)

-- what stands at a key of the kind after a volume; nothing at keys of other kinds
abbrev pub item_of_kind : Kind → List (Key × ItemVersions) → Key → ℕ → Option Item
item_of_kind kind es k volume =
    if is_of kind k then standing_at (versions_among es k) volume else None

-- the keys that were used until then
abbrev pub used_at : List (Key × ItemVersions) → ℕ → List Key
used_at es volume = map (λ e. e.0) (filter (λ e. was_used_at e.1 volume) es)

-- the items and the used keys; nothing is passed on in it
unfoldable pub view_at : KeyHistories → ℕ → View
view_at g volume =
    view_of (finite.from_entries (rows_at (finite.entries g) volume))
    (set.from_list (used_at (finite.entries g) volume))
