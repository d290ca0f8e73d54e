-- Where a view's items are found beside their keys.
use Rattle.std.specs.Prelude.{◌≡◌, ◌==◌, Bool, true, false, List, [], ◌∷◌, Option, Some, None}
use Rattle.std.specs.Prelude.{if◌then◌else◌}
use Rattle.std.specs.FinMap.{find}
use Rattle.std.specs.List.{list_any}
use Rattle.std.specs.Map.{lookup}
use Rattle.std.specs.Option.{IfSome, option_and_then, option_map_or}
use Rattle.std.specs.Ordering.{eq_by_cmp}
use Rattle.gaz_ids.specs.declared.lang.Lang.TheVariants.{Cym, Eng}
use Rattle.gaz_records.specs.Keys.{key_cmp}
use Rattle.gaz_records.specs.declared.item.Item.{Item}
use Rattle.gaz_records.specs.declared.key.Key.{Key}
use Rattle.gaz_views.specs.Words.{is_approved_of, is_approved_on, is_child_of}
use Rattle.gaz_standing.specs.declared.index.Index.{Index}
use Rattle.gaz_standing.specs.declared.index.Mark.{Mark}
use Rattle.gaz_standing.specs.declared.index.Mark.TheVariants.{AddressOf, EnglishOn, PartOf}
use Rattle.gaz_standing.specs.declared.index.Mark.TheVariants.{WelshOn}
use Rattle.gaz_standing.specs.declared.keys.Keys.{Keys}
use Rattle.gaz_standing.specs.declared.keys.Keys.TheVariants.{One, Many}

-- whether an item has a mark
abbrev pub has_mark : Mark → Item → Bool
has_mark (AddressOf uprn) i = is_approved_of uprn i
has_mark (WelshOn usrn) i = is_approved_on usrn (Some Cym) i
has_mark (EnglishOn usrn) i = is_approved_on usrn (Some Eng) i
has_mark (PartOf uprn) i = is_child_of uprn i

-- whether two marks are one
abbrev pub same_mark : Mark → Mark → Bool
same_mark (AddressOf a) (AddressOf b) = a == b
same_mark (WelshOn a) (WelshOn b) = a == b
same_mark (EnglishOn a) (EnglishOn b) = a == b
same_mark (PartOf a) (PartOf b) = a == b
same_mark _ _ = false

-- ---- what is under a mark

-- keys in their order
abbrev pub listed : Keys → List Key
listed (One k) = k ∷ []
listed (Many s) = s.keys

abbrev pub keys_under : Index → Mark → List Key
keys_under x m = option_map_or listed (lookup (same_mark m) x.by_mark.entries) []

-- a key is one of these
abbrev pub has_key : List Key → Key → Bool
has_key ks k = list_any (eq_by_cmp key_cmp k) ks

abbrev pub is_under : Index → Mark → Key → Bool
is_under x m k = has_key (keys_under x m) k

-- each item that has a mark is found under it; what else is there is passed over
abbrev pub FindsAll : Index → List (Key × Item) → Type 0
FindsAll x es =
    (m : Mark) → (k : Key)
    → IfSome (find key_cmp k es) (λ i. has_mark m i ≡ true → is_under x m k ≡ true)

-- the item under the key, where it has the mark
abbrev pub marked_item : List (Key × Item) → Mark → Key → Option Item
marked_item es m k =
    option_and_then (λ i. if has_mark m i then Some i else None) (find key_cmp k es)

-- whether an item with the mark stands under the key
abbrev pub marked_at : List (Key × Item) → Mark → Key → Bool
marked_at es m k = option_map_or (has_mark m) (find key_cmp k es) false
