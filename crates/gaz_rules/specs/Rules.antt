-- The record rules of a change file, as tests on the view before a record.
use Rattle.std.specs.Prelude.{ℕ, ◌==◌, Bool, true, false, not, ◌&&◌, ◌||◌, List, [], ◌∷◌, Option}
use Rattle.std.specs.Prelude.{None, Some, if◌then◌else◌}
use Rattle.std.specs.Option.{option_map_or}
use Rattle.std.specs.FinMap as map
use Rattle.gaz_records.specs.Items.{is_entry}
use Rattle.gaz_records.specs.Keys.{key_of}
use Rattle.gaz_records.specs.declared.item.Item.{Item}
use Rattle.gaz_records.specs.declared.item.Item.TheVariants as item
use Rattle.gaz_records.specs.declared.key.Key.{Key}
use Rattle.gaz_register.specs.Registers.{Blocks, within}
use Rattle.gaz_views.specs.View.{View, holds, was_used, with_adoption, with_item, with_release}
use Rattle.gaz_views.specs.View.{without_key}
use Rattle.gaz_views.specs.Words.{same_lang}
use Rattle.gaz_changefile.specs.declared.action.Action.{Action}
use Rattle.gaz_changefile.specs.declared.action.Action.TheVariants.{Insert, Update, Delete}
use Rattle.gaz_changefile.specs.declared.change.Change.{Change}
pub use Rattle.gaz_rules.specs.CustodyRules.{holds_number}
use Rattle.gaz_rules.specs.CustodyRules.{is_stale, is_unreleased, is_wrong_hop}

-- ---- the effect of a change

-- of an entry: an insert and an update set the item and mark its key as used, a delete takes it
abbrev pub entry_effect : Action → View → Item → View
entry_effect Insert v i = with_item v i
entry_effect Update v i = with_item v i
entry_effect Delete v i = without_key v (key_of i)

-- a release takes the BLPU, if it is there, and an adoption sets it; both mark its key as used, and
-- are what last became of its number
abbrev pub effect_of : Action → View → Item → View
effect_of a v (item.Release r) = with_release v r.uprn r.to r.hop
effect_of a v (item.Adopt x) = with_adoption v x.blpu x.from x.hop
effect_of a v i = entry_effect a v i

abbrev pub effect : View → Change → View
effect v c = effect_of c.action v c.item

-- ---- record rules

abbrev pub is_insert : Action → Bool
is_insert Insert = true
is_insert Update = false
is_insert Delete = false

abbrev pub is_update : Action → Bool
is_update Insert = false
is_update Update = true
is_update Delete = false

abbrev pub is_delete : Action → Bool
is_delete Insert = false
is_delete Update = false
is_delete Delete = true

-- 20: a street whose number is in none of the custodian's own blocks, or a BLPU or a release whose
-- number it doesn't hold
abbrev pub is_outside : Blocks → View → Item → Bool
is_outside own v (item.Street s) = not (within own.usrn s.usrn)
is_outside own v (item.Blpu b) = not (holds_number own v b.uprn)
is_outside own v (item.Release r) = not (holds_number own v r.uprn)
is_outside own v _ = false

-- 21: an insert of an entry whose key was ever used
abbrev pub is_used_again : View → Action → Item → Bool
is_used_again v a i = is_entry i && is_insert a && was_used v (key_of i)

-- 22: an update or a delete of an entry that isn't there
abbrev pub is_missing : View → Action → Item → Bool
is_missing v a i = is_entry i && not (is_insert a) && not (holds v (key_of i))

-- a street or a BLPU: it is closed or made historical, and never deleted
abbrev pub stays : Item → Bool
stays (item.Street s) = true
stays (item.Blpu b) = true
stays _ = false

-- 23: a delete of such an item
abbrev pub takes_what_stays : Action → Item → Bool
takes_what_stays a i = is_delete a && stays i

-- an LPI of another BLPU or in another language than before, or a cross reference of another BLPU
abbrev pub is_moved : Item → Item → Bool
is_moved (item.Lpi old) (item.Lpi new) =
    not (new.uprn == old.uprn) || not (same_lang new.lang old.lang)
is_moved (item.Xref old) (item.Xref new) = not (new.uprn == old.uprn)
is_moved _ _ = false

-- 24: an update of what is there to such an item
abbrev pub moves_what_stays : View → Action → Item → Bool
moves_what_stays v a i =
    is_update a && option_map_or (λ old. is_moved old i) (map.get v.items (key_of i)) false

-- the record rules by number, the least first, of a change in a file of custodian c, on its view
-- and on each basis custodian's
abbrev pub record_rules : ℕ → Blocks → List (ℕ × View) → View → Action → Item → List (ℕ × Bool)
record_rules c own others v a i =
    (20, is_outside own v i)
    ∷ (21, is_used_again v a i)
    ∷ (22, is_missing v a i)
    ∷ (23, takes_what_stays a i)
    ∷ (24, moves_what_stays v a i)
    ∷ (40, is_wrong_hop v i)
    ∷ (41, is_unreleased c others i)
    ∷ (42, is_stale v i)
    ∷ []

-- the least rule that an entry under this key breaks, its number being the custodian's own: by an
-- insert, by an update to this item, and by its deletion
abbrev pub insert_breach : View → Key → Option ℕ
insert_breach v k = if was_used v k then Some 21 else None

abbrev pub update_breach : View → Key → Item → Option ℕ
update_breach v k i =
    option_map_or (λ old. if is_moved old i then Some 24 else None) (map.get v.items k) (Some 22)

abbrev pub delete_breach : View → Key → Item → Option ℕ
delete_breach v k i = if holds v k then (if stays i then Some 23 else None) else Some 22
