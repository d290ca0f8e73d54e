-- The end rules of a change file, as tests of a key in the view after all records.
use Rattle.std.specs.Prelude.{ℕ, zero, suc, ◌==◌, Bool, true, false, not, ◌&&◌, ◌||◌, if◌then◌else◌}
use Rattle.std.specs.Prelude.{List, [], ◌∷◌, map, length, is_none, Option, Some, None}
use Rattle.std.specs.Option.{option_and_then, option_map_or}
use Rattle.std.specs.List.{find, list_any, range_with_len}
use Rattle.std.specs.Ordering.{eq_by_cmp}
use Rattle.std.specs.FinMap as fin
use Rattle.gaz_ids.specs.declared.status.Status.{Status}
use Rattle.gaz_ids.specs.declared.status.Status.TheVariants.{Historical}
use Rattle.gaz_records.specs.Keys.{key_cmp}
use Rattle.gaz_records.specs.Lpis.{LpiValue}
use Rattle.gaz_records.specs.declared.item.Item.{Item}
use Rattle.gaz_records.specs.declared.item.Item.TheVariants as item
use Rattle.gaz_records.specs.declared.key.Key.{Key}
use Rattle.gaz_records.specs.declared.key.Key.TheVariants as key
use Rattle.gaz_views.specs.View.{View, holds}
pub use Rattle.gaz_views.specs.Numbered.{as_blpu, as_street, blpu_at, is_closed, street_at}
use Rattle.gaz_views.specs.Words.{approved_of, approved_on, blpu_named, has_children, is_approved}
use Rattle.gaz_views.specs.Words.{tied}

-- ---- what stands in a view

abbrev pub if_some : {T : Type 0} → Option T → (T → Bool) → Bool
if_some o p = option_map_or p o false

abbrev pub same_key : Key → Key → Bool
same_key = eq_by_cmp key_cmp

-- an approved LPI
abbrev pub as_approved : Item → Option LpiValue
as_approved (item.Lpi l) = if is_approved l.status then Some l else None
as_approved _ = None

-- the approved LPI under a key
abbrev pub approved_at : View → Key → Option LpiValue
approved_at v k = option_and_then as_approved (fin.get v.items k)

abbrev pub is_historical : Status → Bool
is_historical Historical = true
is_historical _ = false

-- a historical BLPU
abbrev pub is_past : View → ℕ → Bool
is_past v uprn = if_some (blpu_at v uprn) (λ b. is_historical b.status)

-- the view where a street is found: this one, else the first basis view that has it, in the order
-- of the file
abbrev pub found_in : View → List (ℕ × View) → ℕ → Option View
found_in v others usrn = find (λ w. holds w (key.Street usrn)) (v ∷ map (λ b. b.1) others)

-- ---- end rules

-- 30: an approved LPI, and another approved LPI has the same BLPU
abbrev pub is_second : View → Key → Bool
is_second v k =
    if_some (approved_at v k) (λ l. list_any (λ m. not (same_key m k)) (approved_of v l.uprn))

-- an LPI or a cross reference whose BLPU isn't in the view
abbrev pub lacks_blpu : View → Key → Bool
lacks_blpu v k =
    if_some (option_and_then blpu_named (fin.get v.items k)) (λ uprn. not (holds v (key.Blpu uprn)))

-- a BLPU that isn't in the view, and an LPI or a cross reference names it
abbrev pub leaves_ties : View → Key → Bool
leaves_ties v (key.Blpu uprn) = not (holds v (key.Blpu uprn)) && tied v uprn
leaves_ties v _ = false

-- 31: one or the other
abbrev pub is_untied : View → Key → Bool
is_untied v k = lacks_blpu v k || leaves_ties v k

-- 32: an approved LPI whose street is found nowhere
abbrev pub lacks_street : View → List (ℕ × View) → Key → Bool
lacks_street v others k = if_some (approved_at v k) (λ l. is_none (found_in v others l.usrn))

-- 33: an approved LPI whose found street is closed
abbrev pub names_closed : View → List (ℕ × View) → Key → Bool
names_closed v others k =
    if_some (approved_at v k) (λ l. if_some (found_in v others l.usrn) (λ w. is_closed w l.usrn))

-- an approved LPI whose street is found in a view without a descriptor in the LPI's language
abbrev pub lacks_descriptor : View → List (ℕ × View) → Key → Bool
lacks_descriptor v others k =
    if_some (approved_at v k)
    (λ l. if_some (found_in v others l.usrn) (λ w. not (holds w (key.Descriptor l.usrn l.lang))))

-- a descriptor that isn't in the view, its street is, and an approved LPI has that street and
-- language
abbrev pub leaves_lpi : View → Key → Bool
leaves_lpi v (key.Descriptor usrn lang) =
    not (holds v (key.Descriptor usrn lang)) && holds v (key.Street usrn)
    && approved_on v usrn (Some lang)
leaves_lpi v _ = false

-- 34: one or the other
abbrev pub is_unnamed : View → List (ℕ × View) → Key → Bool
is_unnamed v others k = lacks_descriptor v others k || leaves_lpi v k

-- the parent of a BLPU, which it is a part of
abbrev pub parent_of : View → ℕ → Option ℕ
parent_of v uprn = option_and_then (λ b. b.parent) (blpu_at v uprn)

-- a BLPU whose parent isn't in the view
abbrev pub lacks_parent : View → Key → Bool
lacks_parent v (key.Blpu uprn) = if_some (parent_of v uprn) (λ p. not (holds v (key.Blpu p)))
lacks_parent v _ = false

-- a BLPU that isn't in the view, and a BLPU is a part of it
abbrev pub leaves_parts : View → Key → Bool
leaves_parts v (key.Blpu uprn) = not (holds v (key.Blpu uprn)) && has_children v uprn
leaves_parts v _ = false

-- 35: one or the other
abbrev pub is_apart : View → Key → Bool
is_apart v k = lacks_parent v k || leaves_parts v k

-- the parent's parent's .. parent, so many times
abbrev pub ancestor : View → ℕ → ℕ → Option ℕ
ancestor v zero uprn = Some uprn
ancestor v (suc n) uprn = option_and_then (ancestor v n) (parent_of v uprn)

-- 36: a BLPU from which a chain of one or more parents leads to itself; no ring is longer than the
-- view has items
abbrev pub is_own_ancestor : View → Key → Bool
is_own_ancestor v (key.Blpu uprn) =
    list_any (λ n. if_some (ancestor v n uprn) (λ a. a == uprn))
    (range_with_len 1 (fin.len v.items))
is_own_ancestor v _ = false

-- an approved LPI whose BLPU is historical
abbrev pub names_past : View → Key → Bool
names_past v k = if_some (approved_at v k) (λ l. is_past v l.uprn)

-- a historical BLPU that has an approved LPI
abbrev pub past_under_lpi : View → Key → Bool
past_under_lpi v (key.Blpu uprn) = is_past v uprn && not (length (approved_of v uprn) == 0)
past_under_lpi v _ = false

-- 37: one or the other
abbrev pub is_out_of_date : View → Key → Bool
is_out_of_date v k = names_past v k || past_under_lpi v k

-- 38: a descriptor whose street isn't in the view
abbrev pub lacks_own_street : View → Key → Bool
lacks_own_street v (key.Descriptor usrn lang) =
    holds v (key.Descriptor usrn lang) && not (holds v (key.Street usrn))
lacks_own_street v _ = false

-- 39: a closed street that an approved LPI names
abbrev pub closed_under_lpi : View → Key → Bool
closed_under_lpi v (key.Street usrn) = is_closed v usrn && approved_on v usrn None
closed_under_lpi v _ = false

-- the end rules by number, the least first, of a key in a view, with each basis custodian's view
abbrev pub end_rules : View → List (ℕ × View) → Key → List (ℕ × Bool)
end_rules v others k =
    (30, is_second v k)
    ∷ (31, is_untied v k)
    ∷ (32, lacks_street v others k)
    ∷ (33, names_closed v others k)
    ∷ (34, is_unnamed v others k)
    ∷ (35, is_apart v k)
    ∷ (36, is_own_ancestor v k)
    ∷ (37, is_out_of_date v k)
    ∷ (38, lacks_own_street v k)
    ∷ (39, closed_under_lpi v k)
    ∷ []
