-- The rules on numbers that pass between custodians, as tests on the view before a record.
use Rattle.std.specs.Prelude.{ℕ, ◌+◌, ◌==◌, nat_lt, Bool, false, not, ◌&&◌, List, Option, None}
use Rattle.std.specs.Prelude.{Some}
use Rattle.std.specs.Prelude.{if◌then◌else◌}
use Rattle.std.specs.Option.{option_and_then, option_map, option_map_or}
use Rattle.std.specs.List.{find}
use Rattle.gaz_records.specs.declared.item.Item.{Item}
use Rattle.gaz_records.specs.declared.item.Item.TheVariants as item
use Rattle.gaz_register.specs.Registers.{Blocks, within}
use Rattle.gaz_views.specs.Custody.{hop_of, is_holding}
use Rattle.gaz_views.specs.View.{View, custody_at, hop_at}
use Rattle.gaz_views.specs.declared.custody.Custody.{Custody}
use Rattle.gaz_views.specs.declared.custody.Custody.TheVariants.{Adopted, Released}

-- a custodian with these own blocks, and this view, holds the number of a BLPU: it adopted it, or
-- nothing became of it and it is in one of its blocks
abbrev pub holds_number : Blocks → View → ℕ → Bool
holds_number own v uprn = is_holding (within own.uprn uprn) (custody_at v uprn)

-- 40: a release whose hop isn't the next
abbrev pub is_wrong_hop : View → Item → Bool
is_wrong_hop v (item.Release r) = not (r.hop == hop_at v r.uprn + 1)
is_wrong_hop v _ = false

-- the least rule that a release of a number at a hop breaks
abbrev pub release_breach : Blocks → View → (uprn hop : ℕ) → Option ℕ
release_breach own v uprn hop =
    if holds_number own v uprn then
    (if hop == hop_of (custody_at v uprn) + 1 then None else Some 40)
    else Some 20

-- the view on which the first basis line of a custodian rests
abbrev pub basis_of : List (ℕ × View) → ℕ → Option View
basis_of others from = option_map (λ b. b.1) (find (λ b. b.0 == from) others)

-- a number was released to a custodian at a hop
abbrev pub is_released_to : ℕ → ℕ → Custody → Bool
is_released_to c hop (Released to h) = (to == c) && (h == hop)
is_released_to c hop (Adopted from h) = false

-- the custodian that is named released the number to this one at this hop, in the view on which a
-- basis line rests
abbrev pub was_released : ℕ → List (ℕ × View) → (uprn from hop : ℕ) → Bool
was_released c others uprn from hop =
    option_map_or (is_released_to c hop)
    (option_and_then (λ w. custody_at w uprn) (basis_of others from)) false

-- the least rule that an adoption from a custodian at a hop breaks
abbrev pub adopt_breach : ℕ → View → List (ℕ × View) → (uprn from hop : ℕ) → Option ℕ
adopt_breach c v others uprn from hop =
    if was_released c others uprn from hop then
    (if nat_lt (hop_of (custody_at v uprn)) hop then None else Some 42)
    else Some 41

-- 41: an adoption of what wasn't released so
abbrev pub is_unreleased : ℕ → List (ℕ × View) → Item → Bool
is_unreleased c others (item.Adopt a) = not (was_released c others a.blpu.uprn a.from a.hop)
is_unreleased c others _ = false

-- 42: an adoption whose hop isn't greater than the own one
abbrev pub is_stale : View → Item → Bool
is_stale v (item.Adopt a) = not (nat_lt (hop_at v a.blpu.uprn) a.hop)
is_stale v _ = false
