-- The columns in which tables keep what became of a number that passes between custodians.
use Rattle.std.specs.Prelude.{◌≡◌, ℕ, ◌==◌, ◌&&◌, Bool, true, [], Option, Some, None}
use Rattle.std.specs.Prelude.{if◌then◌else◌, length, option_map}
use Rattle.gaz_ids.specs.Limits.{last_code, last_hop}
use Rattle.gaz_ids.specs.Numbers.{in_range, of_id}
use Rattle.gaz_records.specs.Blpus.{is_uprn}
use Rattle.gaz_records.specs.declared.key.Key.TheVariants as key
use Rattle.gaz_views.specs.Custody.{hop_in}
use Rattle.gaz_views.specs.declared.custody.Custody.{Custody}
use Rattle.gaz_views.specs.declared.custody.Custody.TheVariants.{Adopted, Released}
use Rattle.gaz_cells.specs.Columns.{CellsValue}
use Rattle.gaz_cells.specs.Ids.{id_of, uprn_in}

-- the cells of what became of a number
pub record CustodyValue : Type 0 where
  pub cells : CellsValue
  pub hop : ℕ

-- their kind
abbrev pub custody_kind : ℕ
custody_kind = 92

-- the other custodian
abbrev pub other_in : Custody → ℕ
other_in (Released to hop) = to
other_in (Adopted from hop) = from

-- 1 where the number was taken, 0 where it was given up
abbrev pub taken_in : Custody → ℕ
taken_in (Released to hop) = 0
taken_in (Adopted from hop) = 1

-- the number and its name, the other custodian, whether it was taken, and the hop; no body
abbrev pub custody_cells : ℕ → Custody → CustodyValue
custody_cells uprn custody = record {
  cells = record {
    kind = custody_kind;
    id = id_of (key.Blpu uprn);
    links = record { blpu = uprn; street = other_in custody; lang = 0; live = taken_in custody };
    body = [];
  };
  hop = hop_in custody;
}

-- its code and its hop are such
abbrev pub is_custody : Custody → Bool
is_custody custody =
    in_range 1 last_code (other_in custody) && in_range 1 last_hop (hop_in custody)

-- ---- what cells say

-- taken or given up, by `live`
abbrev pub custody_by : ℕ → ℕ → ℕ → Option Custody
custody_by live other hop =
    if live == 0 then Some (Released other hop)
    else if live == 1 then Some (Adopted other hop) else None

-- what became of a number, where there are a code and a hop
abbrev pub custody_told : ℕ → Option ℕ → Option ℕ → Option Custody
custody_told live None hop = None
custody_told live (Some other) None = None
custody_told live (Some other) (Some hop) = custody_by live other hop

abbrev pub told_in : CustodyValue → Option Custody
told_in c =
    custody_told c.cells.links.live (of_id 1 last_code c.cells.links.street)
    (of_id 1 last_hop c.hop)

-- the number that the id names, where it is that of the property
abbrev pub number_told : CustodyValue → Option ℕ → Option (ℕ × Custody)
number_told c None = None
number_told c (Some n) =
    if n == c.cells.links.blpu then option_map (λ x. (n, x)) (told_in c) else None

-- kind, language and body are those of such a row
abbrev pub is_plain : CustodyValue → Bool
is_plain c = (c.cells.kind == custody_kind)
    && ((c.cells.links.lang == 0) && (length c.cells.body == 0))

-- the number and what became of it, where the cells say that
abbrev pub custody_in : CustodyValue → Option (ℕ × Custody)
custody_in c = if is_plain c then number_told c (uprn_in c.cells.id) else None

-- ---- what they keep to

-- what became of a number is what its cells say
abbrev pub CustodyReadsBack : Type 0
CustodyReadsBack = (uprn : ℕ) (custody : Custody) → is_uprn uprn ≡ true
    → is_custody custody ≡ true
    → custody_in (custody_cells uprn custody) ≡ Some (uprn, custody)
