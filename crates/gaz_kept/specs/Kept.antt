-- What the tables must be for their content to be what was judged.
use Rattle.std.specs.Prelude.{◌≡◌, ◌≢◌, ◌≤◌, ◌<◌, ◌⊎◌, ℕ, pos, true, List, IsSomeAnd, is_some}
use Rattle.sqlite.specs.declared.types.Value.{Value}
use Rattle.sqlite.specs.declared.types.Value.TheVariants.{Int, Blob}
use Rattle.sqlite.specs.Effect.{Database}
use Rattle.sqlite.specs.Order.{Row}
use Rattle.sqlite_rules.specs.Lists.{Has}
use Rattle.std.specs.FinMap as finite
use Rattle.std.specs.List.{range_with_len}
use Rattle.gaz_ids.specs.Limits.{last_code, last_volume}
use Rattle.gaz_records.specs.Items.{is_item}
use Rattle.gaz_cells.specs.Custody.{custody_in}
use Rattle.gaz_overlay.specs.Passages.{PassageRow}
use Rattle.gaz_overlay.specs.Rows.{HistoryRow, IsUntil, never}
use Rattle.gaz_tables.specs.Receiveds as file
use Rattle.gaz_tables.specs.Schema.{received, version2}
use Rattle.gaz_tables.specs.Stores.{HasTables}
use Rattle.gaz_tables.specs.Versions.{blpu_of, body_of, born_of, cust_of, gone_of, hop_of, id_of}
use Rattle.gaz_tables.specs.Versions.{kind_of, lang_of, live_of, street_of}
use Rattle.gaz_tables.specs.Tables.{rows_of}
use Rattle.gaz_row_items.specs.Versions.{IsText, IsWhole, custody_cells_in, histories_in, item_in}
use Rattle.gaz_row_items.specs.Versions.{number_in, passages_in}
use Rattle.gaz_kept.specs.Files.{bytes_in, judged_volumes, reached_in, volume_in}

-- ---- values

abbrev pub IsBytes : Value → Type 0
IsBytes v = v ≡ Blob (bytes_in v)

-- ---- the rows of `received`

-- a file that was received, and what became of it
pub record IsFile (r : Row) : Type 0 where
  pub cust : IsWhole (file.cust_of r)
  pub volume : IsWhole (file.volume_of r)
  pub bytes : IsBytes (file.bytes_of r)
  pub state : IsWhole (file.state_of r)
  pub place : IsWhole (file.place_of r)
  pub rule : IsWhole (file.rule_of r)
  pub first : 1 ≤ volume_in r
  pub last : volume_in r ≤ last_volume
  pub states : number_in (file.state_of r) ≤ 2
  pub rules : number_in (file.rule_of r) ≤ 255
  pub no_place : number_in (file.state_of r) ≢ 2 → file.place_of r ≡ Int (pos 0)
  pub no_rule : number_in (file.state_of r) ≢ 2 → file.rule_of r ≡ Int (pos 0)

-- the judged volumes of a custodian are just 1 to n
abbrev pub AreFirst : List Row → ℕ → Type 0
AreFirst rows c = finite.keys (judged_volumes rows c) ≡ range_with_len 1 (reached_in rows c)

-- ---- the rows of `version2`

-- the number is a custodian's code
abbrev pub IsCode : ℕ → Type 0
IsCode c = (1 ≤ c) × (c ≤ last_code)

-- an item of a custodian, from one volume until another, where nothing was handed on
pub record IsItemRow (r : Row) : Type 0 where
  pub cust : IsWhole (cust_of r)
  pub custodian : IsCode (number_in (cust_of r))
  pub kind : IsWhole (kind_of r)
  pub id : IsText (id_of r)
  pub blpu : IsWhole (blpu_of r)
  pub street : IsWhole (street_of r)
  pub lang : IsWhole (lang_of r)
  pub live : IsWhole (live_of r)
  pub body : IsText (body_of r)
  pub born : IsWhole (born_of r)
  pub gone : IsWhole (gone_of r)
  pub hop : hop_of r ≡ Int (pos 0)
  pub item : IsSomeAnd (item_in r) (λ x. is_item x ≡ true)
  pub first : 1 ≤ number_in (born_of r)
  pub in_turn : number_in (born_of r) ≤ number_in (gone_of r)

-- what became of a number of a custodian, from one volume until another: of kind 92, with no body,
-- the other custodian's code in `street`, and a hop from 1 to 9999
pub record IsPassageRow (r : Row) : Type 0 where
  pub cust : IsWhole (cust_of r)
  pub custodian : IsCode (number_in (cust_of r))
  pub kind : IsWhole (kind_of r)
  pub id : IsText (id_of r)
  pub blpu : IsWhole (blpu_of r)
  pub street : IsWhole (street_of r)
  pub lang : IsWhole (lang_of r)
  pub live : IsWhole (live_of r)
  pub body : IsText (body_of r)
  pub born : IsWhole (born_of r)
  pub gone : IsWhole (gone_of r)
  pub hop : IsWhole (hop_of r)
  pub passage : is_some (custody_in (custody_cells_in r)) ≡ true
  pub first : 1 ≤ number_in (born_of r)
  pub in_turn : number_in (born_of r) ≤ number_in (gone_of r)

-- each row is one or the other
abbrev pub IsVersion : Row → Type 0
IsVersion r = IsItemRow r ⊎ IsPassageRow r

-- each row of version2 is such
abbrev pub AreVersions : List Row → Type 0
AreVersions rows = (r : Row) → Has rows r → IsVersion r

-- ---- histories

-- at no key two rows were born in one volume, and each is gone when the next is born
pub record AreInTurn (rows : List HistoryRow) : Type 0 where
  pub once : (a b : HistoryRow) → Has rows a → Has rows b → a.key ≡ b.key → a.born ≡ b.born → a ≡ b
  pub in_turn : (a b : HistoryRow) → Has rows a → Has rows b → a.key ≡ b.key → a.born < b.born
      → a.gone ≤ b.born

-- the histories of a custodian through volume n
pub record AreThrough (n : ℕ) (rows : List HistoryRow) : Type 0 where
  pub until : (r : HistoryRow) → Has rows r → IsUntil n r
  pub apart : AreInTurn rows

-- ---- numbers that were passed on

-- the row was born in a volume up to n, and went in a later one up to n, or is current
pub record IsPassedUntil (n : ℕ) (p : PassageRow) : Type 0 where
  pub born : p.born ≤ n
  pub gone : (p.gone ≤ n) ⊎ (p.gone ≡ never)
  pub lasts : p.born < p.gone

-- another row of the number was born when this one went
pub record IsFollowed (rows : List PassageRow) (p : PassageRow) : Type 0 where
  pub next : PassageRow
  pub there : Has rows next
  pub of_number : next.uprn ≡ p.uprn
  pub born : next.born ≡ p.gone

-- what became of a custodian's numbers through volume n: of none two rows were born in one volume,
-- each is gone when the next is born, and not before
pub record ArePassages (n : ℕ) (rows : List PassageRow) : Type 0 where
  pub until : (p : PassageRow) → Has rows p → IsPassedUntil n p
  pub once : (a b : PassageRow) → Has rows a → Has rows b → a.uprn ≡ b.uprn → a.born ≡ b.born
      → a ≡ b
  pub in_turn : (a b : PassageRow) → Has rows a → Has rows b → a.uprn ≡ b.uprn → a.born < b.born
      → a.gone ≤ b.born
  pub goes_on : (p : PassageRow) → Has rows p → (p.gone ≡ never) ⊎ IsFollowed rows p

-- ---- the tables

-- there are such tables, and these rows of files and of items are what a store keeps
pub record AreKept (Tables : Type 0) (received items : List Row) : Type 0 where
  pub tables : Tables
  pub files : (r : Row) → Has received r → IsFile r
  pub first : (c : ℕ) → AreFirst received c
  pub rows : AreVersions items
  pub histories : (c : ℕ) → AreThrough (reached_in received c) (histories_in items c)
  pub passages : (c : ℕ) → ArePassages (reached_in received c) (passages_in items c)

-- the database is what a store keeps
abbrev pub IsKept : Database → Type 0
IsKept db = AreKept (HasTables db) (rows_of db received) (rows_of db version2)
