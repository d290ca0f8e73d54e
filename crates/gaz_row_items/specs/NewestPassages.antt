-- What a query for a number's newest passage tells.
use Rattle.std.specs.Prelude.{◌≡◌, ◌+◌, ℕ, pos, List, [], ◌∷◌, Option, Some, None}
use Rattle.std.specs.Prelude.{option_map, is_some, true}
use Rattle.sqlite.specs.declared.types.Value.TheVariants.{Int, Text}
use Rattle.sqlite.specs.Order.{Row, column}
use Rattle.sqlite_rules.specs.Lists.{Has}
use Rattle.gaz_ids.specs.Limits.{last_code, last_hop}
use Rattle.gaz_ids.specs.Numbers.{of_id}
use Rattle.gaz_views.specs.declared.custody.Custody.{Custody}
use Rattle.gaz_cells.specs.Custody.{custody_told}
use Rattle.gaz_overlay.specs.Passages.{PassageRow}
use Rattle.gaz_overlay.specs.Rows.{never}
use Rattle.gaz_row_items.specs.Versions.{IsWhole, number_in}
use Rattle.gaz_row_items.specs.declared.passages.Passed.{Passed}

-- ---- what an answer says

-- taken or given up, the other custodian's code and the hop, of a row that has born, gone, live,
-- street, hop, lang and body from a column on
abbrev pub custody_shown_in : ℕ → Row → Option Custody
custody_shown_in at r =
    custody_told (number_in (column r (at + 2)))
    (of_id 1 last_code (number_in (column r (at + 3))))
    (of_id 1 last_hop (number_in (column r (at + 4))))

-- no language and no text stand in such a row
pub record IsBare (at : ℕ) (r : Row) : Type 0 where
  pub language : column r (at + 5) ≡ Int (pos 0)
  pub body : column r (at + 6) ≡ Text []

-- such a row says what became of some number
pub record ShowsPassage (at : ℕ) (r : Row) : Type 0 where
  pub born : IsWhole (column r at)
  pub live : IsWhole (column r (at + 2))
  pub other : IsWhole (column r (at + 3))
  pub hop : IsWhole (column r (at + 4))
  pub custody : is_some (custody_shown_in at r) ≡ true
  pub bare : IsBare at r

-- such a row says this became of a number, and in which volume
pub record SaysPassed (at : ℕ) (r : Row) (passed : Passed) : Type 0 where
  pub born : column r at ≡ Int (pos passed.born)
  pub custody : custody_shown_in at r ≡ Some passed.custody
  pub bare : IsBare at r

-- the first row says that, from its first column on; there is none where there is no row
abbrev pub SaysPassage : List Row → Option Passed → Type 0
SaysPassage [] passed = passed ≡ None
SaysPassage (r ∷ rows) None = ⊥
SaysPassage (r ∷ rows) (Some passed) = SaysPassed 0 r passed

-- ---- what of it holds

abbrev pub custody_of : Option Passed → Option Custody
custody_of passed = option_map (λ p. p.custody) passed

-- in which volume the newest passage was born
abbrev pub born_of : Option Passed → Option ℕ
born_of passed = option_map (λ p. p.born) passed

-- a number's current passage was born in a volume
pub record HasPassage (rows : List PassageRow) (uprn volume : ℕ) : Type 0 where
  pub row : PassageRow
  pub there : Has rows row
  pub of_number : row.uprn ≡ uprn
  pub of_birth : row.born ≡ volume
  pub is_current : row.gone ≡ never
