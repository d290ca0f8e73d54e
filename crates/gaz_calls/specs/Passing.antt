-- What is told of a number's newest passage, and what a judgement that passes it on is told.
use Rattle.std.specs.Prelude.{◌≡◌, ℕ, Bool, false, true, not, List, [], ◌∷◌}
use Rattle.std.specs.Prelude.{Option, None, Some, is_some}
use Rattle.sqlite.specs.Effect.{Database}
use Rattle.gaz_records.specs.declared.key.Key.{Key}
use Rattle.gaz_records.specs.declared.key.Key.TheVariants as key
use Rattle.gaz_views.specs.View.{custody_at}
use Rattle.gaz_overlay.specs.Passages.{PassageRow, has_passed}
use Rattle.gaz_tables.specs.Schema.{received, version2}
use Rattle.gaz_tables.specs.Tables.{rows_of}
use Rattle.gaz_row_items.specs.NewestPassages.{HasPassage, born_of, custody_of}
use Rattle.gaz_row_items.specs.Versions.{passages_in}
use Rattle.gaz_row_items.specs.declared.passages.Passed.{Passed}
use Rattle.gaz_kept.specs.Files.{reached_in}
use Rattle.gaz_kept.specs.LastViews.{last_in}

-- what became of a custodian's numbers
abbrev pub passages_of : Database → ℕ → List PassageRow
passages_of db c = passages_in (rows_of db version2) c

-- a key counts as used because its number was passed on
abbrev pub was_passed : Database → ℕ → Key → Bool
was_passed db c k = has_passed (passages_of db c) (reached_in (rows_of db received) c) k

-- there is a passage
abbrev pub is_any : List PassageRow → Bool
is_any [] = false
is_any (p ∷ rows) = true

-- one of a custodian's numbers was passed on
abbrev pub any_passed : Database → ℕ → Bool
any_passed db c = is_any (passages_of db c)

-- what is known, if anything, of whether one of a custodian's numbers was passed on is so
abbrev pub MayKnow : Option Bool → Database → ℕ → Type 0
MayKnow known db c = (any : Bool) → known ≡ Some any → any ≡ any_passed db c

-- it is known that no number of the custodian was passed on
abbrev pub knows_none : Option Bool → Bool
knows_none None = false
knows_none (Some any) = not any

-- the newest passage of a number, where it has one: it says what became of the number in the last
-- view, it is there just where the key of its BLPU is used by it, and it is the current one
pub record TellsPassed (db : Database) (c uprn : ℕ) (passed : Option Passed) : Type 0 where
  pub custody : custody_of passed ≡ custody_at (last_in db c) uprn
  pub used : is_some passed ≡ was_passed db c (key.Blpu uprn)
  pub current : (volume : ℕ) → born_of passed ≡ Some volume
      → HasPassage (passages_of db c) uprn volume
