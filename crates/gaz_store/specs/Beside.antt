-- A judgement beside the tables.
use Rattle.std.specs.Prelude.{◌≡◌, ℕ, true, false, Option, Some, IsSome}
use Rattle.sqlite.specs.Effect.{Database}
use Rattle.gaz_records.specs.Items.{is_entry}
use Rattle.gaz_records.specs.Keys.{key_of}
use Rattle.gaz_records.specs.declared.item.Item.{Item}
use Rattle.gaz_records.specs.declared.key.Key.{Key}
use Rattle.gaz_records.specs.declared.key.Key.TheVariants as key
use Rattle.gaz_views.specs.Numbered as numbered
use Rattle.gaz_views.specs.Numbered.{as_blpu}
use Rattle.gaz_views.specs.View.{View, with_item, with_release}
use Rattle.gaz_overlay.specs.Changes.{Changes, is_passed, with_adopted, with_put, with_released}
use Rattle.gaz_overlay.specs.Making.{IsSince}
use Rattle.gaz_overlay.specs.Over.{Make}
use Rattle.gaz_overlay.specs.Rows.{AreTold}
use Rattle.gaz_tables.specs.Schema.{version2}
use Rattle.gaz_tables.specs.Tables.{rows_of}
use Rattle.gaz_row_items.specs.NewestPassages.{HasPassage}
use Rattle.gaz_row_items.specs.Versions.{histories_in}
use Rattle.gaz_kept.specs.Keeping.{AreToldPassages}
use Rattle.gaz_kept.specs.LastViews.{last_in}
use Rattle.gaz_calls.specs.Passing.{MayKnow, passages_of}
use Rattle.gaz_store.specs.declared.judgement.Judgement.{Judgement}

-- its changes make this working view of the custodian's last, and were told which rows of items and
-- which passages are current; and what is known of whether a number was passed on is so
pub record Makes (db : Database) (j : Judgement) (working : View) : Type 0 where
  pub made : Make (last_in db j.code) j.changes working
  pub told : AreTold j.changes (histories_in (rows_of db version2) j.code)
  pub passed : AreToldPassages j.changes (rows_of db version2) j.code
  pub known : MayKnow j.any_passed db j.code

-- after a call the changes make another working view of the same last one
abbrev pub Turns : Database → Judgement → Judgement → (View → View) → Type 0
Turns db old new becomes = (w : View) → Makes db old w → Makes db new (becomes w)

-- this holds of each working view that a judgement makes of the tables
abbrev pub Beside : Database → Judgement → (View → Type 0) → Type 0
Beside db j IsSo = (w : View) → Makes db j w → IsSo w

-- where a judgement hasn't passed a number on yet, the volume in which the number's current passage
-- was born, if it has one
pub record IsToldSince (db : Database) (j : Judgement) (uprn : ℕ) (since : Option ℕ) : Type 0 where
  pub is_since : IsSince (last_in db j.code) j.changes uprn since
  pub current : is_passed j.changes uprn ≡ false → (volume : ℕ) → since ≡ Some volume
      → HasPassage (passages_of db j.code) uprn volume

-- the same judgement, of these changes
abbrev pub with_changes : Judgement → Changes → Judgement
with_changes j c = record { code = j.code; changes = c; any_passed = j.any_passed }

-- a judgement of the working view w has touched a key, and what is put there next, or becomes of
-- its number, does just that to w; which item stood there needs not be known
pub record IsReadyAt (db : Database) (j : Judgement) (k : Key) (w : View) : Type 0 where
  pub known : MayKnow j.any_passed db j.code
  pub put : (i : Item) → key_of i ≡ k → is_entry i ≡ true
      → Makes db (with_changes j (with_put j.changes i)) (with_item w i)
  pub released : (uprn to hop : ℕ) (since : Option ℕ) → key.Blpu uprn ≡ k
      → IsToldSince db j uprn since
      → Makes db (with_changes j (with_released j.changes uprn to hop since))
      (with_release w uprn to hop)
  pub adopted : (i : Item) (from hop uprn : ℕ) (since : Option ℕ) → IsSome (as_blpu i)
      → key_of i ≡ k → key.Blpu uprn ≡ k → IsToldSince db j uprn since
      → Makes db (with_changes j (with_adopted j.changes i from hop since))
      (numbered.with_adopted w i from hop)

-- after a call a judgement is ready at a key, whatever working view it had made
abbrev pub Readies : Database → Judgement → Judgement → Key → Type 0
Readies db old new k = (w : View) → Makes db old w → IsReadyAt db new k w
