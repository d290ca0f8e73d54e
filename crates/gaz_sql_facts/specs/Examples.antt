-- Worked examples: what a copy, an emptied table and a new archive are, where a table stands, which
-- names are free, which texts ask for a table alone, copy one or make one, and what none of these
-- are.
use Rattle.std.specs.Prelude.{◌≡◌, ℕ, Bool, true, false, List, [], ◌∷◌, None, Some, codes}
use Rattle.sqlite_catalog.specs.Change.{created, indexed}
use Rattle.sqlite.specs.Effect.{Database}
use Rattle.sqlite.specs.Order.{Row}
use Rattle.gaz_sql_facts.specs.Copies.{AreCopied}
use Rattle.gaz_sql_facts.specs.Emptied.{IsEmptied}
use Rattle.gaz_sql_facts.specs.Gains.{GainsIndex, GainsTable}
use Rattle.gaz_sql_facts.specs.Making.{IsFree, IsUnreferred, index_made, table_made}
use Rattle.gaz_sql_facts.specs.Samples.{archive, archived, behind_archive, behind_namesake, by_day}
use Rattle.gaz_sql_facts.specs.Samples.{ice, lent_jam, moved_note, never_lent, note, note_schema}
use Rattle.gaz_sql_facts.specs.Samples.{notes, old_ice, old_tea, tea_again, two_notes}
use Rattle.gaz_sql_facts.specs.Samples.{under_archive, with_archive, with_by_day}
use Rattle.gaz_sql_facts.specs.Simple.{is_simple_copy, is_simple_text}
use Rattle.gaz_sql_facts.specs.Standing.{IsApart, ReadsAs, StandsAt}

-- what a copy of the two notes makes of the rows of an archive
abbrev pub AreCopiedNotes : List Row → List Row → Type 0
AreCopiedNotes old new = AreCopied never_lent two_notes old new

pub record WorkedCopies : Type 0 where
  pub copied : AreCopiedNotes [] (old_tea ∷ old_ice ∷ [])
  pub in_any_order : AreCopiedNotes [] (old_ice ∷ old_tea ∷ [])
  pub beside_a_row : AreCopiedNotes (lent_jam ∷ []) (lent_jam ∷ old_tea ∷ old_ice ∷ [])
  pub not_one_alone : ¬ AreCopiedNotes [] (old_tea ∷ [])
  pub not_one_twice : ¬ AreCopiedNotes [] (old_tea ∷ old_ice ∷ tea_again ∷ [])
  pub not_over_a_row : ¬ AreCopiedNotes (lent_jam ∷ []) (old_tea ∷ old_ice ∷ tea_again ∷ [])
  pub not_as_it_stood : ¬ AreCopiedNotes [] two_notes

pub record WorkedEmptied : Type 0 where
  pub emptied : IsEmptied two_notes []
  pub was_empty : IsEmptied [] []
  pub not_with_one_left : ¬ IsEmptied two_notes (ice ∷ [])

-- an archive, and its index, of which it isn't said yet at which tree they come to stand
abbrev pub GainsArchive : Database → Database → Type 0
GainsArchive = GainsTable (record archive { tree = 0 })

abbrev pub GainsByDay : Database → Database → Type 0
GainsByDay = GainsIndex archive (record by_day { tree = 0 })

pub record WorkedGains : Type 0 where
  pub archive_is_last : created note_schema (record archive { tree = 0 }) ≡ with_archive
  pub index_is_last : indexed with_archive archive (record by_day { tree = 0 }) ≡ with_by_day
  pub not_with_a_row : (old new : Database) → old.schema ≡ note_schema
      → new.trees archived ≡ old_tea ∷ [] → ¬ GainsArchive old new
  pub not_without_a_note : (old new : Database) → old.schema ≡ note_schema
      → old.trees notes ≡ two_notes → new.trees notes ≡ ice ∷ [] → ¬ GainsArchive old new
  pub index_loses_no_note : (old new : Database) → old.schema ≡ with_archive
      → old.trees notes ≡ two_notes → new.trees notes ≡ [] → ¬ GainsByDay old new

pub record WorkedStanding : Type 0 where
  pub first : StandsAt with_by_day 0 note
  pub behind_another : StandsAt behind_archive 1 moved_note
  pub not_at_the_other : ¬ StandsAt behind_archive 0 moved_note
  pub not_behind_its_name : ¬ StandsAt behind_namesake 1 moved_note
  pub read_alike : ReadsAs note moved_note
  pub not_with_a_column_more : ¬ ReadsAs note (record archive { name = codes "note" })
  pub apart : IsApart behind_archive 40
  pub not_apart : ¬ IsApart under_archive 40
  pub other_apart : IsApart under_archive archived

pub record WorkedSimple : Type 0 where
  pub query : is_simple_text note (codes "SELECT body FROM note WHERE since > ?1 ORDER BY name LIMIT 9") ≡ true
  pub insert : is_simple_text note (codes "INSERT INTO note VALUES (?1, ?2, 3, ?4)") ≡ true
  pub update : is_simple_text note (codes "UPDATE note SET since = ?1 WHERE rowid = 3 OR shelf = 7") ≡ true
  pub delete : is_simple_text note (codes "DELETE FROM note") ≡ true
  pub not_another_table : is_simple_text note (codes "SELECT body FROM archive") ≡ false
  pub not_another_column : is_simple_text note (codes "SELECT lent FROM note") ≡ false
  pub not_two_tables : is_simple_text note (codes "SELECT body FROM note, archive") ≡ false
  pub not_a_subquery : is_simple_text note (codes "DELETE FROM note WHERE shelf = (SELECT 7)") ≡ false
  pub not_a_way_out : is_simple_text note (codes "INSERT OR IGNORE INTO note VALUES (1, 2, 3, 4)") ≡ false

-- a text that copies a table of notes into the archive
abbrev pub copies_notes : List ℕ → Bool
copies_notes = is_simple_copy note archive

pub record WorkedCopyTexts : Type 0 where
  pub copy : copies_notes
      (codes "INSERT INTO archive SELECT shelf, name, since, body, 0 FROM note") ≡ true
  pub some : copies_notes
      (codes "INSERT INTO archive SELECT shelf, name, since, body, 0 FROM note LIMIT 9") ≡ true
  pub not_the_other_way : copies_notes
      (codes "INSERT INTO note SELECT shelf, name, since, body FROM archive") ≡ false
  pub not_of_both : copies_notes
      (codes "INSERT INTO archive SELECT name, since, body, 0 FROM note, archive") ≡ false
  pub not_of_a_sum : copies_notes
      (codes "INSERT INTO archive SELECT shelf, name, since + 1, body, 0 FROM note") ≡ false
  pub not_of_values : copies_notes (codes "INSERT INTO archive VALUES (1, 2, 3, 4, 0)") ≡ false
  pub not_over_one_table : is_simple_text archive
      (codes "INSERT INTO archive SELECT shelf, name, since, body, 0 FROM note") ≡ false

pub record WorkedMaking : Type 0 where
  pub free : IsFree with_by_day (codes "lent")
  pub not_a_table : ¬ IsFree with_by_day (codes "NOTE")
  pub not_an_index : ¬ IsFree with_by_day (codes "By_day")
  pub not_of_a_key : ¬ IsFree with_by_day (codes "sqlite_autoindex_note_1")
  pub unreferred : IsUnreferred behind_archive (codes "note")
  pub referred : ¬ IsUnreferred under_archive (codes "NOTE")
  pub table : table_made (codes "CREATE TABLE lent (day TEXT)") ≡ Some (codes "lent")
  pub index : index_made (codes "CREATE INDEX d ON note (since)") ≡ Some (codes "d", codes "note")
  pub not_a_query : table_made (codes "SELECT day FROM lent") ≡ None

pub record WorkedExamples : Type 0 where
  pub on_copies : WorkedCopies
  pub on_emptied : WorkedEmptied
  pub on_gains : WorkedGains
  pub on_standing : WorkedStanding
  pub on_simple : WorkedSimple
  pub on_copy_texts : WorkedCopyTexts
  pub on_making : WorkedMaking
