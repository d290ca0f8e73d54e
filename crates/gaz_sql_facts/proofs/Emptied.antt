-- What DELETE without WHERE makes of a table: no row is left, and all other tables stay.
use Rattle.std.proofs.Common.{◌≡◌, inl, ℕ, List, [], ◌∷◌, true, Some, None, Ok, refl, sym, ap, subst, ◌∙◌}
use Rattle.std.specs.Prelude.{Option, IsTrue, slice_get}
use Rattle.sqlite_schema.specs.declared.schema.Column.{Column}
use Rattle.sqlite_schema.specs.declared.schema.Keys.{Keys}
use Rattle.sqlite_schema.specs.declared.program.Program.{Program}
use Rattle.sqlite_trees.specs.declared.store.Shape.TheVariants as shape
use Rattle.sqlite_rules.specs.Action.{works}
use Rattle.sqlite_rules.specs.Calls.{ids_of}
use Rattle.sqlite_rules.specs.Edit.{Applies, taken_by}
use Rattle.sqlite_rules.specs.Lists.{Has}
use Rattle.sqlite_rules.proofs.ListLemmas.{all_has}
use Rattle.sqlite_rules.proofs.ProbeLemmas.{mapped_has}
use Rattle.sqlite_rules.proofs.TableLemmas.{without_all_has}
use Rattle.sqlite.specs.declared.types.Value.TheVariants.{Null}
use Rattle.sqlite.specs.declared.run.Mode.{Mode}
use Rattle.sqlite.specs.Command.TheVariants.{Delete}
use Rattle.sqlite.specs.Does.{Tally, Does, OnRows}
use Rattle.sqlite.specs.Edit.{Edit, edit_of, id_in, without_all}
use Rattle.sqlite.specs.Effect.{Database, IsDatabase}
use Rattle.sqlite.specs.Order.{Row}
use Rattle.sqlite.specs.Rowids.TheVariants.{Given}
use Rattle.sqlite.specs.Rows.{Task, Written}
use Rattle.sqlite.specs.Schema.{Schema}
use Rattle.sqlite.specs.State.{State, Executes, mode_of}
use Rattle.sqlite.specs.Table.{Table}
use Rattle.sqlite.specs.Term.{Term}
use Rattle.sqlite.specs.Tree.{Trees, rowid}
use Rattle.sqlite.specs.View.{IsShaped, is_int}
use Rattle.sqlite.proofs.Callers.{runs_as, one_step}
use Rattle.gaz_sql_facts.specs.Changes.{Changes, InPlace}
use Rattle.gaz_sql_facts.specs.Emptied.{IsEmptied}
use Rattle.gaz_sql_facts.specs.Selects.{selecting, every, shows, Selects}
use Rattle.gaz_sql_facts.specs.Tables.{keyed_as}
use Rattle.gaz_sql_facts.proofs.Inserts.{went, same_value, others_stay}
use Rattle.gaz_sql_facts.proofs.Selects.{selects, found}
use Rattle.gaz_sql_facts.proofs.Texts.{IsCommand, overlay_none}
use Rattle.gaz_sql_facts.proofs.Updates.{taken_out, own_rowid, shaped_left}

pub empty_is_shaped : (rows : List Row) → rows ≡ [] → IsShaped shape.Table rows
empty_is_shaped rows none = subst (IsShaped shape.Table) (sym none) (tt, tt)

none_there : (rows : List Row) → ((r : Row) → ¬ Has rows r) → rows ≡ []
none_there [] none = refl
none_there (r ∷ rows) none = absurd (none r (inl refl))

-- DELETE FROM the table at this place
module _ (schema : Schema) (at : ℕ) (other : Table) (key : Option ℕ) (name : List ℕ) (uniques : List (List ℕ)) (columns : List Column) (project : List Term)
    (listed : slice_get schema.tables at ≡ Some (keyed_as other key name columns uniques))
    (free : (olds news : List Row) (keys : Keys) → works schema keys 0 other.tree olds news ≡ [])
    (shown : (r : Row) → rowid (shows project [] r) ≡ rowid r) where
  abbrev table : Table
  table = keyed_as other key name columns uniques

  abbrev program : Program
  program = record { lets = []; body = selecting other.tree [] project [] every }

  module _ (db : Database) (up : IsShaped shape.Table (db.trees other.tree)) (rows : List Row) (all : Selects [] project [] None (db.trees other.tree) [] rows) where
    abbrev edit : Edit
    edit = edit_of db.trees table (ids_of rows) Given 0 []

    rowid_is_int : (r : Row) → Has (db.trees other.tree) r → is_int (rowid r) ≡ true
    rowid_is_int r there = all_has (λ x. IsTrue (is_int (rowid x))) (db.trees other.tree) r up.1 there

    goes : (r : Row) → ¬ Has (without_all (db.trees other.tree) (ids_of rows)) r
    goes r left =
        let was = without_all_has (ids_of rows) (db.trees other.tree) r left in
        let one = found [] project [] (db.trees other.tree) [] rows all r was refl in
        let id : Has (ids_of rows) (id_in (rowid r)) = subst (Has (ids_of rows)) (ap id_in (shown r)) (mapped_has (λ x. id_in (rowid x)) rows (shows project [] r) one) in
        let out = taken_out (id_in (rowid r)) (ids_of rows) (db.trees other.tree) r id left in
        let own = own_rowid r (rowid_is_int r was) in
        cc

    none_left : (keys : Keys) (next : Trees) → Applies schema keys db.trees edit next → next other.tree ≡ []
    none_left keys next a = a.rows ∙ none_there _ goes

  pub empties : (limit : Option ℕ) (mode : Mode) (old after : Database) (text : List ℕ) (tally : Tally) → old.schema ≡ schema → IsShaped shape.Table (old.trees other.tree) → IsDatabase after
      → Does limit mode [] old text None (Delete at program) (Ok (tally, after)) → Changes other.tree IsEmptied old after
  empties limit mode old after text tally has up done_sound h =
      let task : Task = record { limit = limit; keys = mode.keys; schema = schema; table = table; params = [] } in
      let bare : OnRows task mode None (Delete at program) old.trees (Ok (tally, after)) = rw listed at (subst (λ s. Does limit mode [] (record old { schema = s }) text None (Delete at program) (Ok (tally, after))) has h) in
      let done = went bare in
      let now = ap (λ (p : Tally × Database). p.1) (same_value (went (went done.2).2).2) in
      let asked = went done.1 in
      let written = went asked.2 in
      let trees : done.0.trees ≡ written.0 = ap (λ (it : Written). it.trees) (same_value written.2) in
      let all : Selects [] project [] None (old.trees other.tree) [] asked.0 =
      subst (λ t. Selects [] project [] None t [] asked.0) (overlay_none old.trees other.tree) (selects other.tree [] project [] every _ [] asked.0 (asked.1.answer Null)) in
      let edit = edit_of old.trees table (ids_of asked.0) Given 0 [] in
      let first : Applies schema mode.keys old.trees edit written.0 = one_step schema mode.keys old.trees written.0 edit (free (taken_by old.trees edit) edit.news mode.keys) written.1 in
      let made : after.trees ≡ written.0 = ap (λ (d : Database). d.trees) now ∙ trees in
      let a : Applies schema mode.keys old.trees edit after.trees = subst (λ t. Applies schema mode.keys old.trees edit t) (sym made) first in
      record {
        schema_stays = ap (λ (d : Database). d.schema) now ∙ sym has;
        sound = done_sound;
        rows = none_left old up asked.0 all mode.keys after.trees a;
        shaped = λ h. subst (IsShaped shape.Table) (sym a.rows) (shaped_left (ids_of asked.0) (old.trees other.tree) h);
        others = λ t there. others_stay schema mode.keys old.trees after.trees edit a t (subst (λ s. Has s.tables t) has there);
      }

  module _ (sql : List ℕ) (text : IsCommand schema sql (Delete at program)) (old new : State) (has : old.now.schema ≡ schema) where
    pub emptied : (count : ℕ) → IsShaped shape.Table (old.now.trees other.tree) → Executes sql [] old new (Ok count) → Changes other.tree IsEmptied old.now new.now × InPlace old new
    emptied count up h =
        let w = runs_as sql [] old new schema has (Delete at program) text.is text.plain count h in
        (empties old.step_limit (mode_of old) old.now new.now [] w.tally has up w.sound w.changed, (w.shown, w.marks))
