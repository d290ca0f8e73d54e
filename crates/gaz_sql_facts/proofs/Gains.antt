-- What CREATE TABLE and CREATE INDEX make of a database, whatever tables and rows it has.
use Rattle.std.proofs.Common.{◌≡◌, ℕ, List, [], false, None, Some, slice_get, Ok, sym, ap, subst, ◌∙◌}
use Rattle.sqlite.specs.Change.{created, indexed, next_tree}
use Rattle.sqlite.specs.Command.TheVariants.{CreateTable, CreateIndex}
use Rattle.sqlite.specs.Compile.{table_defined_by, index_defined_by}
use Rattle.sqlite.specs.Does.{Tally, Does, lacks_sequence}
use Rattle.sqlite.specs.Effect.{Database}
use Rattle.sqlite.specs.Listing.{understood}
use Rattle.sqlite.specs.Schema.{Schema}
use Rattle.sqlite.specs.State.{State, mode_of, Writes, Executes}
use Rattle.sqlite.specs.Table.{Table}
use Rattle.sqlite.proofs.Callers.{IsPlain, command_of, statement_of, runs_as}
use Rattle.sqlite_catalog.specs.Change.{KeepsRows}
use Rattle.sqlite_rules.specs.Lists.{Has}
use Rattle.sqlite_rules.proofs.ListLemmas.{all_has}
use Rattle.sqlite_schema.specs.declared.schema.Index.{Index}
use Rattle.gaz_sql_facts.specs.Changes.{InPlace}
use Rattle.gaz_sql_facts.specs.Gains.{GainsTable, GainsIndex}
use Rattle.gaz_sql_facts.proofs.Inserts.{went, same_value}

-- the text makes this table of a database of this schema
pub record IsTableText (schema : Schema) (sql : List ℕ) (table : Table) : Type 0 where
  pub is : command_of (understood schema sql) ≡ CreateTable
  pub text : statement_of sql (understood schema sql) ≡ sql
  pub plain : IsPlain (understood schema sql)
  pub defined : table_defined_by sql ≡ Ok table

-- the text makes this index of the table at this place
pub record IsIndexText (schema : Schema) (sql : List ℕ) (at : ℕ) (table : Table) (index : Index) : Type 0 where
  pub is : command_of (understood schema sql) ≡ CreateIndex at
  pub text : statement_of sql (understood schema sql) ≡ sql
  pub plain : IsPlain (understood schema sql)
  pub defined : index_defined_by table sql ≡ Ok index

-- a table and an index whose trees are still to be chosen
abbrev pub unplaced_table : Table → Table
unplaced_table t = record t { tree = 0 }

abbrev pub unplaced_index : Index → Index
unplaced_index i = record i { tree = 0 }

module _ (schema : Schema) (sql : List ℕ) (old new : State) (has : old.now.schema ≡ schema) where
  each_kept : (d : Database) → KeepsRows schema.tables old.now.trees d.trees → (t : Table) → Has old.now.schema.tables t → d.trees t.tree ≡ old.now.trees t.tree
  each_kept d kept t there = all_has (λ (t : Table). d.trees t.tree ≡ old.now.trees t.tree) schema.tables t kept (subst (λ s. Has s.tables t) has there)

  pub table_gained : (table : Table) → IsTableText schema sql table → lacks_sequence (created schema table) ≡ false → (count : ℕ) → Executes sql [] old new (Ok count) → GainsTable table old.now new.now × InPlace old new
  table_gained table it plain count h =
      let run = runs_as sql [] old new schema has CreateTable it.is it.plain count h in
      let w = subst (λ t. Writes old new None CreateTable t [] count) it.text run in
      let all = went w.changed in
      let first = went all.1 in
      let m = first.1 in
      let same : m.table ≡ table = same_value (sym m.defined ∙ it.defined) in
      let grown : first.0.schema ≡ created old.now.schema table = m.is ∙ ap (created old.now.schema) same in
      let bare : lacks_sequence first.0.schema ≡ false = ap lacks_sequence (grown ∙ ap (λ s. created s table) has) ∙ plain in
      let now : new.now ≡ first.0 = ap (λ (p : Tally × Database). p.1) (same_value all.2) ∙ same_value (rw bare at first.2) in
      let kept : KeepsRows schema.tables old.now.trees first.0.trees = subst (λ s. KeepsRows s.tables old.now.trees first.0.trees) has m.others in (
        record {
          schema_is = ap (λ (d : Database). d.schema) now ∙ grown;
          sound = w.sound;
          empty = ap (λ (d : Database). d.trees (next_tree old.now.schema)) now ∙ m.empty;
          others = each_kept new.now (subst (λ (d : Database). KeepsRows schema.tables old.now.trees d.trees) (sym now) kept);
        },
        (w.shown, w.marks),
      )

  pub index_gained : (at : ℕ) (table : Table) (index : Index) → slice_get schema.tables at ≡ Some table → IsIndexText schema sql at table index → (count : ℕ) → Executes sql [] old new (Ok count)
      → GainsIndex table index old.now new.now × InPlace old new
  index_gained at table index listed it count h =
      let run = runs_as sql [] old new schema has (CreateIndex at) it.is it.plain count h in
      let w = subst (λ t. Writes old new None (CreateIndex at) t [] count) it.text run in
      let done = went (rw listed at (subst (λ s. Does old.step_limit (mode_of old) [] (record old.now { schema = s }) sql None (CreateIndex at) (Ok (w.tally, new.now))) has w.changed)) in
      let m = done.1 in
      let same : m.index ≡ index = same_value (sym m.defined ∙ it.defined) in
      let now : new.now ≡ done.0 = ap (λ (p : Tally × Database). p.1) (same_value done.2) in (
        record {
          schema_is = ap (λ (d : Database). d.schema) now ∙ m.is ∙ ap (indexed schema table) same ∙ ap (λ s. indexed s table index) (sym has);
          sound = w.sound;
          others = each_kept new.now (subst (λ (d : Database). KeepsRows schema.tables old.now.trees d.trees) (sym now) m.rows);
        },
        (w.shown, w.marks),
      )
