-- The trees of a database tell whether it is what a store keeps, and what it stands for.
use Rattle.std.proofs.Common.{◌≡◌, sym, subst}
use Rattle.sqlite.specs.Effect.{Database, IsDatabase}
use Rattle.sqlite_schema.specs.declared.schema.Table.{Table}
use Rattle.gaz_views.specs.View.{View}
use Rattle.gaz_tables.proofs.Trees.{trees_tell}
use Rattle.gaz_tables.specs.Schema.{received, version2}
use Rattle.gaz_tables.specs.Stores.{HasTables}
use Rattle.gaz_tables.specs.Tables.{rows_of}
use Rattle.gaz_kept.specs.Contents.{content_in, content_of}
use Rattle.gaz_kept.specs.Kept.{AreKept, IsKept}

module _ (one other : Database) (kept : IsKept one) (sound : IsDatabase other) (same : other.trees ≡ one.trees) where
  pub same_rows : (table : Table) → rows_of other table ≡ rows_of one table
  same_rows = (trees_tell one other kept.tables sound same).1

  over_rows : AreKept (HasTables other) (rows_of one received) (rows_of one version2)
  over_rows = record {
    tables = (trees_tell one other kept.tables sound same).0;
    files = kept.files;
    first = kept.first;
    rows = kept.rows;
    histories = kept.histories;
    passages = kept.passages;
  }

  pub same_kept : IsKept other
  same_kept =
      subst (λ files. AreKept (HasTables other) files (rows_of other version2)) (sym (same_rows received))
      (subst (λ items. AreKept (HasTables other) (rows_of one received) items) (sym (same_rows version2)) over_rows)

  pub same_content : (working : View) → content_in other working ≡ content_in one working
  same_content working = λ i. content_of (same_rows received i) (same_rows version2 i) working
