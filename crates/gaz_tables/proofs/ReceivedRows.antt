-- A row of `received` has a value of its column's kind in each column.
use Rattle.std.proofs.Common.{refl}
use Rattle.sqlite.specs.Effect.{Database}
use Rattle.sqlite.specs.Kind.TheVariants.{Integer}
use Rattle.sqlite.specs.Order.{Row}
use Rattle.sqlite_rules.specs.Lists.{Has}
use Rattle.gaz_sql_facts.specs.Tables.{AreOf, IsOf, cells}
use Rattle.gaz_sql_facts.proofs.Typed.{typed}
use Rattle.gaz_tables.proofs.Standing.{listed, table}
use Rattle.gaz_tables.specs.Schema.{received, received_columns}
use Rattle.gaz_tables.specs.Stores.{HasTables}
use Rattle.gaz_tables.specs.Tables.{rows_of}
use Rattle.gaz_tables.specs.Receiveds.{cust_of, volume_of}

module _ (db : Database) (has : HasTables db) (r : Row) (there : Has (rows_of db received) r) where
  cells_are : AreOf received_columns (cells received_columns 1 r)
  cells_are = typed db r (table received db.schema has.there.receiveds) has.sound (listed received db.schema has.there.receiveds) there refl refl

  pub cust_is : IsOf Integer (cust_of r)
  cust_is = cells_are.0

  pub volume_is : IsOf Integer (volume_of r)
  volume_is = cells_are.1.0
