-- A row of `version2` has a value of its column's kind in each column.
use Rattle.std.proofs.Common.{refl}
use Rattle.sqlite.specs.Effect.{Database}
use Rattle.sqlite.specs.Kind.TheVariants.{Integer, Text}
use Rattle.sqlite.specs.Order.{Row}
use Rattle.sqlite_rules.specs.Lists.{Has}
use Rattle.gaz_sql_facts.specs.Tables.{AreOf, IsOf, cells}
use Rattle.gaz_sql_facts.proofs.Typed.{typed}
use Rattle.gaz_tables.proofs.Standing.{listed, table}
use Rattle.gaz_tables.specs.Schema.{version2, version2_columns}
use Rattle.gaz_tables.specs.Stores.{HasTables}
use Rattle.gaz_tables.specs.Tables.{rows_of}
use Rattle.gaz_tables.specs.Versions.{cust_of, kind_of, id_of, blpu_of, street_of, live_of, born_of, gone_of}

module _ (db : Database) (has : HasTables db) (r : Row) (there : Has (rows_of db version2) r) where
  cells_are : AreOf version2_columns (cells version2_columns 1 r)
  cells_are = typed db r (table version2 db.schema has.there.versions) has.sound (listed version2 db.schema has.there.versions) there refl refl

  pub cust_is : IsOf Integer (cust_of r)
  cust_is = cells_are.0

  pub kind_is : IsOf Integer (kind_of r)
  kind_is = cells_are.1.0

  pub id_is : IsOf Text (id_of r)
  id_is = cells_are.1.1.0

  pub blpu_is : IsOf Integer (blpu_of r)
  blpu_is = cells_are.1.1.1.0

  pub street_is : IsOf Integer (street_of r)
  street_is = cells_are.1.1.1.1.0

  pub live_is : IsOf Integer (live_of r)
  live_is = cells_are.1.1.1.1.1.1.0

  pub born_is : IsOf Integer (born_of r)
  born_is = cells_are.1.1.1.1.1.1.1.0

  pub gone_is : IsOf Integer (gone_of r)
  gone_is = cells_are.1.1.1.1.1.1.1.1.0
