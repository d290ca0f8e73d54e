-- Where a table stands in a schema that has it, and what a text over it then means.
use Rattle.std.proofs.Common.{◌≡◌, ℕ, List, Some, refl, sym, ap, subst}
use Rattle.sqlite_rules.specs.Lists.{Has}
use Rattle.sqlite_rules.proofs.ListLemmas.{has_got}
use Rattle.sqlite_schema.specs.declared.schema.Schema.{Schema}
use Rattle.sqlite_schema.specs.declared.schema.Table.{Table}
use Rattle.sqlite_schema.specs.Names.{table_named}
use Rattle.sqlite_trees.specs.declared.store.Shape.TheVariants as shape
use Rattle.sqlite.specs.Effect.{Database}
use Rattle.sqlite.specs.Order.{Row}
use Rattle.sqlite.specs.View.{IsShaped}
use Rattle.gaz_sql_facts.specs.Changes.{Changes}
use Rattle.gaz_sql_facts.specs.Meaning.{Means, MeansAnywhere, OnTable, placed}
use Rattle.gaz_sql_facts.specs.Standing.{IsApart, ReadsAs, StandsAt}
use Rattle.gaz_sql_facts.proofs.Texts.{IsCommand, is_command}
use Rattle.gaz_tables.specs.Stores.{ChangesTable}
use Rattle.gaz_tables.specs.Tables.{HasTable, IsLike, IsListed, rows_of, tree_named, tree_of}

-- a table that stands is listed
pub is_listed : (like : Table) (schema : Schema) → HasTable like schema → IsListed like schema
is_listed like schema has = record { table = has.table; there = has_got schema.tables has.place has.table has.stands.listed; name = has.is_like.name; columns = has.is_like.columns }

module _ (like : Table) (schema : Schema) (has : HasTable like schema) where
  pub tree_is : tree_of like schema ≡ has.table.tree
  unfolding tree_named
  tree_is =
      let named : table_named schema like.name ≡ Some has.place = subst (λ name. table_named schema name ≡ Some has.place) has.is_like.name has.stands.named in
      rw (named, has.stands.listed)

  -- what is said of the table beside its columns and keys
  abbrev pub rest : Table
  rest = record has.table { tree = tree_of like schema }

  -- the table that stands, by what it is like
  abbrev pub table : Table
  table = record has.table {
    name = like.name;
    tree = tree_of like schema;
    columns = like.columns;
    key = like.key;
    uniques = like.uniques;
    orders = like.orders;
    computed = like.computed;
    stamps = like.stamps;
    is_counted = like.is_counted;
  }

  is_table : has.table ≡ table
  is_table = λ i. record has.table {
    name = has.is_like.name i;
    tree = sym tree_is i;
    columns = has.is_like.columns i;
    key = has.is_like.key i;
    uniques = has.is_like.uniques i;
    orders = has.is_like.orders i;
    computed = has.is_like.computed i;
    stamps = has.is_like.stamps i;
    is_counted = has.is_like.is_counted i;
  }

  pub stands : StandsAt schema has.place table
  stands = subst (StandsAt schema has.place) is_table has.stands

  pub listed : Has schema.tables table
  listed = has_got schema.tables has.place table stands.listed

  pub apart : IsApart schema (tree_of like schema)
  apart = subst (IsApart schema) (sym tree_is) has.apart

  pub reads : ReadsAs like table
  reads = record { name = refl; columns = refl; key = refl; computed = refl; stamps = refl }

  module _ (text : List ℕ) (it : OnTable) (means : MeansAnywhere like text it) where
    pub means_here : Means schema text (placed has.place (tree_of like schema) it)
    means_here = means schema has.place table reads stands

    pub command_here : IsCommand schema text (placed has.place (tree_of like schema) it)
    command_here = is_command schema text _ means_here

pub likes_itself : (t : Table) → IsLike t t
likes_itself t = record { name = refl; columns = refl; key = refl; uniques = refl; orders = refl; computed = refl; stamps = refl; is_counted = refl }

-- what a statement changes at the table's tree is the table's rows
pub changes_table : (like : Table) (Becomes : List Row → List Row → Type 0) (old new : Database) → Changes (tree_of like old.schema) Becomes old new → ChangesTable like Becomes old new
changes_table like Becomes old new h =
    let there : new.trees (tree_of like old.schema) ≡ rows_of new like = ap (λ s. new.trees (tree_of like s)) (sym h.schema_stays) in
    record {
      schema_stays = h.schema_stays;
      sound = h.sound;
      rows = subst (Becomes (rows_of old like)) there h.rows;
      shaped = λ good. subst (IsShaped shape.Table) there (h.shaped good);
      others = h.others;
    }
