-- The trees of a database tell its tables, and so whether it has a store's, and their rows.
use Rattle.std.proofs.Common.{◌≡◌, ◌∙◌, List, sym, ap, subst}
use Rattle.sqlite_rules.specs.Lists.{Has}
use Rattle.sqlite_schema.specs.declared.schema.Schema.{Schema}
use Rattle.sqlite_schema.specs.declared.schema.Table.{Table}
use Rattle.sqlite_trees.specs.declared.store.Shape.TheVariants as shape
use Rattle.sqlite.specs.View.{IsShaped}
use Rattle.gaz_sql_facts.proofs.Unique.{one_list}
use Rattle.gaz_tables.specs.Laws.{TreesTell}
use Rattle.gaz_tables.specs.Schema.{meta, received, version, version2}
use Rattle.gaz_tables.specs.Tables.{HasTable, IsListed, rows_of, tree_named, tree_of}

-- the schema, with the tables of another
abbrev with_tables : Schema → List Table → Schema
with_tables schema tables = record schema { tables = tables }

-- neither where a table stands nor its tree hangs on the indexes and views
module _ (like : Table) (s t : Schema) (same : t.tables ≡ s.tables) where
  beside : HasTable like s → HasTable like (with_tables t s.tables)
  beside has = record {
    table = has.table;
    place = has.place;
    stands = record { named = has.stands.named; listed = has.stands.listed; by_tree = has.stands.by_tree; stored = has.stands.stored };
    is_like = has.is_like;
    apart = has.apart;
  }

  pub stands_too : HasTable like s → HasTable like t
  stands_too has = subst (λ tables. HasTable like (with_tables t tables)) (sym same) (beside has)

  pub listed_too : IsListed like s → IsListed like t
  listed_too is = record { table = is.table; there = subst (λ tables. Has tables is.table) (sym same) is.there; name = is.name; columns = is.columns }

  pub tree_too : tree_of like t ≡ tree_of like s
  unfolding tree_named
  tree_too = ap (λ tables. tree_of like (with_tables t tables)) same

pub trees_tell : TreesTell
trees_tell one other has sound same =
    let tables = one_list other one same sound has.sound in
    let rows : (table : Table) → rows_of other table ≡ rows_of one table =
    (λ table. ap (λ trees. trees (tree_of table other.schema)) same ∙ ap one.trees (tree_too table one.schema other.schema tables)) in (
      record {
        there = record {
          firsts = listed_too version one.schema other.schema tables has.there.firsts;
          versions = stands_too version2 one.schema other.schema tables has.there.versions;
          receiveds = stands_too received one.schema other.schema tables has.there.receiveds;
          metas = stands_too meta one.schema other.schema tables has.there.metas;
        };
        sound = sound;
        versions_shaped = subst (IsShaped shape.Table) (sym (rows version2)) has.versions_shaped;
        receiveds_shaped = subst (IsShaped shape.Table) (sym (rows received)) has.receiveds_shaped;
        metas_shaped = subst (IsShaped shape.Table) (sym (rows meta)) has.metas_shaped;
      },
      rows,
    )
