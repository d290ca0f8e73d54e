-- Worked examples: of which schemas a migration is said, and what becomes of them.
use Rattle.std.specs.Prelude.{◌≡◌, ℕ, pos, List, [], ◌∷◌, codes}
use Rattle.sqlite.specs.Effect.{Database}
use Rattle.sqlite.specs.Order.{Row}
use Rattle.sqlite.specs.declared.types.Value.TheVariants.{Int}
use Rattle.sqlite_catalog.specs.Listing.{automatic}
use Rattle.sqlite_schema.specs.declared.schema.Schema.{Schema}
use Rattle.gaz_tables.specs.Creating.{HasRoomForSecond, second_in}
use Rattle.gaz_tables.specs.Migrating.{Migrates}
use Rattle.gaz_tables.specs.Schema.{by_blpu2, of_keys, of_volumes, old_versions}
use Rattle.gaz_tables.specs.Schema.{first_schema, meta, received, store_schema, version, version2}
use Rattle.gaz_tables.specs.StoreExamples.{reasons}
use Rattle.gaz_tables.specs.Tables.{AreFirstThere, tree_of}

-- the tables of schema 1 stand there, and there is room for what schema 2 has beside them
pub record AwaitsSecond (schema : Schema) : Type 0 where
  pub there : AreFirstThere schema
  pub room : HasRoomForSecond schema

-- the tables of schema 1, made in another order, so that each has another tree, with no index that
-- a key doesn't need, and with somebody's table of reasons between them
abbrev pub reordered_first : Schema
reordered_first = record {
  tables = record meta { tree = 1 } ∷ reasons ∷ record received { tree = 2 }
      ∷ record version { tree = 4 } ∷ [];
  indexes = automatic (record received { tree = 2 }) 0 (1 ∷ 2 ∷ []) 3
      ∷ automatic (record version { tree = 4 }) 0 (1 ∷ 2 ∷ 3 ∷ 8 ∷ []) 5
      ∷ automatic reasons 0 (1 ∷ 2 ∷ []) 12 ∷ [];
  views = [];
}

-- schema 1 without its files
abbrev pub without_files : Schema
without_files = record first_schema { tables = version ∷ meta ∷ [] }

-- schema 1 beside a table, or with an index, of a name that schema 2 has
abbrev pub beside_version2 : Schema
beside_version2 = record first_schema {
  tables = version ∷ received ∷ meta ∷ record reasons { name = codes "Version2" } ∷ [];
}

abbrev pub with_by_blpu2 : Schema
with_by_blpu2 = record first_schema {
  indexes = of_keys ∷ of_volumes ∷ record by_blpu2 { table = old_versions } ∷ [];
}

-- a reason that somebody gave for volume 3 of 1001
abbrev pub one_reason : Row
one_reason = Int (pos 1) ∷ Int (pos 1001) ∷ Int (pos 3) ∷ []

pub record WorkedMigrating : Type 0 where
  pub own : AwaitsSecond first_schema
  pub in_another_order : AwaitsSecond reordered_first
  pub behind_another : tree_of version2 (second_in reordered_first) ≡ 13
  pub versions_stay : tree_of version (second_in reordered_first) ≡ 4
  pub another_stays : tree_of reasons (second_in reordered_first) ≡ 11
  pub not_once_more : ¬ AwaitsSecond store_schema
  pub not_without_files : ¬ AwaitsSecond without_files
  pub not_beside_a_namesake : ¬ AwaitsSecond beside_version2
  pub not_beside_an_index : ¬ AwaitsSecond with_by_blpu2
  pub another_is_emptied : (number : ℕ) (register : List ℕ) (old new : Database)
      → old.schema ≡ reordered_first → old.trees reasons.tree ≡ one_reason ∷ []
      → new.trees reasons.tree ≡ [] → ¬ Migrates number register old new
