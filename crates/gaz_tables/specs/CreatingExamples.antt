-- Worked examples: which schemas have room for a store, and what becomes of them.
use Rattle.std.specs.Prelude.{◌≡◌, true, false, [], ◌∷◌, codes}
use Rattle.sqlite_catalog.specs.Listing.{automatic}
use Rattle.sqlite_schema.specs.declared.schema.Action.TheVariants.{NoAction}
use Rattle.sqlite_schema.specs.declared.schema.Reference.{Reference}
use Rattle.sqlite_schema.specs.declared.schema.Schema.{Schema}
use Rattle.gaz_tables.specs.Creating.{HasRoom, no_schema, second_in, store_in}
use Rattle.gaz_tables.specs.Schema.{by_street2, first_schema, store_schema, version}
use Rattle.gaz_tables.specs.StoreExamples.{reasons}
use Rattle.gaz_tables.specs.Tables.{tree_of}

-- somebody's table of reasons, and the index of its key
abbrev pub only_reasons : Schema
only_reasons = record {
  tables = reasons ∷ [];
  indexes = automatic reasons 0 (1 ∷ 2 ∷ []) 12 ∷ [];
  views = [];
}

-- the same table under the name of one of a store's
abbrev pub only_received : Schema
only_received = record only_reasons { tables = record reasons { name = codes "Received" } ∷ [] }

-- with an index of one of a store's names
abbrev pub with_by_street2 : Schema
with_by_street2 = record only_reasons { indexes = by_street2 ∷ [] }

-- a foreign key to a table `meta` that isn't there
abbrev pub to_meta : Reference
to_meta = record {
  columns = 1 ∷ [];
  parent = codes "Meta";
  parent_columns = [];
  on_delete = NoAction;
  on_update = NoAction;
  is_deferred = false;
}

abbrev pub of_meta : Schema
of_meta = record only_reasons { tables = record reasons { references = to_meta ∷ [] } ∷ [] }

-- a table that counts its rowids, without the table of the counts
abbrev pub uncounted : Schema
uncounted = record only_reasons { tables = record reasons { is_counted = true } ∷ [] }

pub record WorkedCreating : Type 0 where
  pub of_nothing : store_in no_schema ≡ store_schema
  pub of_schema_1 : second_in first_schema ≡ store_schema
  pub behind_another : tree_of version (store_in only_reasons) ≡ 13
  pub another_stays : tree_of reasons (store_in only_reasons) ≡ 11
  pub room_in_nothing : HasRoom no_schema
  pub room_beside_another : HasRoom only_reasons
  pub not_beside_its_own : ¬ HasRoom store_schema
  pub not_beside_a_namesake : ¬ HasRoom only_received
  pub not_beside_an_index : ¬ HasRoom with_by_street2
  pub not_under_a_key : ¬ HasRoom of_meta
  pub not_without_counts : ¬ HasRoom uncounted
