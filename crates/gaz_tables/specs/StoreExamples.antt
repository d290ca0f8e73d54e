-- Worked examples: which schemas have a store's tables.
use Rattle.std.specs.Prelude.{◌≡◌, false, [], ◌∷◌, codes}
use Rattle.sqlite_catalog.specs.Listing.{automatic}
use Rattle.sqlite_schema.specs.declared.schema.Action.TheVariants.{NoAction}
use Rattle.sqlite_schema.specs.declared.schema.Reference.{Reference}
use Rattle.sqlite_schema.specs.declared.schema.Schema.{Schema}
use Rattle.sqlite_schema.specs.declared.schema.Table.{Table}
use Rattle.sqlite.specs.Kind.TheVariants.{Blob, Integer}
use Rattle.gaz_sql_facts.specs.Tables.{required, strict}
use Rattle.gaz_tables.specs.Schema.{meta, received, store_schema, version, version2}
use Rattle.gaz_tables.specs.Schema.{of_keys, of_keys2, of_volumes}
use Rattle.gaz_tables.specs.Tables.{AreThere, HasTable, tree_of}

-- a store's own schema, where each index is gone that a key doesn't need
abbrev pub unindexed : Schema
unindexed = record store_schema { indexes = of_keys ∷ of_volumes ∷ of_keys2 ∷ [] }

-- of each file why somebody sent it
abbrev pub reasons : Table
reasons = strict (codes "reasons") 11
    (required (codes "cust") Integer ∷ required (codes "volume") Integer ∷ []) (1 ∷ 2 ∷ []) []

-- a store's tables, and another before them
abbrev pub with_reasons : Schema
with_reasons = record store_schema {
  tables = reasons ∷ version ∷ received ∷ meta ∷ version2 ∷ [];
}

-- a store's tables, made in another order, so that each has another tree
abbrev pub reordered : Schema
reordered = record {
  tables = record version2 { tree = 1 } ∷ record meta { tree = 3 }
      ∷ record received { tree = 4 } ∷ record version { tree = 6 } ∷ [];
  indexes = automatic (record version2 { tree = 1 }) 0 (1 ∷ 2 ∷ 3 ∷ 8 ∷ []) 2
      ∷ automatic (record received { tree = 4 }) 0 (1 ∷ 2 ∷ []) 5
      ∷ automatic (record version { tree = 6 }) 0 (1 ∷ 2 ∷ 3 ∷ 8 ∷ []) 7 ∷ [];
  views = [];
}

-- a store's own schema from which `version` is gone, which stays of schema 1
abbrev pub without_first : Schema
without_first = record store_schema { tables = received ∷ meta ∷ version2 ∷ [] }

-- `received` without its last column
abbrev pub without_rule : Table
without_rule = strict (codes "received") 4
    (required (codes "cust") Integer ∷ required (codes "volume") Integer
    ∷ required (codes "bytes") Blob ∷ required (codes "state") Integer
    ∷ required (codes "place") Integer ∷ []) (1 ∷ 2 ∷ []) []

abbrev pub narrower : Schema
narrower = record store_schema { tables = version ∷ without_rule ∷ meta ∷ version2 ∷ [] }

-- a foreign key to the files, by their own key
abbrev pub to_received : Reference
to_received = record {
  columns = 1 ∷ 2 ∷ [];
  parent = codes "received";
  parent_columns = codes "cust" ∷ codes "volume" ∷ [];
  on_delete = NoAction;
  on_update = NoAction;
  is_deferred = false;
}

-- where each reason is that of a file
abbrev pub of_files : Schema
of_files = record with_reasons {
  tables = record reasons { references = to_received ∷ [] }
      ∷ version ∷ received ∷ meta ∷ version2 ∷ [];
}

pub record WorkedStores : Type 0 where
  pub own : AreThere store_schema
  pub without_indexes : AreThere unindexed
  pub with_another : AreThere with_reasons
  pub in_another_order : AreThere reordered
  pub found_there : tree_of received reordered ≡ 4
  pub not_without_first : ¬ AreThere without_first
  pub not_with_a_column_less : ¬ HasTable received narrower
  pub not_where_a_key_leads_there : ¬ HasTable received of_files
  pub others_still : HasTable version2 of_files
