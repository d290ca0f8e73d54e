-- Worked examples of which databases are taken as a store, computed from the definitions.
use Rattle.std.specs.Prelude.{◌≡◌, ℕ, pos, true, false, codes, List, [], ◌∷◌, Ok, Err}
use Rattle.sqlite.specs.Order.{Row}
use Rattle.sqlite.specs.Schema.{Schema}
use Rattle.sqlite.specs.Table.{Table}
use Rattle.sqlite.specs.declared.types.Value.TheVariants.{Int, Text, Null}
use Rattle.gaz_tables.specs.Creating.{no_schema}
use Rattle.gaz_tables.specs.Metas.{meta_row}
use Rattle.gaz_tables.specs.Schema.{first_schema, meta, received, store_schema, version, version2}
use Rattle.gaz_tables.specs.StoreExamples.{without_first}
use Rattle.gaz_kept.specs.Opening.{IsJudged, has_all, has_any, has_column, is_like}
use Rattle.gaz_kept.specs.declared.refusal.StoreRefusal.TheVariants.{BadSchema, OtherRegister}

-- the schema of somebody who has a table `META` alone, with other columns
abbrev pub meta_of_another : Table
meta_of_another = record meta { name = codes "META"; columns = [] }

abbrev pub schema_of_another : Schema
schema_of_another = record { tables = meta_of_another ∷ []; indexes = []; views = [] }

-- a store's own schema without its table `meta`
abbrev pub without_meta : Schema
without_meta = record store_schema { tables = version ∷ received ∷ version2 ∷ [] }

pub record WorkedSchemas : Type 0 where
  pub empty_is_free : has_any no_schema ≡ false
  pub empty_is_no_store : has_all no_schema ≡ false
  pub store_is_taken : has_any store_schema ≡ true
  pub store_has_all : has_all store_schema ≡ true
  pub first_is_taken : has_any first_schema ≡ true
  pub first_is_no_store : has_all first_schema ≡ false
  pub not_without_meta : has_all without_meta ≡ false
  pub not_without_first : has_all without_first ≡ false
  pub other_case : has_any schema_of_another ≡ true
  pub no_columns : is_like meta meta_of_another ≡ false
  pub column_in_other_case : has_column meta (codes "Register") ≡ true

-- the texts of two registers
abbrev pub ours : List ℕ
ours = codes "1001,Upper County,1-99999,100-199\n"

abbrev pub others : List ℕ
others = codes "2001,Upper County,1-99999,100-199\n"

-- a second row, of id 2
abbrev pub second_row : Row
second_row = Int (pos 2) ∷ Null ∷ Int (pos 2) ∷ Text ours ∷ []

pub record WorkedRegisters : Type 0 where
  pub taken : IsJudged ours (meta_row 2 ours ∷ []) (Ok tt)
  pub of_another : IsJudged ours (meta_row 2 others ∷ []) (Err OtherRegister)
  pub no_row : IsJudged ours [] (Err BadSchema)
  pub two_rows : IsJudged ours (meta_row 2 ours ∷ second_row ∷ []) (Err BadSchema)
  pub of_number_1 : IsJudged ours (meta_row 1 ours ∷ []) (Err BadSchema)
  pub of_id_2 : IsJudged ours (second_row ∷ []) (Err BadSchema)

pub record WorkedOpening : Type 0 where
  pub on_schemas : WorkedSchemas
  pub on_registers : WorkedRegisters
