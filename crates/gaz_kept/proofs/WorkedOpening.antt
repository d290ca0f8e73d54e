-- Worked examples of which databases are taken as a store.
use Rattle.std.proofs.Common.{◌≡◌, ◌≢◌, ◌∙◌, ℕ, pos, List, [], ◌∷◌, arith, refl, ap}
use Rattle.sqlite.specs.Order.{Row, column}
use Rattle.sqlite.specs.declared.types.Value.{Value}
use Rattle.sqlite.specs.declared.types.Value.TheVariants.{Int, Text}
use Rattle.sqlite_schema.specs.Names.{same_name}
use Rattle.gaz_tables.specs.Metas.{meta_row}
use Rattle.gaz_kept.specs.Numbered as numbered
use Rattle.gaz_kept.specs.Opening.{has_all, has_any, schema_number}
use Rattle.gaz_kept.specs.WorkedOpening.{WorkedOpening, WorkedRegisters, WorkedSchemas, others, ours, second_row}

schemas_hold : WorkedSchemas
unfolding has_all has_any same_name
schemas_hold = record {
  empty_is_free = refl;
  empty_is_no_store = refl;
  store_is_taken = refl;
  store_has_all = refl;
  first_is_taken = refl;
  first_is_no_store = refl;
  not_without_meta = refl;
  not_without_first = refl;
  other_case = refl;
  no_columns = refl;
  column_in_other_case = refl;
}

abbrev IsNumbered : Row → List Row → Type 0
IsNumbered = numbered.IsNumbered schema_number

numbered_ours : IsNumbered (meta_row 2 ours) (meta_row 2 ours ∷ [])
numbered_ours = record { only = refl; id = refl; number_is = refl }

numbered_others : IsNumbered (meta_row 2 others) (meta_row 2 others ∷ [])
numbered_others = record { only = refl; id = refl; number_is = refl }

abbrev head_of : Value → ℕ
head_of (Text (c ∷ cs)) = c
head_of v = 0

pub differ : Text others ≢ Text ours
differ e = let heads : ◌≡◌ {A = ℕ} 50 49 = ap head_of e in absurd (omega (arith, heads))

no_row : (r : Row) → ¬ IsNumbered r []
no_row r h = let e = h.only in absurd (cc)

no_two : (r : Row) → ¬ IsNumbered r (meta_row 2 ours ∷ second_row ∷ [])
no_two r h = let e = h.only in absurd (cc)

abbrev pub first_of : List Row → Row
first_of [] = []
first_of (r ∷ rows) = r

no_number_1 : (r : Row) → ¬ IsNumbered r (meta_row 1 ours ∷ [])
no_number_1 r h = let e : ◌≡◌ {A = Value} (Int (pos 1)) (Int (pos 2)) = ap (λ l. column (first_of l) 2) h.only ∙ h.number_is in absurd (cc)

no_id_2 : (r : Row) → ¬ IsNumbered r (second_row ∷ [])
no_id_2 r h = let e : ◌≡◌ {A = Value} (Int (pos 2)) (Int (pos 1)) = ap (λ l. column (first_of l) 0) h.only ∙ h.id in absurd (cc)

registers_hold : WorkedRegisters
registers_hold = record {
  taken = (meta_row 2 ours, numbered_ours, refl);
  of_another = (meta_row 2 others, numbered_others, differ);
  no_row = no_row;
  two_rows = no_two;
  of_number_1 = no_number_1;
  of_id_2 = no_id_2;
}

pub worked_opening_holds : WorkedOpening
worked_opening_holds = record { on_schemas = schemas_hold; on_registers = registers_hold }
