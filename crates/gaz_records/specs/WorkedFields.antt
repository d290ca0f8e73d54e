-- Worked examples of the fields of records, computed from the definitions.
use Rattle.std.specs.Prelude.{◌≡◌, ℕ, List, [], ◌∷◌, Some, None, Result, Ok, Err, codes}
use Rattle.gaz_fields.specs.WorkedDates.{date}
use Rattle.gaz_fields.specs.declared.fields.FieldFault.{FieldFault}
use Rattle.gaz_fields.specs.declared.fields.FieldFault.TheVariants as fault
use Rattle.gaz_records.specs.Items.{read_item}
use Rattle.gaz_records.specs.declared.item.Item.{Item}
use Rattle.gaz_records.specs.declared.item.Item.TheVariants as item
use Rattle.gaz_records.specs.declared.item.Kind.TheVariants as kind

-- the fields of a street's record, of these dates
abbrev pub street : List ℕ → List ℕ → Result Item FieldFault
street start end = read_item kind.Street (codes "101" ∷ codes "1" ∷ start ∷ end ∷ [])

-- a record is read whole, and the first field of a wrong form is told by its number, from 1
pub record WorkedFields : Type 0 where
  pub open_end : street (codes "2001-04-01") []
      ≡ Ok (item.Street (record { usrn = 101; street_type = 1; start = date 2001 4 1; end = None }))
  pub one_day : street (codes "2001-04-01") (codes "2001-04-01") ≡ Ok (item.Street
      (record { usrn = 101; street_type = 1; start = date 2001 4 1; end = Some (date 2001 4 1) }))
  pub end_before_start : street (codes "2001-04-01") (codes "2001-03-31") ≡ Err (fault.Form 4)
  pub no_start : street [] (codes "2001-03-31") ≡ Err (fault.Form 3)
  pub no_number : read_item kind.Street (codes "0" ∷ codes "9" ∷ [] ∷ [] ∷ []) ≡ Err (fault.Form 1)
  pub one_too_few : read_item kind.Street (codes "0" ∷ codes "9" ∷ [] ∷ []) ≡ Err fault.Count
