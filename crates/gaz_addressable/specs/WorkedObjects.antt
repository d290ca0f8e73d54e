-- Worked examples of addressable objects, computed from the definitions.
use Rattle.std.specs.Prelude.{◌≡◌, ℕ, [], ◌∷◌, Option, Some, None, Ok, Err, codes}
use Rattle.gaz_addressable.specs.HouseNumbers.{HouseNumberValue}
use Rattle.gaz_addressable.specs.Objects.{ObjectValue, object_of}
use Rattle.gaz_addressable.specs.declared.object.ObjFault.TheVariants as fault

-- house number 12 with this suffix, or without one
abbrev pub twelve : Option ℕ → HouseNumberValue
twelve suffix = record { n = 12; suffix = suffix }

-- an object of house numbers alone, up to an end or not
abbrev pub houses : HouseNumberValue → Option HouseNumberValue → ObjectValue
houses from to = record { range = Some (record { from = from; to = to }); text = None }

-- the fields are the start's number and suffix, the end's, and the text
pub record WorkedObjects : Type 0 where
  pub one_house : object_of (codes "12") (codes "A") [] [] [] ≡ Ok (houses (twelve (Some 65)) None)
  pub up_to_a_suffix : object_of (codes "12") [] (codes "12") (codes "A") []
      ≡ Ok (houses (twelve None) (Some (twelve (Some 65))))
  pub nothing : object_of [] [] [] [] [] ≡ Err fault.Empty
  pub no_house : object_of (codes "0") (codes "a") [] [] [] ≡ Err fault.BadNumber
  pub small_letter : object_of (codes "12") (codes "a") [] [] [] ≡ Err fault.BadSuffix
  pub suffix_alone : object_of [] (codes "A") [] [] [] ≡ Err fault.BadSuffix
  pub end_alone : object_of [] [] (codes "14") [] [] ≡ Err fault.EndWithoutStart
  pub up_to_itself : object_of (codes "12") [] (codes "12") [] [] ≡ Err fault.EndNotAfterStart
  pub name_alone : object_of [] [] [] [] (codes "The Mill")
      ≡ Ok (record { range = None; text = Some (codes "The Mill") })
  pub line_break : object_of [] [] [] [] (84 ∷ 10 ∷ 121 ∷ []) ≡ Err fault.BadText
