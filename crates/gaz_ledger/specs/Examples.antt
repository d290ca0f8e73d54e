-- Worked examples, computed from the definitions.
use Rattle.std.specs.Prelude.{◌≡◌, ℕ, true, false, Some, None}
use Rattle.std.specs.FinMap as map
use Rattle.gaz_records.specs.declared.key.Key.TheVariants as key
use Rattle.gaz_views.specs.Examples.{street}
use Rattle.gaz_views.specs.View.{View, empty_view, was_used}
use Rattle.gaz_standing.specs.declared.index.Mark.TheVariants.{AddressOf, PartOf}
use Rattle.gaz_ledger.specs.Lives.{IsLifeWithin, with_life}
use Rattle.gaz_ledger.specs.Properties.{is_address_of, is_blpu}

-- ---- what is known of properties

pub record WorkedProperties : Type 0 where
  pub its_address : is_address_of 1001 (Some (AddressOf 1001)) ≡ true
  pub not_its_part : is_address_of 1001 (Some (PartOf 1001)) ≡ false
  pub of_no_mark : is_address_of 1001 None ≡ false
  pub its_blpu : is_blpu 1001 (key.Blpu 1001) ≡ true
  pub another_blpu : is_blpu 1001 (key.Blpu 1002) ≡ false
  pub a_street : is_blpu 101 (key.Street 101) ≡ false

-- ---- an item's life

-- the view after a volume, where street 101 stood from volume 2 until volume 4
abbrev pub with_a_street : ℕ → View
with_a_street t = with_life 2 (Some 4) (street 101) t empty_view

pub record WorkedLives : Type 0 where
  pub not_born : with_a_street 1 ≡ empty_view
  pub born : map.get (with_a_street 2).items (key.Street 101) ≡ Some (street 101)
  pub lives : map.get (with_a_street 3).items (key.Street 101) ≡ Some (street 101)
  pub gone : map.get (with_a_street 4).items (key.Street 101) ≡ None
  pub used_once_gone : was_used (with_a_street 4) (key.Street 101) ≡ true
  pub never_gone :
      map.get (with_life 2 None (street 101) 9 empty_view).items (key.Street 101)
      ≡ Some (street 101)
  pub comes_and_goes :
      map.get (with_life 2 (Some 2) (street 101) 2 empty_view).items (key.Street 101) ≡ None
  pub within : IsLifeWithin 4 2 (Some 4)
  pub ends_too_late : IsLifeWithin 3 2 (Some 4) → ⊥
  pub ends_too_early : IsLifeWithin 4 2 (Some 1) → ⊥
  pub begins_too_late : IsLifeWithin 1 2 None → ⊥

pub record WorkedExamples : Type 0 where
  pub on_properties : WorkedProperties
  pub on_lives : WorkedLives
