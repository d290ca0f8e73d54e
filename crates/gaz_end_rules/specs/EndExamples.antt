-- Worked examples of the end rules, computed from the definitions.
use Rattle.std.specs.Prelude.{◌≡◌, ℕ, List, [], ◌∷◌, ◌++◌, fold, Option, Some, None, codes}
use Rattle.gaz_ids.specs.declared.lang.Lang.TheVariants.{Cym, Eng}
use Rattle.gaz_ids.specs.declared.status.Status.{Status}
use Rattle.gaz_ids.specs.declared.status.Status.TheVariants.{Approved, Alternative, Historical}
use Rattle.gaz_ids.specs.declared.status.Status.TheVariants.{Provisional}
use Rattle.gaz_records.specs.declared.item.Item.{Item}
use Rattle.gaz_records.specs.declared.item.Item.TheVariants as item
use Rattle.gaz_records.specs.declared.key.Key.{Key}
use Rattle.gaz_records.specs.declared.key.Key.TheVariants as key
use Rattle.gaz_views.specs.Examples.{blpu, council_tax, lpi, name, spring, street}
use Rattle.gaz_views.specs.View.{View, empty_view, with_item}
use Rattle.gaz_changefile.specs.Rules.{first_broken}
use Rattle.gaz_end_rules.specs.EndRules.{end_rules}
use Rattle.gaz_end_rules.specs.Knowing.{HavePassed}
use Rattle.gaz_end_rules.specs.declared.passed.Passed.{Passed}

-- the view after these items came
abbrev pub view_of : List Item → View
view_of items = fold with_item empty_view items

-- the least end rule that a key breaks in the view of these items, with these basis views
abbrev pub rests : List Item → List (ℕ × View) → Key → Option ℕ
rests items others k = first_broken (end_rules (view_of items) others k)

abbrev pub breaks : List Item → Key → Option ℕ
breaks items k = rests items [] k

-- ---- what stands in them

-- an English address of property 1001 on street 101
abbrev pub address : List ℕ → Status → Item
address text status = lpi text 1001 Eng status 101

abbrev pub l1 : Key
l1 = key.Lpi (codes "L1")

abbrev pub l2 : Key
l2 = key.Lpi (codes "L2")

abbrev pub x1 : Key
x1 = key.Xref (codes "X1")

abbrev pub closed_street : ℕ → Item
closed_street usrn =
    item.Street (record { usrn = usrn; street_type = 1; start = spring; end = Some spring })

abbrev pub past : ℕ → Item
past uprn = item.Blpu (record {
  uprn = uprn;
  status = Historical;
  easting = 0;
  northing = 0;
  parent = None;
  postcode = None;
  start = spring;
  end = Some spring;
})

-- property 1001, with an approved address on street 101, which has an English name
abbrev pub home : List Item
home = street 101 ∷ name 101 Eng ∷ blpu 1001 None ∷ address (codes "L1") Approved ∷ []

-- ---- each rule, where it is broken and where it just isn't

-- 30, of the two addresses of a property
pub record WorkedSecond : Type 0 where
  pub alone : breaks home l1 ≡ None
  pub of_the_first : breaks (home ++ address (codes "L2") Approved ∷ []) l1 ≡ Some 30
  pub of_the_second : breaks (home ++ address (codes "L2") Approved ∷ []) l2 ≡ Some 30
  pub beside_another_name : breaks (home ++ address (codes "L2") Alternative ∷ []) l1 ≡ None
  pub as_another_name : breaks (home ++ address (codes "L2") Alternative ∷ []) l2 ≡ None
  pub of_another_property : breaks
      (home ++ blpu 1002 None ∷ lpi (codes "L2") 1002 Eng Approved 101 ∷ []) l2 ≡ None

-- 31 and 35, of what names a property
pub record WorkedLacking : Type 0 where
  pub reference : breaks (council_tax (codes "X1") 1001 ∷ []) x1 ≡ Some 31
  pub reference_to_it : breaks (blpu 1001 None ∷ council_tax (codes "X1") 1001 ∷ []) x1 ≡ None
  pub address_of_none : breaks (address (codes "L1") Provisional ∷ []) l1 ≡ Some 31
  pub gone : breaks [] l1 ≡ None
  pub part : breaks (blpu 1002 (Some 1001) ∷ []) (key.Blpu 1002) ≡ Some 35
  pub part_of_it : breaks (blpu 1001 None ∷ blpu 1002 (Some 1001) ∷ []) (key.Blpu 1002) ≡ None

-- 31 and 35, of a property that isn't there and is named
pub record WorkedLeaving : Type 0 where
  pub nothing : breaks [] (key.Blpu 1001) ≡ None
  pub under_a_reference : breaks (council_tax (codes "X1") 1001 ∷ []) (key.Blpu 1001) ≡ Some 31
  pub under_a_past_address : breaks (address (codes "L1") Historical ∷ []) (key.Blpu 1001)
      ≡ Some 31
  pub under_a_part : breaks (blpu 1002 (Some 1001) ∷ []) (key.Blpu 1001) ≡ Some 35
  pub under_both : breaks (blpu 1002 (Some 1001) ∷ council_tax (codes "X1") 1001 ∷ [])
      (key.Blpu 1001) ≡ Some 31
  pub under_none : breaks (blpu 1003 (Some 1002) ∷ council_tax (codes "X1") 1002 ∷ [])
      (key.Blpu 1001) ≡ None
  pub there : breaks (blpu 1001 None ∷ blpu 1002 (Some 1001) ∷ council_tax (codes "X1") 1001 ∷ [])
      (key.Blpu 1001) ≡ None

-- 1001 and 1002 are parts of one another, 1003 is a part of 1001
abbrev pub ring : List Item
ring = blpu 1001 (Some 1002) ∷ blpu 1002 (Some 1001) ∷ blpu 1003 (Some 1001) ∷ []

-- 36
pub record WorkedRings : Type 0 where
  pub on_it : breaks ring (key.Blpu 1001) ≡ Some 36
  pub on_it_too : breaks ring (key.Blpu 1002) ≡ Some 36
  pub leads_to_it : breaks ring (key.Blpu 1003) ≡ None
  pub of_one : breaks (blpu 1001 (Some 1001) ∷ []) (key.Blpu 1001) ≡ Some 36
  pub chain : breaks (blpu 1001 None ∷ blpu 1002 (Some 1001) ∷ blpu 1003 (Some 1002) ∷ [])
      (key.Blpu 1003) ≡ None

-- 32, 33 and 39, of an address on a street of the view
pub record WorkedStreets : Type 0 where
  pub nowhere : breaks (blpu 1001 None ∷ address (codes "L1") Approved ∷ []) l1 ≡ Some 32
  pub nowhere_yet : breaks (blpu 1001 None ∷ address (codes "L1") Provisional ∷ []) l1 ≡ None
  pub closed : breaks (home ++ closed_street 101 ∷ []) l1 ≡ Some 33
  pub closed_over_another_name : breaks
      (home ++ closed_street 101 ∷ address (codes "L1") Alternative ∷ []) l1 ≡ None
  pub street_under_it : breaks (home ++ closed_street 101 ∷ []) (key.Street 101) ≡ Some 39
  pub open_street : breaks home (key.Street 101) ≡ None
  pub street_under_another_name : breaks
      (home ++ closed_street 101 ∷ address (codes "L1") Alternative ∷ []) (key.Street 101) ≡ None

-- 34 and 38, of an address and of a descriptor
pub record WorkedNames : Type 0 where
  pub unnamed : breaks (street 101 ∷ blpu 1001 None ∷ address (codes "L1") Approved ∷ []) l1
      ≡ Some 34
  pub in_welsh_alone : breaks
      (street 101 ∷ name 101 Cym ∷ blpu 1001 None ∷ address (codes "L1") Approved ∷ []) l1 ≡ Some 34
  pub taken : breaks
      (street 101 ∷ name 101 Cym ∷ blpu 1001 None ∷ address (codes "L1") Approved ∷ [])
      (key.Descriptor 101 Eng) ≡ Some 34
  pub welsh_taken : breaks home (key.Descriptor 101 Cym) ≡ None
  pub taken_under_another_name : breaks
      (street 101 ∷ blpu 1001 None ∷ address (codes "L1") Alternative ∷ []) (key.Descriptor 101 Eng)
      ≡ None
  pub taken_of_no_street : breaks (blpu 1001 None ∷ address (codes "L1") Approved ∷ [])
      (key.Descriptor 101 Eng) ≡ None
  pub of_no_street : breaks (name 101 Eng ∷ []) (key.Descriptor 101 Eng) ≡ Some 38
  pub of_its_street : breaks home (key.Descriptor 101 Eng) ≡ None

-- 37, of an address and of its property
pub record WorkedPast : Type 0 where
  pub address_of_past : breaks (home ++ past 1001 ∷ []) l1 ≡ Some 37
  pub past_with_address : breaks (home ++ past 1001 ∷ []) (key.Blpu 1001) ≡ Some 37
  pub other_name_of_past : breaks (home ++ past 1001 ∷ address (codes "L1") Alternative ∷ []) l1
      ≡ None
  pub past_with_other_name : breaks (home ++ past 1001 ∷ address (codes "L1") Alternative ∷ [])
      (key.Blpu 1001) ≡ None

-- ---- streets of other custodians

-- property 1001, with an approved address on street 201, which is another custodian's
abbrev pub away : List Item
away = blpu 1001 None ∷ lpi (codes "L1") 1001 Eng Approved 201 ∷ []

-- the view of a custodian with these items
abbrev pub of_custodian : ℕ → List Item → ℕ × View
of_custodian c items = (c, view_of items)

abbrev pub open_there : List Item
open_there = street 201 ∷ name 201 Eng ∷ []

abbrev pub closed_there : List Item
closed_there = closed_street 201 ∷ name 201 Eng ∷ []

-- 32, 33 and 34, by basis views
pub record WorkedBases : Type 0 where
  pub no_basis : rests away [] l1 ≡ Some 32
  pub not_there : rests away (of_custodian 1002 (street 202 ∷ []) ∷ []) l1 ≡ Some 32
  pub open_at_it : rests away (of_custodian 1002 open_there ∷ []) l1 ≡ None
  pub closed_at_it : rests away (of_custodian 1002 closed_there ∷ []) l1 ≡ Some 33
  pub unnamed_there : rests away (of_custodian 1002 (street 201 ∷ name 201 Cym ∷ []) ∷ []) l1
      ≡ Some 34
  pub named_elsewhere : rests (away ++ name 201 Eng ∷ [])
      (of_custodian 1002 (street 201 ∷ []) ∷ []) l1 ≡ Some 34
  pub own_view_first : rests (away ++ street 201 ∷ []) (of_custodian 1002 open_there ∷ []) l1
      ≡ Some 34
  pub first_basis_first : rests away
      (of_custodian 1002 closed_there ∷ of_custodian 1003 open_there ∷ []) l1 ≡ Some 33
  pub other_way_round : rests away
      (of_custodian 1003 open_there ∷ of_custodian 1002 closed_there ∷ []) l1 ≡ None

-- ---- keys that passed

abbrev pub passed_of : List Key → Passed
passed_of keys = record { keys = record { keys = keys } }

abbrev pub two_approved : List Item
two_approved = home ++ address (codes "L2") Approved ∷ []

pub record WorkedPassed : Type 0 where
  pub none_yet : HavePassed (view_of two_approved) [] (passed_of [])
  pub address : HavePassed (view_of home) [] (passed_of (l1 ∷ []))
  pub broken : ¬ HavePassed (view_of two_approved) [] (passed_of (l1 ∷ []))

pub record WorkedEndRules : Type 0 where
  pub on_second : WorkedSecond
  pub on_lacking : WorkedLacking
  pub on_leaving : WorkedLeaving
  pub on_rings : WorkedRings
  pub on_streets : WorkedStreets
  pub on_names : WorkedNames
  pub on_past : WorkedPast
  pub on_bases : WorkedBases
  pub on_passed : WorkedPassed
