-- Worked examples, computed from the definitions.
use Rattle.std.specs.Prelude.{◌≡◌, ℕ, ◌==◌, List, [], ◌∷◌, ◌++◌, fold, Option, Some, None}
use Rattle.std.specs.Prelude.{if◌then◌else◌, codes, true, false}
use Rattle.gaz_ids.specs.declared.lang.Lang.TheVariants.{Eng}
use Rattle.gaz_ids.specs.declared.status.Status.{Status}
use Rattle.gaz_ids.specs.declared.status.Status.TheVariants.{Approved, Historical, Provisional}
use Rattle.gaz_addressable.specs.HouseNumbers.{HouseNumberValue}
use Rattle.gaz_addressable.specs.Objects.{ObjectValue}
use Rattle.gaz_fields.specs.Days.{CivilDay}
use Rattle.gaz_records.specs.Blpus.{BlpuValue}
use Rattle.gaz_records.specs.Descriptors.{DescriptorValue}
use Rattle.gaz_records.specs.Lpis.{LpiValue}
use Rattle.gaz_records.specs.declared.item.Item.{Item}
use Rattle.gaz_records.specs.declared.item.Item.TheVariants as item
use Rattle.gaz_register.specs.Registers.{RegisterValue}
use Rattle.gaz_keeper.specs.Board.{Board}
use Rattle.gaz_views.specs.View.{View, empty_view, with_item}
use Rattle.gaz_views.specs.declared.verdict.Verdict.TheVariants.{Applied}
use Rattle.gaz_extract.specs.Closing.{closed_streets, is_closed_elsewhere}
use Rattle.gaz_extract.specs.Extracts.{extract}
use Rattle.gaz_extract.specs.Lines.{line_text}
use Rattle.gaz_extract.specs.Lookups.{lookup}
use Rattle.gaz_extract.specs.Remembering.{AreRight}

abbrev pub spring : CivilDay
spring = record { year = 2001; month = 4; day = 1 }

-- a house number and its suffix
abbrev pub number : ℕ → Option ℕ → HouseNumberValue
number n suffix = record { n = n; suffix = suffix }

abbrev pub from_to : HouseNumberValue → Option HouseNumberValue → ObjectValue
from_to from to = record { range = Some (record { from = from; to = to }); text = None }

abbrev pub named : List ℕ → ObjectValue
named text = record { range = None; text = Some text }

-- an English address of a property on a street
abbrev pub address : List ℕ → ℕ → Status → ℕ → Option ObjectValue → ObjectValue → LpiValue
address text uprn status usrn secondary primary =
    record {
      key = text;
      uprn = uprn;
      lang = Eng;
      status = status;
      usrn = usrn;
      secondary = secondary;
      primary = primary;
      start = spring;
      end = None;
    }

-- what a street is called in English, with no locality
abbrev pub street_name : ℕ → List ℕ → Option (List ℕ) → List ℕ → DescriptorValue
street_name usrn description town area = record {
  usrn = usrn;
  lang = Eng;
  description = description;
  locality = None;
  town = town;
  area = area;
}

abbrev pub property : ℕ → Option (List ℕ) → BlpuValue
property uprn postcode = record {
  uprn = uprn;
  status = Approved;
  easting = 0;
  northing = 0;
  parent = None;
  postcode = postcode;
  start = spring;
  end = None;
}

abbrev pub flat_2 : LpiValue
flat_2 =
    address (codes "L1") 42 Approved 101 (Some (named (codes "Flat 2")))
    (from_to (number 12 (Some 65)) (Some (number 14 None)))

abbrev pub high_street : DescriptorValue
high_street = street_name 101 (codes "High Street") (Some (codes "Arden")) (codes "Arden")

abbrev pub county_road : DescriptorValue
county_road = street_name 150 (codes "County Road") (Some (codes "Arden")) (codes "Arden")

abbrev pub house_7 : LpiValue
house_7 = address (codes "K1") 100001 Approved 150 None (from_to (number 7 None) None)

-- an address by its parts
pub record WorkedLines : Type 0 where
  pub a_flat : line_text flat_2 high_street (property 42 (Some (codes "AR1 2DN")))
      ≡ codes "Flat 2, 12A-14 High Street, Arden, AR1 2DN"
  pub a_house :
      line_text (address (codes "L2") 42 Approved 101 None (from_to (number 14 None) None))
      high_street (property 42 (Some (codes "AR1 2DN")))
      ≡ codes "14 High Street, Arden, AR1 2DN"
  pub no_postcode : line_text house_7 county_road (property 100001 None)
      ≡ codes "7 County Road, Arden"
  pub no_numbers :
      line_text (address (codes "Q1") 200000 Provisional 300 None (named (codes "The Old Mill")))
      (street_name 300 (codes "Mill Lane, rear of") (Some (codes "Bay")) (codes "Bay Area"))
      (property 200000 None)
      ≡ codes "The Old Mill, Mill Lane, rear of, Bay, Bay Area"
  -- with no town the area stands
  pub no_town :
      line_text house_7 (street_name 150 (codes "County Road") None (codes "Arden"))
      (property 100001 None)
      ≡ codes "7 County Road, Arden"

-- ---- a county and a district

abbrev pub street : ℕ → Option CivilDay → Item
street usrn end = item.Street (record { usrn = usrn; street_type = 1; start = spring; end = end })

-- a street with a flat on it, whose former address comes first by its key
abbrev pub county_items : List Item
county_items =
    street 101 None
    ∷ item.Descriptor high_street
    ∷ item.Blpu (property 42 (Some (codes "AR1 2DN")))
    ∷ item.Lpi (address (codes "A1") 42 Historical 101 None (named (codes "The Old Mill")))
    ∷ item.Lpi flat_2
    ∷ street 150 None
    ∷ item.Descriptor county_road
    ∷ []

-- the county's other street closes
abbrev pub closing_items : List Item
closing_items = street 150 (Some (record { year = 2024; month = 4; day = 30 })) ∷ []

-- the district's house on the county's other street
abbrev pub district_items : List Item
district_items = item.Lpi house_7 ∷ item.Blpu (property 100001 None) ∷ []

abbrev pub county : View
county = fold with_item empty_view county_items

abbrev pub county_later : View
county_later = fold with_item empty_view (county_items ++ closing_items)

abbrev pub district : View
district = fold with_item empty_view district_items

abbrev pub two_custodians : Board
two_custodians = λ c. if c == 1001
    then record { verdict = Applied; view = county }
    ∷ record { verdict = Applied; view = county_later }
    ∷ []
    else if c == 1002 then record { verdict = Applied; view = district } ∷ [] else []

-- the district's house while the county has no street
abbrev pub district_alone : Board
district_alone = λ c. if c == 1002 then record { verdict = Applied; view = district } ∷ [] else []

-- the county has a property with no address
abbrev pub unaddressed_items : List Item
unaddressed_items = item.Blpu (property 43 None) ∷ []

abbrev pub unaddressed : View
unaddressed = fold with_item empty_view unaddressed_items

abbrev pub county_alone : Board
county_alone = λ c. if c == 1001 then record { verdict = Applied; view = unaddressed } ∷ [] else []

-- the county's streets are 100 to 199, the district's 200 to 299
abbrev pub two_in_register : RegisterValue
two_in_register =
    record {
      code = 1001;
      name = codes "Upper County";
      own = record { uprn = (1, 99999) ∷ []; usrn = (100, 199) ∷ [] };
    }
    ∷ record {
      code = 1002;
      name = codes "Lower District";
      own = record { uprn = (100000, 199999) ∷ []; usrn = (200, 299) ∷ [] };
    }
    ∷ []

-- where properties stand, and how they are addressed
pub record WorkedLookups : Type 0 where
  pub own_street : lookup two_custodians two_in_register 42 ≡ Some (record {
    custodian = 1001;
    uprn = 42;
    status = Approved;
    line = Some (codes "Flat 2, 12A-14 High Street, Arden, AR1 2DN");
  })
  pub street_of_another : lookup two_custodians two_in_register 100001 ≡ Some (record {
    custodian = 1002;
    uprn = 100001;
    status = Approved;
    line = Some (codes "7 County Road, Arden");
  })
  pub nowhere : lookup two_custodians two_in_register 43 ≡ None
  -- without its street's descriptor, or without an address, there is no line
  pub no_descriptor : lookup district_alone two_in_register 100001 ≡ Some (record {
    custodian = 1002;
    uprn = 100001;
    status = Approved;
    line = None;
  })
  pub no_address : lookup county_alone two_in_register 43 ≡ Some (record {
    custodian = 1001;
    uprn = 43;
    status = Approved;
    line = None;
  })

pub record WorkedClosings : Type 0 where
  pub one_address : closed_streets two_custodians two_in_register
      ≡ record { custodian = 1002; lpi = codes "K1"; usrn = 150 } ∷ []
  pub county_road_shut : is_closed_elsewhere two_custodians two_in_register 1002 150 ≡ true
  pub own_street_stays : is_closed_elsewhere two_custodians two_in_register 1001 150 ≡ false
  pub high_street_open : is_closed_elsewhere two_custodians two_in_register 1002 101 ≡ false
  pub nobodys_street : is_closed_elsewhere two_custodians two_in_register 1002 300 ≡ false
  -- what is remembered for the district isn't right of the county
  pub nothing_asked : AreRight two_custodians two_in_register 1002 []
  pub asked_by_the_district : AreRight two_custodians two_in_register 1002 ((150, true) ∷ [])
  pub never_open : AreRight two_custodians two_in_register 1002 ((150, false) ∷ []) → ⊥
  pub never_for_the_county : AreRight two_custodians two_in_register 1001 ((150, true) ∷ []) → ⊥

-- each line with its end
abbrev pub line : List ℕ → List ℕ
line text = text ++ 10 ∷ []

-- the extract of the county after a volume, with the end of its other street
abbrev pub county_text : List ℕ → List ℕ → List ℕ
county_text volume end =
    line (codes "10,E,1001," ++ volume)
    ++ (line (codes "11,I,1,101,1,2001-04-01,")
    ++ (line (codes "11,I,2,150,1,2001-04-01," ++ end)
    ++ (line (codes "15,I,3,101,ENG,High Street,,Arden,Arden")
    ++ (line (codes "15,I,4,150,ENG,County Road,,Arden,Arden")
    ++ (line (codes "21,I,5,42,1,0,0,,AR1 2DN,2001-04-01,")
    ++ (line (codes "24,I,6,A1,42,ENG,8,101,,,,,,,,,,The Old Mill,2001-04-01,")
    ++ (line (codes "24,I,7,L1,42,ENG,1,101,,,,,Flat 2,12,A,14,,,2001-04-01,")
    ++ line (codes "99,7"))))))))

pub record WorkedExtracts : Type 0 where
  pub of_the_district : extract two_custodians 1002 1 ≡ Some
      (line (codes "10,E,1002,1")
      ++ (line (codes "21,I,1,100001,1,0,0,,,2001-04-01,")
      ++ (line (codes "24,I,2,K1,100001,ENG,1,150,,,,,,7,,,,,2001-04-01,")
      ++ line (codes "99,2"))))
  -- after the volume that is asked for, whatever came later
  pub earlier : extract two_custodians 1001 1 ≡ Some (county_text (codes "1") [])
  pub last : extract two_custodians 1001 2 ≡ Some (county_text (codes "2") (codes "2024-04-30"))
  pub before_the_first : extract two_custodians 1001 0
      ≡ Some (line (codes "10,E,1001,0") ++ line (codes "99,0"))
  pub not_reached : extract two_custodians 1002 2 ≡ None
  pub before_any : extract two_custodians 1003 1 ≡ None

pub record WorkedExamples : Type 0 where
  pub on_lines : WorkedLines
  pub on_lookups : WorkedLookups
  pub on_closings : WorkedClosings
  pub on_extracts : WorkedExtracts
