-- Worked examples, computed from the definitions.
use Rattle.std.specs.Prelude.{◌≡◌, ℕ, true, false, ◌==◌, nat_lt, if◌then◌else◌, List, [], ◌∷◌, fold}
use Rattle.std.specs.Prelude.{Option, Some, None, codes}
use Rattle.std.specs.FinMap as map
use Rattle.gaz_ids.specs.declared.lang.Lang.{Lang}
use Rattle.gaz_ids.specs.declared.lang.Lang.TheVariants.{Cym, Eng}
use Rattle.gaz_ids.specs.declared.status.Status.{Status}
use Rattle.gaz_ids.specs.declared.status.Status.TheVariants.{Approved, Alternative}
use Rattle.gaz_fields.specs.Days.{CivilDay}
use Rattle.gaz_records.specs.declared.item.Item.{Item}
use Rattle.gaz_records.specs.declared.item.Item.TheVariants as item
use Rattle.gaz_records.specs.declared.item.Kind.TheVariants as kind
use Rattle.gaz_records.specs.declared.key.Key.TheVariants as key
use Rattle.gaz_views.specs.Judgements.{judgements, views}
use Rattle.gaz_views.specs.View.{View, empty_view, holds, was_used, with_item, without_key}
use Rattle.gaz_views.specs.Words.{address_of, approved_of, approved_on, has_children, page}
use Rattle.gaz_views.specs.Words.{property_of}
use Rattle.gaz_views.specs.declared.verdict.Verdict.TheVariants.{Applied, Rejected}

-- an open street of 2001
abbrev pub street : ℕ → Item
street usrn = item.Street (record {
  usrn = usrn;
  street_type = 1;
  start = record { year = 2001; month = 4; day = 1 };
  end = None;
})

-- street 101 alone
abbrev pub one_street : View
one_street = with_item empty_view (street 101)

-- it was taken
abbrev pub no_more : View
no_more = without_key one_street (key.Street 101)

-- what a view holds, and what it ever held
pub record WorkedViews : Type 0 where
  pub nothing_held : holds empty_view (key.Street 101) ≡ false
  pub nothing_used : was_used empty_view (key.Street 101) ≡ false
  pub is_there : map.get one_street.items (key.Street 101) ≡ Some (street 101)
  pub is_held : holds one_street (key.Street 101) ≡ true
  pub is_used : was_used one_street (key.Street 101) ≡ true
  pub other_not_held : holds one_street (key.Street 102) ≡ false
  pub other_not_used : was_used one_street (key.Street 102) ≡ false
  pub is_taken : holds no_more (key.Street 101) ≡ false
  pub stays_used : was_used no_more (key.Street 101) ≡ true

-- ---- a gazetteer of all kinds

-- the day on which all of them start
abbrev pub spring : CivilDay
spring = record { year = 2001; month = 4; day = 1 }

-- what a street is called in a language
abbrev pub name : ℕ → Lang → Item
name usrn lang = item.Descriptor (record {
  usrn = usrn;
  lang = lang;
  description = codes "High Street";
  locality = None;
  town = None;
  area = codes "Arden";
})

-- a property, and what it is a part of
abbrev pub blpu : ℕ → Option ℕ → Item
blpu uprn parent = item.Blpu (record {
  uprn = uprn;
  status = Approved;
  easting = 0;
  northing = 0;
  parent = parent;
  postcode = None;
  start = spring;
  end = None;
})

-- what council tax calls a property
abbrev pub council_tax : List ℕ → ℕ → Item
council_tax text uprn = item.Xref (record {
  key = text;
  uprn = uprn;
  source = codes "CTAX";
  reference = codes "7";
  start = spring;
  end = None;
})

-- an address of a property on a street
abbrev pub lpi : List ℕ → ℕ → Lang → Status → ℕ → Item
lpi text uprn lang status usrn = item.Lpi (record {
  key = text;
  uprn = uprn;
  lang = lang;
  status = status;
  usrn = usrn;
  secondary = None;
  primary = record { range = None; text = Some (codes "MILL") };
  start = spring;
  end = None;
})

-- put in no order: property 1002 is a part of 1001, whose address L3 is approved, in English, and
-- L1 too, in Welsh; L2 is another name of it
abbrev pub put_in_turn : List Item
put_in_turn =
    lpi (codes "L3") 1001 Eng Approved 101
    ∷ blpu 1002 (Some 1001)
    ∷ street 102
    ∷ lpi (codes "L2") 1001 Cym Alternative 102
    ∷ name 101 Eng
    ∷ blpu 1001 None
    ∷ council_tax (codes "X1") 1001
    ∷ lpi (codes "L4") 1002 Eng Approved 101
    ∷ name 101 Cym
    ∷ street 101
    ∷ lpi (codes "L1") 1001 Cym Approved 101
    ∷ []

-- the view that holds them all
abbrev pub all_kinds : View
all_kinds = fold with_item empty_view put_in_turn

pub record WorkedWords : Type 0 where
  pub its_addresses : approved_of all_kinds 1001 ≡ key.Lpi (codes "L1") ∷ key.Lpi (codes "L3") ∷ []
  pub of_a_part : approved_of all_kinds 1002 ≡ key.Lpi (codes "L4") ∷ []
  pub of_none : approved_of all_kinds 1003 ≡ []
  pub of_nothing : approved_of empty_view 1001 ≡ []
  pub the_address : address_of all_kinds 1001 ≡ Some (lpi (codes "L1") 1001 Cym Approved 101)
  pub no_address : address_of all_kinds 1003 ≡ None
  pub the_property :
      property_of all_kinds 1002 ≡ Some (record {
        blpu = blpu 1002 (Some 1001);
        address = Some (lpi (codes "L4") 1002 Eng Approved 101);
      })
  pub no_property : property_of all_kinds 1003 ≡ None
  pub on_street : approved_on all_kinds 101 None ≡ true
  pub on_street_in_welsh : approved_on all_kinds 101 (Some Cym) ≡ true
  pub another_name_alone : approved_on all_kinds 102 None ≡ false
  pub part_on_street :
      approved_on (with_item empty_view (lpi (codes "L4") 1002 Eng Approved 101)) 101 (Some Eng)
      ≡ true
  pub not_in_welsh :
      approved_on (with_item empty_view (lpi (codes "L4") 1002 Eng Approved 101)) 101 (Some Cym)
      ≡ false
  pub has_a_part : has_children all_kinds 1001 ≡ true
  pub has_no_part : has_children all_kinds 1002 ≡ false

-- pages of one, of two and of all, from the start and after a key
pub record WorkedPages : Type 0 where
  pub first_street : page all_kinds kind.Street None 1 ≡ street 101 ∷ []
  pub second_street : page all_kinds kind.Street (Some (key.Street 101)) 1 ≡ street 102 ∷ []
  pub no_more_streets : page all_kinds kind.Street (Some (key.Street 102)) 1 ≡ []
  pub welsh_first : page all_kinds kind.Descriptor None 5 ≡ name 101 Cym ∷ name 101 Eng ∷ []
  pub after_welsh :
      page all_kinds kind.Descriptor (Some (key.Descriptor 101 Cym)) 5 ≡ name 101 Eng ∷ []
  pub properties : page all_kinds kind.Blpu None 2 ≡ blpu 1001 None ∷ blpu 1002 (Some 1001) ∷ []
  pub cross_references : page all_kinds kind.Xref None 5 ≡ council_tax (codes "X1") 1001 ∷ []
  pub two_addresses :
      page all_kinds kind.Lpi (Some (key.Lpi (codes "L1"))) 2
      ≡ lpi (codes "L2") 1001 Cym Alternative 102 ∷ lpi (codes "L3") 1001 Eng Approved 101 ∷ []
  pub none_asked : page all_kinds kind.Lpi None 0 ≡ []

-- ---- what became of volumes

-- street 101 came with volume 1 and went with volume 3
abbrev pub came_and_went : ℕ → View
came_and_went volume =
    if volume == 0 then empty_view else (if nat_lt volume 3 then one_street else no_more)

pub record WorkedJudgements : Type 0 where
  pub none_judged : judgements [] came_and_went ≡ []
  pub three_judged :
      judgements (Applied ∷ Rejected 2 21 ∷ Applied ∷ []) came_and_went
      ≡ record { verdict = Applied; view = one_street }
      ∷ record { verdict = Rejected 2 21; view = one_street }
      ∷ record { verdict = Applied; view = no_more } ∷ []
  pub their_views :
      views (judgements (Applied ∷ Rejected 2 21 ∷ Applied ∷ []) came_and_went)
      ≡ empty_view ∷ one_street ∷ one_street ∷ no_more ∷ []

pub record WorkedExamples : Type 0 where
  pub on_views : WorkedViews
  pub on_words : WorkedWords
  pub on_pages : WorkedPages
  pub on_judgements : WorkedJudgements
