-- Worked files, whose readings and profiles were told beforehand.
use Rattle.std.specs.Prelude.{◌≡◌, ℕ, List, [], ◌∷◌, ◌++◌, Option, None, Some, codes, decimal}
use Rattle.std.specs.Prelude.{false, flat_map}
use Rattle.std.specs.List.{range_with_len}
use Rattle.gaz_ids.specs.declared.lang.Lang.TheVariants.{Eng}
use Rattle.gaz_ids.specs.declared.status.Status.TheVariants.{Approved}
use Rattle.gaz_rows.specs.Rows.{Fields}
use Rattle.gaz_records.specs.declared.item.Item.TheVariants as item
use Rattle.gaz_changefile.specs.Contents.{Contents}
use Rattle.gaz_changefile.specs.Profile.{profile_of}
use Rattle.gaz_changefile.specs.Reading.{Bad, Good, reading}
use Rattle.gaz_changefile.specs.Rules.{first_broken, later_rules}
use Rattle.gaz_changefile.specs.WorkedPassings.{WorkedAdoptions, WorkedPassages, WorkedReleases}
use Rattle.gaz_changefile.specs.WorkedPassings.{line}
use Rattle.gaz_changefile.specs.Writing.{file_text, profile_for}
use Rattle.gaz_changefile.specs.declared.action.Action.TheVariants.{Insert}

abbrev header : List ℕ
header = line (codes "10,1,1001,1,2024-01-02")

abbrev insertion : List ℕ
insertion = line (codes "11,I,1,101,1,2001-04-01,")

-- street 101 is inserted by record 2
abbrev street_101 : Contents
street_101 = record {
  date = record { year = 2024; month = 1; day = 2 };
  bases = [];
  changes = record {
    place = 2;
    action = Insert;
    item = item.Street (record {
      usrn = 101;
      street_type = 1;
      start = record { year = 2001; month = 4; day = 1 };
      end = None;
    });
  } ∷ [];
}

-- a house of custodian 1002 on a street of custodian 1001
abbrev house_header : List ℕ
house_header = line (codes "10,1,1002,1,2024-01-10")

abbrev house_changes : List ℕ
house_changes =
    line (codes "21,I,1,100001,1,455000,255000,,,2020-01-01,")
    ++ line (codes "24,I,2,K1,100001,ENG,1,150,,,,,,7,,,,,2020-01-01,")

-- the basis is record 2, the house record 3, its LPI record 4
abbrev house_7 : Contents
house_7 = record {
  date = record { year = 2024; month = 1; day = 10 };
  bases = record { custodian = 1001; volume = 1 } ∷ [];
  changes = record {
    place = 3;
    action = Insert;
    item = item.Blpu (record {
      uprn = 100001;
      status = Approved;
      easting = 455000;
      northing = 255000;
      parent = None;
      postcode = None;
      start = record { year = 2020; month = 1; day = 1 };
      end = None;
    });
  } ∷ record {
    place = 4;
    action = Insert;
    item = item.Lpi (record {
      key = codes "K1";
      uprn = 100001;
      lang = Eng;
      status = Approved;
      usrn = 150;
      secondary = None;
      primary = record {
        range = Some (record { from = record { n = 7; suffix = None }; to = None });
        text = None;
      };
      start = record { year = 2020; month = 1; day = 1 };
      end = None;
    });
  } ∷ [];
}

-- a file of custodian 1002, volume 1, with these lines between header and trailer, and no change
abbrev resting : List ℕ → List ℕ
resting lines = house_header ++ (lines ++ line (codes "99,0"))

-- basis lines: a good file, and which of them are none
pub record WorkedBases : Type 0 where
  pub good :
      reading (house_header ++ (line (codes "90,1001,1") ++ (house_changes ++ line (codes "99,2"))))
      1002 1 ≡ Good house_7
  pub own : reading (resting (line (codes "90,1002,1"))) 1002 1 ≡ Bad 2 4
  pub no_volume : reading (resting (line (codes "90,1001,0"))) 1002 1 ≡ Bad 2 4
  pub two_fields : reading (resting (line (codes "90,1001"))) 1002 1 ≡ Bad 2 4
  pub twice :
      reading (resting (line (codes "90,1001,1") ++ line (codes "90,1001,2"))) 1002 1 ≡ Bad 3 4
  pub falling :
      reading (resting (line (codes "90,1003,1") ++ line (codes "90,1001,1"))) 1002 1 ≡ Bad 3 4
  pub after_change :
      reading (house_header ++ (house_changes ++ line (codes "90,1001,1"))) 1002 1 ≡ Bad 4 4
  pub after_trailer : reading (resting [] ++ line (codes "90,1001,1")) 1002 1 ≡ Bad 3 8
  pub second_header : reading (resting house_header) 1002 1 ≡ Bad 2 5

-- files of custodian 1001, volume 1: a good one, and what is wrong with some others; and files of
-- profile 2
pub record WorkedFiles : Type 0 where
  pub good : reading (header ++ (insertion ++ line (codes "99,1"))) 1001 1 ≡ Good street_101
  pub other_count : reading (header ++ (insertion ++ line (codes "99,0"))) 1001 1 ≡ Bad 3 8
  pub no_trailer : reading (header ++ insertion) 1001 1 ≡ Bad 3 8
  pub second_trailer :
      reading (header ++ (insertion ++ (line (codes "99,1") ++ line (codes "99,1"))))
      1001 1 ≡ Bad 4 8
  pub other_volume : reading (header ++ line (codes "99,0")) 1001 2 ≡ Bad 1 3
  pub two_marks :
      reading (0xEF ∷ 0xBB ∷ 0xBF ∷ 0xEF ∷ 0xBB ∷ 0xBF ∷ (header ++ line (codes "99,0")))
      1001 1 ≡ Bad 1 2
  pub not_text : reading (0xFF ∷ []) 1001 1 ≡ Bad 1 1
  pub empty : reading [] 1001 1 ≡ Bad 1 1
  pub releases : WorkedReleases
  pub adoptions : WorkedAdoptions

-- a file of custodian 1001, volume 1, with this change record alone
abbrev changing : List ℕ → List ℕ
changing record_2 = header ++ (line record_2 ++ line (codes "99,1"))

-- what is wrong with some change records: the count of the fields is looked at before their forms,
-- and the forms before the order
pub record WorkedChanges : Type 0 where
  pub leading_zeros :
      reading (changing (codes "11,I,0001,101,1,2001-04-01,")) 1001 1 ≡ Good street_101
  pub five_digits : reading (changing (codes "11,I,00001,101,1,2001-04-01,")) 1001 1 ≡ Bad 2 7
  pub other_order : reading (changing (codes "11,I,2,101,1,2001-04-01,")) 1001 1 ≡ Bad 2 7
  pub no_month : reading (changing (codes "11,I,2,101,1,2001-13-01,")) 1001 1 ≡ Bad 2 6
  pub no_change : reading (changing (codes "11,X,2,101,1,2001-04-01,")) 1001 1 ≡ Bad 2 6
  pub two_too_few : reading (changing (codes "11,X,2,101,1")) 1001 1 ≡ Bad 2 5
  pub one_too_many : reading (changing (codes "11,I,1,101,1,2001-04-01,,")) 1001 1 ≡ Bad 2 5
  -- a deletion is read whole
  pub deletion : reading (changing (codes "11,D,1,101,1,2001-02-29,")) 1001 1 ≡ Bad 2 6
  pub no_kind : reading (changing (codes "12,I,1,101,1,2001-04-01,")) 1001 1 ≡ Bad 2 5

-- the first rule that a record of a file of custodian 1001 breaks, behind so many basis lines and
-- change records
abbrev broken_behind : ℕ → ℕ → Fields → Option ℕ
broken_behind bases changes row =
    first_broken (later_rules 1001
    (record { profile = 1; bases = bases; changes = changes; last = None; ended = false })
    (Some row))

-- a street with this order
abbrev street : List ℕ → Fields
street order =
    codes "11" ∷ codes "I" ∷ order ∷ codes "101" ∷ codes "1" ∷ codes "2001-04-01" ∷ [] ∷ []

-- so many basis lines, of the custodians 1, 2, 3 and so on
abbrev basis_lines : ℕ → List ℕ
basis_lines n =
    flat_map (λ c. line (codes "90," ++ (decimal c ++ codes ",1"))) (range_with_len 1 n)

-- the most change records and basis lines of a file, and one more
pub record WorkedLimits : Type 0 where
  pub last_change : broken_behind 0 4999 (street (codes "5000")) ≡ None
  pub one_more : broken_behind 0 5000 (street (codes "5001")) ≡ Some 9
  -- nothing else of that is looked at
  pub one_more_cut : broken_behind 0 5000 (codes "11" ∷ []) ≡ Some 9
  pub other_kind : broken_behind 0 5000 (codes "91" ∷ []) ≡ Some 5
  pub trailer : broken_behind 0 5000 (codes "99" ∷ codes "5000" ∷ []) ≡ None
  pub other_count : broken_behind 0 5000 (codes "99" ∷ codes "4999" ∷ []) ≡ Some 8
  pub last_basis : broken_behind 15 0 (codes "90" ∷ codes "1002" ∷ codes "1" ∷ []) ≡ None
  pub one_more_basis : broken_behind 16 0 (codes "90" ∷ codes "1002" ∷ codes "1" ∷ []) ≡ Some 4
  pub seventeen : reading (resting (basis_lines 17)) 1002 1 ≡ Bad 18 4

-- what is written of some files, and the profile for it
pub record WorkedWriting : Type 0 where
  pub street : file_text 1001 1 street_101 ≡ header ++ (insertion ++ line (codes "99,1"))
  pub house : file_text 1002 1 house_7
      ≡ house_header ++ (line (codes "90,1001,1") ++ (house_changes ++ line (codes "99,2")))
  pub entries : profile_for street_101.changes ≡ 1
  pub passages : WorkedPassages

-- the profile that a first record names, whatever else is in it
pub record WorkedProfiles : Type 0 where
  pub other_fields : profile_of (codes "10,7,x") ≡ Some 7
  pub leading_zeros : profile_of (codes "10,0009") ≡ Some 9
  pub not_text : profile_of (codes "10,7," ++ (0xFF ∷ [])) ≡ Some 7
  pub quote_left_open : profile_of (codes "10," ++ (34 ∷ codes "7")) ≡ Some 7
  pub not_digits : profile_of (codes "10,x,1001,2,2024-01-02") ≡ None
  pub nought : profile_of (codes "10,0") ≡ None
  pub too_great : profile_of (codes "10,10000") ≡ None
  pub one_field : profile_of (codes "10") ≡ None
  pub other_identifier : profile_of (codes "010,7") ≡ None
  pub in_second_record : profile_of (line (codes "99,0") ++ codes "10,7") ≡ None
  pub no_record : profile_of [] ≡ None
