-- Worked files of profile 2, whose readings were told beforehand.
use Rattle.std.specs.Prelude.{◌≡◌, ℕ, List, [], ◌∷◌, ◌++◌, None, codes}
use Rattle.gaz_ids.specs.declared.status.Status.{Status}
use Rattle.gaz_ids.specs.declared.status.Status.TheVariants.{Approved, Historical}
use Rattle.gaz_records.specs.declared.item.Item.TheVariants as item
use Rattle.gaz_changefile.specs.Contents.{Contents}
use Rattle.gaz_changefile.specs.Reading.{Bad, Good, reading}
use Rattle.gaz_changefile.specs.Writing.{file_text, profile_for}
use Rattle.gaz_changefile.specs.declared.action.Action.TheVariants.{Insert}

-- a text and the line feed that ends its line
abbrev pub line : List ℕ → List ℕ
line text = text ++ (10 ∷ [])

-- custodian 1001 releases property 500 to custodian 1002, as the first time that it passes on
abbrev released : Contents
released = record {
  date = record { year = 2025; month = 1; day = 2 };
  bases = [];
  changes = record {
    place = 2;
    action = Insert;
    item = item.Release (record { uprn = 500; to = 1002; hop = 1 });
  } ∷ [];
}

-- a file of custodian 1001 with one change record, behind the start of a header
abbrev releasing_under : List ℕ → List ℕ → List ℕ
releasing_under profile record_2 =
    line (profile ++ codes ",1001,1,2025-01-02") ++ (line record_2 ++ line (codes "99,1"))

abbrev releasing : List ℕ → List ℕ
releasing record_2 = releasing_under (codes "10,2") record_2

-- custodian 1002 adopts it, on the basis of that file
abbrev adopted : Status → Contents
adopted status = record {
  date = record { year = 2025; month = 1; day = 3 };
  bases = record { custodian = 1001; volume = 1 } ∷ [];
  changes = record {
    place = 3;
    action = Insert;
    item = item.Adopt (record {
      blpu = record {
        uprn = 500;
        status = status;
        easting = 450000;
        northing = 250000;
        parent = None;
        postcode = None;
        start = record { year = 2020; month = 1; day = 1 };
        end = None;
      };
      from = 1001;
      hop = 1;
    });
  } ∷ [];
}

-- a file of custodian 1002 with one change record
abbrev adopting : List ℕ → List ℕ
adopting record_3 =
    line (codes "10,2,1002,1,2025-01-03")
    ++ (line (codes "90,1001,1") ++ (line record_3 ++ line (codes "99,1")))

-- a release, and what is wrong with some others
pub record WorkedReleases : Type 0 where
  pub good : reading (releasing (codes "91,I,1,500,1002,1")) 1001 1 ≡ Good released
  pub of_profile_1 :
      reading (releasing_under (codes "10,1") (codes "91,I,1,500,1002,1")) 1001 1 ≡ Bad 2 5
  pub update : reading (releasing (codes "91,U,1,500,1002,1")) 1001 1 ≡ Bad 2 6
  pub deletion : reading (releasing (codes "91,D,1,500,1002,1")) 1001 1 ≡ Bad 2 6
  pub own : reading (releasing (codes "91,I,1,500,1001,1")) 1001 1 ≡ Bad 2 6
  pub hop_0 : reading (releasing (codes "91,I,1,500,1002,0")) 1001 1 ≡ Bad 2 6
  pub hop_10000 : reading (releasing (codes "91,I,1,500,1002,10000")) 1001 1 ≡ Bad 2 6
  pub hop_00001 : reading (releasing (codes "91,I,1,500,1002,00001")) 1001 1 ≡ Bad 2 6

-- adoptions, and what is wrong with some others
pub record WorkedAdoptions : Type 0 where
  pub good :
      reading (adopting (codes "92,I,1,500,1001,1,1,450000,250000,,,2020-01-01,")) 1002 1
      ≡ Good (adopted Approved)
  pub historical :
      reading (adopting (codes "92,I,1,500,1001,1,8,450000,250000,,,2020-01-01,")) 1002 1
      ≡ Good (adopted Historical)
  pub own :
      reading (adopting (codes "92,I,1,500,1002,1,1,450000,250000,,,2020-01-01,")) 1002 1 ≡ Bad 3 6
  pub end_before_start :
      reading (adopting (codes "92,I,1,500,1001,1,1,450000,250000,,,2020-01-01,2019-12-31")) 1002 1
      ≡ Bad 3 6

-- what is written of a release and of an adoption, and the profile for it
pub record WorkedPassages : Type 0 where
  pub release : file_text 1001 1 released ≡ releasing (codes "91,I,1,500,1002,1")
  pub adoption : file_text 1002 1 (adopted Approved)
      ≡ adopting (codes "92,I,1,500,1001,1,1,450000,250000,,,2020-01-01,")
  pub profile : profile_for released.changes ≡ 2
