-- Worked examples of rows as a store writes them, and of others.
use Rattle.std.specs.Prelude.{pos, codes, [], ◌∷◌, ◌++◌, drop, take, Some}
use Rattle.sqlite.specs.Order.{Row}
use Rattle.sqlite.specs.declared.types.Value.TheVariants.{Int, Null, Text}
use Rattle.gaz_records.specs.declared.item.Kind.TheVariants as kind
use Rattle.gaz_views.specs.Examples.{blpu, street}
use Rattle.gaz_tables.specs.Custody.{listed_shown}
use Rattle.gaz_tables.specs.Receiveds.{file_shown, judged, verdict_shown, volume_shown}
use Rattle.gaz_tables.specs.Versions.{id_shown, lang_shown}
use Rattle.gaz_row_items.specs.Examples.{changed, changed_101, of_1002}
use Rattle.gaz_row_items.specs.PassageExamples.{taken_row, without_hop}
use Rattle.gaz_row_items.specs.RowExamples.{address_row}
use Rattle.gaz_row_items.specs.Versions.{values_of}
use Rattle.gaz_kept.specs.Examples.{handed_on, held_6, rejected_3}
use Rattle.gaz_answers.specs.Answers.{ShowsBytes, ShowsVerdict}
use Rattle.gaz_answers.specs.Lives.{HasCode, HasLinks, HasNumber, IsSmall, ShowsLife, ShowsVersion}
use Rattle.gaz_answers.specs.Passages.{ShowsPassed}
use Rattle.gaz_answers.specs.Streets.{HasId, HasLastId, ShowsOnStreet, ShowsPart}
use Rattle.gaz_answers.specs.Volumes.{ShowsVolume}

-- ---- received files

-- volume 6 of 1001, in a state that there isn't, and rejected by a rule of number 256
abbrev pub in_state_7 : Row
in_state_7 = judged 7 (pos 0) 0 held_6

abbrev pub by_rule_256 : Row
by_rule_256 = judged 2 (pos 5) 256 held_6

pub record WorkedFiles : Type 0 where
  pub rejected : ShowsVerdict (verdict_shown rejected_3)
  pub waits : ShowsVerdict (verdict_shown held_6)
  pub no_state : ¬ ShowsVerdict (verdict_shown in_state_7)
  pub no_rule : ¬ ShowsVerdict (verdict_shown by_rule_256)
  pub bytes : ShowsBytes (file_shown held_6)
  pub text : ¬ ShowsBytes (Text (codes "sixth") ∷ [])
  pub volume : ShowsVolume (volume_shown held_6)
  pub no_volume : ¬ ShowsVolume (Int (pos 0) ∷ [])
  pub beyond : ¬ ShowsVolume (Int (pos 1000000) ∷ [])

-- ---- addresses and parts

-- property 1002, a part of 1001
abbrev pub part_row : Row
part_row = Int (pos 9) ∷ values_of 1001 3 1000000 (blpu 1002 (Some 1001))

-- the address L3, with its language as a text
abbrev pub in_words : Row
in_words = Text (codes "L3") ∷ Text (codes "ENG") ∷ []

pub record WorkedNamed : Type 0 where
  pub on_street : ShowsOnStreet (lang_shown address_row)
  pub not_in_words : ¬ ShowsOnStreet in_words
  pub part : ShowsPart kind.Blpu (id_shown part_row)
  pub no_part : ¬ ShowsPart kind.Blpu (id_shown address_row)
  pub last : HasLastId (id_shown part_row ∷ [])
  pub no_last : ¬ HasLastId []
  pub no_text : ¬ HasId (Int (pos 1002) ∷ [])

-- ---- rows of `version2`

-- street 101 of custodian 10000, whose code is above the last, and of custodian 0; and the address
-- L3 in a language of number 256
abbrev pub of_nobody : Row
of_nobody = Int (pos 4) ∷ values_of 10000 1 1000000 (street 101)

abbrev pub of_0 : Row
of_0 = Int (pos 4) ∷ values_of 0 1 1000000 (street 101)

abbrev pub in_lang_256 : Row
in_lang_256 = take 6 address_row ++ Int (pos 256) ∷ drop 7 address_row

-- the changed street without a rowid
abbrev pub without_rowid : Row
without_rowid = Null ∷ values_of 1001 2 4 changed

pub record WorkedVersions : Type 0 where
  pub item : ShowsVersion changed_101
  pub passage : ShowsVersion taken_row
  pub with_a_hop : ¬ ShowsVersion handed_on
  pub no_custodian : ¬ ShowsVersion of_nobody
  pub nowhere : ¬ ShowsVersion without_rowid
  pub life : ShowsLife changed_101
  pub no_life : ¬ ShowsLife taken_row
  pub passed : ShowsPassed (listed_shown taken_row)
  pub damaged : ¬ ShowsPassed (listed_shown without_hop)
  pub number : HasNumber changed_101 0
  pub no_number : ¬ HasNumber without_rowid 0
  pub code : HasCode of_1002
  pub no_code : ¬ HasCode of_nobody
  pub code_0 : ¬ HasCode of_0
  pub small : IsSmall (Int (pos 255))
  pub great : ¬ IsSmall (Int (pos 256))
  pub links : HasLinks address_row
  pub great_lang : ¬ HasLinks in_lang_256

pub record WorkedRows : Type 0 where
  pub on_files : WorkedFiles
  pub on_named : WorkedNamed
  pub on_versions : WorkedVersions
