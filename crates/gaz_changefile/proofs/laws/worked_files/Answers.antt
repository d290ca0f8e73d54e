use Rattle.std.proofs.Common.{refl}
use Rattle.std.specs.Str.{chars, is_utf8}
use Rattle.csv.proofs.OnLiterals.{csv_on_literals}
use Rattle.csv.specs.Records.{field_at}
use Rattle.gaz_ids.specs.Numbers.{read_id}
use Rattle.gaz_fields.specs.Days.{date_of}
use Rattle.gaz_fields.specs.Forms.{says}
use Rattle.gaz_records.specs.Adopts.{read_adopt}
use Rattle.gaz_records.specs.Releases.{read_release}
use Rattle.gaz_records.specs.Streets.{read_street}
use Rattle.gaz_changefile.specs.Contents.{contents_of}
use Rattle.gaz_changefile.specs.Reading.{reading}
use Rattle.gaz_changefile.specs.Rules.{basis_rules, change_rules, header_rules, later_rules, rules_at, trailer_rules}
use Rattle.gaz_changefile.proofs.laws.worked_files.Goals as goal

pub returns : goal.returns
unfolding reading is_utf8 chars csv_on_literals field_at read_id date_of says read_adopt read_release read_street contents_of basis_rules change_rules header_rules later_rules rules_at trailer_rules lib.Utf8.encode
returns c = record {
  good = refl;
  other_count = refl;
  no_trailer = refl;
  second_trailer = refl;
  other_volume = refl;
  two_marks = refl;
  not_text = refl;
  empty = refl;
  releases = record {
    good = refl;
    of_profile_1 = refl;
    update = refl;
    deletion = refl;
    own = refl;
    hop_0 = refl;
    hop_10000 = refl;
    hop_00001 = refl;
  };
  adoptions = record {
    good = refl;
    historical = refl;
    own = refl;
    end_before_start = refl;
  };
}
