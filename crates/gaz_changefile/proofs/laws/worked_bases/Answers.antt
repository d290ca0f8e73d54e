use Rattle.std.proofs.Common.{refl}
use Rattle.std.specs.Str.{chars, is_utf8}
use Rattle.csv.proofs.OnLiterals.{csv_on_literals}
use Rattle.csv.specs.Records.{field_at}
use Rattle.gaz_ids.specs.Numbers.{read_id}
use Rattle.gaz_fields.specs.Days.{date_of}
use Rattle.gaz_fields.specs.Forms.{says}
use Rattle.gaz_addressable.specs.Objects.{object_of}
use Rattle.gaz_addressable.specs.Texts.{char_count, is_plain}
use Rattle.gaz_records.specs.Blpus.{read_blpu}
use Rattle.gaz_records.specs.Lpis.{read_lpi}
use Rattle.gaz_changefile.specs.Contents.{contents_of}
use Rattle.gaz_changefile.specs.Reading.{reading}
use Rattle.gaz_changefile.specs.Rules.{basis_rules, change_rules, header_rules, later_rules, rules_at, trailer_rules}
use Rattle.gaz_changefile.proofs.laws.worked_bases.Goals as goal

pub returns : goal.returns
unfolding reading is_utf8 chars csv_on_literals field_at read_id date_of says read_blpu read_lpi object_of is_plain char_count contents_of basis_rules change_rules header_rules later_rules rules_at trailer_rules lib.Utf8.encode
returns c = record {
  good = refl;
  own = refl;
  no_volume = refl;
  two_fields = refl;
  twice = refl;
  falling = refl;
  after_change = refl;
  after_trailer = refl;
  second_header = refl;
}
