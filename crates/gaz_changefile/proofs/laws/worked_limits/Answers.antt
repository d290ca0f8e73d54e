use Rattle.std.proofs.Common.{refl}
use Rattle.std.specs.Fmt.{digits}
use Rattle.std.specs.Str.{chars, is_utf8}
use Rattle.csv.proofs.OnLiterals.{csv_on_literals}
use Rattle.csv.specs.Records.{field_at}
use Rattle.gaz_ids.specs.Numbers.{read_id}
use Rattle.gaz_fields.specs.Days.{date_of}
use Rattle.gaz_fields.specs.Forms.{says}
use Rattle.gaz_records.specs.Streets.{read_street}
use Rattle.gaz_changefile.specs.Contents.{contents_of}
use Rattle.gaz_changefile.specs.Reading.{reading}
use Rattle.gaz_changefile.specs.Rules.{basis_rules, change_rules, header_rules, later_rules, rules_at, trailer_rules}
use Rattle.gaz_changefile.proofs.laws.worked_limits.Goals as goal

pub returns : goal.returns
unfolding reading digits is_utf8 chars csv_on_literals field_at read_id date_of says read_street contents_of basis_rules change_rules header_rules later_rules rules_at trailer_rules lib.Utf8.encode
returns c = record {
  last_change = refl;
  one_more = refl;
  one_more_cut = refl;
  other_kind = refl;
  trailer = refl;
  other_count = refl;
  last_basis = refl;
  one_more_basis = refl;
  seventeen = refl;
}
