use Rattle.std.proofs.Common.{refl}
use Rattle.csv.proofs.OnLiterals.{csv_on_literals}
use Rattle.csv.specs.Records.{field_at}
use Rattle.gaz_ids.specs.Numbers.{read_id}
use Rattle.gaz_changefile.specs.Profile.{profile_of}
use Rattle.gaz_changefile.proofs.laws.worked_profiles.Goals as goal

pub returns : goal.returns
unfolding csv_on_literals field_at read_id profile_of
returns c = record {
  other_fields = refl;
  leading_zeros = refl;
  not_text = refl;
  quote_left_open = refl;
  not_digits = refl;
  nought = refl;
  too_great = refl;
  one_field = refl;
  other_identifier = refl;
  in_second_record = refl;
  no_record = refl;
}
