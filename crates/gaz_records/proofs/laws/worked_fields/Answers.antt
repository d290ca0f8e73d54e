use Rattle.std.proofs.Common.{refl}
use Rattle.csv.specs.Records.{field_at}
use Rattle.gaz_ids.specs.Numbers.{read_id}
use Rattle.gaz_fields.specs.Days.{date_of}
use Rattle.gaz_fields.specs.Forms.{says}
use Rattle.gaz_records.specs.Streets.{read_street}
use Rattle.gaz_records.proofs.laws.worked_fields.Goals as goal

pub returns : goal.returns
unfolding date_of read_street says read_id field_at
returns c = record {
  open_end = refl;
  one_day = refl;
  end_before_start = refl;
  no_start = refl;
  no_number = refl;
  one_too_few = refl;
}
