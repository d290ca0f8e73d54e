use Rattle.std.proofs.Common.{refl}
use Rattle.std.specs.Fmt.{digits}
use Rattle.csv.specs.Writing.{fields_text, is_blank}
use Rattle.gaz_rows.specs.Rows.{lines_of}
use Rattle.gaz_changefile.proofs.laws.worked_writing.Goals as goal

pub returns : goal.returns
unfolding lines_of digits fields_text is_blank
returns c = record {
  street = refl;
  house = refl;
  entries = refl;
  passages = record {
    release = refl;
    adoption = refl;
    profile = refl;
  };
}
