use Rattle.std.proofs.Common.{refl}
use Rattle.gaz_fields.specs.Labels.{word}
use Rattle.gaz_records.specs.SortKeys.{bytes_of}
use Rattle.gaz_records.proofs.laws.worked_sort_keys.Goals as goal

pub returns : goal.returns
unfolding word bytes_of
returns c = (refl, refl, refl, refl, refl, refl, refl, refl, refl)
