use Rattle.std.proofs.Common.{refl}
use Rattle.gaz_ids.specs.Numbers.{read_id}
use Rattle.gaz_cells.specs.Digits.{digits_in}
use Rattle.gaz_cells.proofs.laws.worked_custody.Goals as goal

pub returns : goal.returns
unfolding digits_in read_id
returns c = record { written = refl; read = refl; given_up = refl; of_a_property = refl; with_a_body = refl; at_no_hop = refl }
