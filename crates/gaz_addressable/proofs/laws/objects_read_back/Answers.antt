use Rattle.gaz_addressable.proofs.Rounds.{object_back}
use Rattle.gaz_addressable.proofs.laws.objects_read_back.Goals as goal

pub returns : goal.returns
returns c = object_back
