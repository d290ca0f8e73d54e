use Rattle.gaz_records.proofs.KeyOrder.{keys_exact, keys_total}
use Rattle.gaz_records.proofs.laws.keys_are_ordered.Goals as goal

pub returns : goal.returns
returns c = (keys_total, keys_exact)
