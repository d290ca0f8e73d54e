use Rattle.gaz_standing.proofs.KeySets.{one_ascends}
use Rattle.gaz_standing.proofs.keys.Keys.in_order.Goals as goal

pub returns-in-One : goal.returns-in-One
returns-in-One c = rw c.in-One.is (one_ascends c.in-One.field-0)
