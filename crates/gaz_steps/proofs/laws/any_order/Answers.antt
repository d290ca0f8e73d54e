use Rattle.gaz_steps.proofs.Orders.{any_order_holds}
use Rattle.gaz_steps.proofs.laws.any_order.Goals as goal

pub returns : goal.returns
returns c = any_order_holds
