use Rattle.gaz_standing.proofs.KeyOrders.{noted}
use Rattle.gaz_standing.proofs.key_order.KeyOrder.note.Goals as goal

pub returns-clause-ok : goal.returns-clause-ok
returns-clause-ok c = noted c.args.self.now c.self.inside.keys.items c.push.new.self.items c.args.key c.self.view_is c.in_ok-push.ensures.items
