use Rattle.gaz_store.proofs.Opens.{open_where_done}
use Rattle.gaz_store.proofs.StoreCalls.{received}
use Rattle.gaz_store.proofs.inbox.StoreInbox.receive.Goals as goal

pub returns-clause-enters : goal.returns-clause-enters
returns-clause-enters g c =
    received g.R.OfRegister.text c.args.self.now _ c.clear.new.self c.clear.ensures c.receive.result c.args.code c.args.volume c.args.bytes.now (rw c.number-number.ensures.value at c.number-number.ensures.range)
    c.requires c.receive.ensures

pub returns-clause-open : goal.returns-clause-open
returns-clause-open g c = open_where_done c.receive.result _ c.receive.ensures.alters.is_open
