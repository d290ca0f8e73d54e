use Rattle.gaz_store.proofs.Opens.{open_where_sure}
use Rattle.gaz_store.proofs.StoreReads.{tells}
use Rattle.gaz_store.proofs.inbox.StoreInbox.sure.Goals as goal

pub returns-clause-reads : goal.returns-clause-reads
returns-clause-reads g c = tells g.R.OfRegister.text c.args.self.now _ c.clear.new.self c.clear.ensures c.make_sure.result _ _ c.make_sure.ensures.asks (λ done kept is. tt)

pub returns-clause-open : goal.returns-clause-open
returns-clause-open g c = open_where_sure c.make_sure.result _ c.make_sure.new.self.sure c.make_sure.ensures.sure c.make_sure.new.self.is_open
