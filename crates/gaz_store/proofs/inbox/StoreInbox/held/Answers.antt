use Rattle.gaz_store.proofs.StoreReads.{tells_held}
use Rattle.gaz_store.proofs.inbox.StoreInbox.held.Goals as goal

pub returns : goal.returns
returns g c = tells_held g.R.OfRegister.text c.args.self.now _ c.clear.new.self c.clear.ensures c.held.result c.args.code c.held.ensures
