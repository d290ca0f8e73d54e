use Rattle.gaz_store.proofs.StoreReads.{tells}
use Rattle.gaz_store.proofs.inbox.StoreInbox.received.Goals as goal

pub returns : goal.returns
returns g c = tells g.R.OfRegister.text c.args.self.now _ c.clear.new.self c.clear.ensures c.received.result _ _ c.received.ensures (λ bytes kept is. is)
