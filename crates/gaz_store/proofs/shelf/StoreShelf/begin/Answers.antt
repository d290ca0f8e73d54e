use Rattle.gaz_store.proofs.StoreCalls.{begins}
use Rattle.gaz_store.proofs.shelf.StoreShelf.begin.Goals as goal

pub returns : goal.returns
returns g c = begins g.R.OfRegister.text c.args.self.now c.args.code c.new-judgement.result c.new-judgement.ensures.code c.new-judgement.ensures.changes c.new-judgement.ensures.known
