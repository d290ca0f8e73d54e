use Rattle.gaz_store.proofs.StoreCalls.{abandons}
use Rattle.gaz_store.proofs.shelf.StoreShelf.abandon.Goals as goal

pub returns : goal.returns
returns g c = abandons g.R.OfRegister.text c.args.self.now
