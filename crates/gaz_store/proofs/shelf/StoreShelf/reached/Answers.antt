use Rattle.gaz_store.proofs.StoreReads.{tells_recalled}
use Rattle.gaz_store.proofs.shelf.StoreShelf.reached.Goals as goal

pub returns : goal.returns
returns g c = tells_recalled g.R.OfRegister.text c.args.self.now _ c.clear.new.self c.clear.ensures c.reached.result _ _ c.reached.ensures (λ n kept is. is)
