use Rattle.gaz_store.proofs.StoreReads.{at_so, tells}
use Rattle.gaz_store.proofs.shelf.StoreShelf.at.Goals as goal

pub returns : goal.returns
returns g c = tells g.R.OfRegister.text c.args.self.now _ c.clear.new.self c.clear.ensures c.at.result _ _ c.at.ensures (λ i kept is. at_so _ kept c.args.code c.args.volume c.args.key.now i is)
