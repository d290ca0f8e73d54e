use Rattle.gaz_store.proofs.StoreReads.{tells}
use Rattle.gaz_store.proofs.shelf.StoreShelf.verdict.Goals as goal

pub returns : goal.returns
returns g c = tells g.R.OfRegister.text c.args.self.now _ c.clear.new.self c.clear.ensures c.verdict.result _ _ c.verdict.ensures (λ v kept is. is)
