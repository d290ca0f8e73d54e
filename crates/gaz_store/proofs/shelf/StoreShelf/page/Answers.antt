use Rattle.gaz_store.proofs.StoreReads.{tells}
use Rattle.gaz_store.proofs.shelf.StoreShelf.page.Goals as goal

pub returns : goal.returns
returns g c = tells g.R.OfRegister.text c.args.self.now _ c.clear.new.self c.clear.ensures c.page.result _ _ c.page.ensures (λ items kept is. is)
