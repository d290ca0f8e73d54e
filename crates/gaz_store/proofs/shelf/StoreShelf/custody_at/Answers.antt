use Rattle.gaz_store.proofs.StoreReads.{custody_at_so, tells}
use Rattle.gaz_store.proofs.shelf.StoreShelf.custody_at.Goals as goal

pub returns : goal.returns
returns g c = tells g.R.OfRegister.text c.args.self.now _ c.clear.new.self c.clear.ensures c.custody_at.result _ _ c.custody_at.ensures (λ x kept is. custody_at_so _ kept c.args.code c.args.volume c.args.uprn x is)
