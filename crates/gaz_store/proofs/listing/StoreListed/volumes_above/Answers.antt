use Rattle.gaz_store.proofs.Listed.{volumes_listed}
use Rattle.gaz_store.proofs.Listed.{tables_rest}
use Rattle.gaz_store.proofs.StoreReads.{tells}
use Rattle.gaz_store.proofs.listing.StoreListed.volumes_above.Goals as goal

pub returns-clause-tells : goal.returns-clause-tells
returns-clause-tells g c =
    tells g.R.OfRegister.text c.args.self.now _ c.clear.new.self c.clear.ensures c.volumes_above.result _ _ c.volumes_above.ensures
    (λ volumes kept is. volumes_listed _ c.args.code c.args.volume volumes.items is)

pub returns-clause-reads : goal.returns-clause-reads
returns-clause-reads g c = tells g.R.OfRegister.text c.args.self.now _ c.clear.new.self c.clear.ensures c.volumes_above.result _ _ c.volumes_above.ensures (λ volumes kept is. is)

pub returns-clause-rests : goal.returns-clause-rests
returns-clause-rests g c = tables_rest g.R.OfRegister.text c.args.self.now _ c.clear.new.self c.volumes_above.result _ c.volumes_above.ensures
