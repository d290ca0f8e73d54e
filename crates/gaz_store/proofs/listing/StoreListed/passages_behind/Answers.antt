use Rattle.gaz_store.proofs.Listed.{passages_rest}
use Rattle.gaz_store.proofs.Listed.{tables_rest}
use Rattle.gaz_store.proofs.StoreReads.{tells}
use Rattle.gaz_store.proofs.listing.StoreListed.passages_behind.Goals as goal

pub returns-clause-tells : goal.returns-clause-tells
returns-clause-tells g c = record {
  reads =
      tells g.R.OfRegister.text c.args.self.now _ c.clear.new.self c.clear.ensures c.passages_behind.result _ _ c.passages_behind.ensures (λ passages kept is. is);
  stays = passages_rest g.R.OfRegister.text c.args.self.now _ c.clear.new.self c.passages_behind.result _ c.passages_behind.ensures;
}

pub returns-clause-rests : goal.returns-clause-rests
returns-clause-rests g c = tables_rest g.R.OfRegister.text c.args.self.now _ c.clear.new.self c.passages_behind.result _ c.passages_behind.ensures
