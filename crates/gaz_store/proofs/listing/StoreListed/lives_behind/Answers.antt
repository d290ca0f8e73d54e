use Rattle.gaz_store.proofs.Listed.{lives_rest, lives_listed}
use Rattle.gaz_store.proofs.Listed.{tables_rest}
use Rattle.gaz_store.proofs.StoreReads.{tells}
use Rattle.gaz_store.proofs.listing.StoreListed.lives_behind.Goals as goal

pub returns-clause-tells : goal.returns-clause-tells
returns-clause-tells g c = record {
  reads =
      tells g.R.OfRegister.text c.args.self.now _ c.clear.new.self c.clear.ensures c.lives_behind.result _ _ c.lives_behind.ensures.asks
      (λ lives kept is. lives_listed _ kept c.args.place lives.items is);
  stays = lives_rest g.R.OfRegister.text c.args.self.now _ c.clear.new.self c.lives_behind.result _ c.lives_behind.ensures.asks;
}

pub returns-clause-reads : goal.returns-clause-reads
returns-clause-reads g c = tells g.R.OfRegister.text c.args.self.now _ c.clear.new.self c.clear.ensures c.lives_behind.result _ _ c.lives_behind.ensures.asks (λ lives kept is. is)

pub returns-clause-rests : goal.returns-clause-rests
returns-clause-rests g c = tables_rest g.R.OfRegister.text c.args.self.now _ c.clear.new.self c.lives_behind.result _ c.lives_behind.ensures.asks
