use Rattle.gaz_views.specs.Numbered.{with_adopted}
use Rattle.gaz_store.proofs.PassedOn.{adopted_lawful}
use Rattle.gaz_keeper.proofs.Faults.{passed_on}
use Rattle.gaz_store.proofs.StoreCalls.{breaks, refused, turns}
use Rattle.gaz_store.proofs.shelf.StoreShelf.adopt.Goals as goal

pub returns-clause-sets : goal.returns-clause-sets
returns-clause-sets g c =
    turns g.R.OfRegister.text c.args.self.now c.in-Some.judgement c.adopt.new.self c.adopt.new.tables c.adopt.result (λ w. with_adopted w c.args.blpu c.args.from c.args.hop) c.in-Some.ensures.open
    c.adopt.ensures.code (λ w lawful. adopted_lawful w c.args.blpu c.args.from c.args.hop lawful) c.adopt.ensures.asks c.in_ok-adopt.was

pub returns-in_err-adopt-clause-sets : goal.returns-in_err-adopt-clause-sets
returns-in_err-adopt-clause-sets g c =
    breaks g.R.OfRegister.text c.args.self.now c.adopt.new.tables _ c.take_open.ensures.broken c.adopt.result c.in_err-adopt.field-0.0 c.from_residual.result _ _ _ c.adopt.ensures.asks c.in_err-adopt.was
    (passed_on c.from_residual.result c.in_err-adopt.field-0.0 c.from_residual.ensures.1)

pub returns-in_default-clause-sets : goal.returns-in_default-clause-sets
returns-in_default-clause-sets g c = refused g.R.OfRegister.text c.args.self.now c.fail.new.self _ c.take_open.ensures.broken c.fail.result c.fail.ensures.fails _ _ _
