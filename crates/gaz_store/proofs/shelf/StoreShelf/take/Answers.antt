use Rattle.gaz_views.proofs.Lawful.{lawful_taken}
use Rattle.gaz_views.specs.View.{without_key}
use Rattle.gaz_keeper.proofs.Faults.{passed_on}
use Rattle.gaz_store.proofs.StoreCalls.{breaks, refused, turns}
use Rattle.gaz_store.proofs.shelf.StoreShelf.take.Goals as goal

pub returns-clause-sets : goal.returns-clause-sets
returns-clause-sets g c =
    turns g.R.OfRegister.text c.args.self.now c.in-Some.judgement c.take.new.self c.take.new.tables c.take.result (λ w. without_key w c.args.key.now) c.in-Some.ensures.open
    c.take.ensures.code (λ w lawful. lawful_taken w c.args.key.now lawful) c.take.ensures.asks c.in_ok-take.was

pub returns-in_err-take-clause-sets : goal.returns-in_err-take-clause-sets
returns-in_err-take-clause-sets g c =
    breaks g.R.OfRegister.text c.args.self.now c.take.new.tables _ c.take_open.ensures.broken c.take.result c.in_err-take.field-0.0 c.from_residual.result _ _ _ c.take.ensures.asks c.in_err-take.was
    (passed_on c.from_residual.result c.in_err-take.field-0.0 c.from_residual.ensures.1)

pub returns-in_default-clause-sets : goal.returns-in_default-clause-sets
returns-in_default-clause-sets g c = refused g.R.OfRegister.text c.args.self.now c.fail.new.self _ c.take_open.ensures.broken c.fail.result c.fail.ensures.fails _ _ _
