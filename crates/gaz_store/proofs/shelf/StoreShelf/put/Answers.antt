use Rattle.gaz_views.proofs.Lawful.{lawful_put}
use Rattle.gaz_views.specs.View.{with_item}
use Rattle.gaz_keeper.proofs.Faults.{passed_on}
use Rattle.gaz_store.proofs.StoreCalls.{breaks, refused, turns}
use Rattle.gaz_store.proofs.shelf.StoreShelf.put.Goals as goal

pub returns-clause-sets : goal.returns-clause-sets
returns-clause-sets g c =
    turns g.R.OfRegister.text c.args.self.now c.in-Some.judgement c.put.new.self c.put.new.tables c.put.result (λ w. with_item w c.args.item) c.in-Some.ensures.open
    c.put.ensures.code (λ w lawful. lawful_put w c.args.item c.requires.entry lawful) c.put.ensures.asks c.in_ok-put.was

pub returns-in_err-put-clause-sets : goal.returns-in_err-put-clause-sets
returns-in_err-put-clause-sets g c =
    breaks g.R.OfRegister.text c.args.self.now c.put.new.tables _ c.take_open.ensures.broken c.put.result c.in_err-put.field-0.0 c.from_residual.result _ _ _ c.put.ensures.asks c.in_err-put.was
    (passed_on c.from_residual.result c.in_err-put.field-0.0 c.from_residual.ensures.1)

pub returns-in_default-clause-sets : goal.returns-in_default-clause-sets
returns-in_default-clause-sets g c = refused g.R.OfRegister.text c.args.self.now c.fail.new.self _ c.take_open.ensures.broken c.fail.result c.fail.ensures.fails _ _ _
