use Rattle.gaz_keeper.proofs.Faults.{passed_on}
use Rattle.gaz_store.proofs.StoreCalls.{keeps, keeps_not, refused}
use Rattle.gaz_store.proofs.shelf.StoreShelf.keep.Goals as goal

pub returns-clause-keeps : goal.returns-clause-keeps
returns-clause-keeps g c = keeps g.R.OfRegister.text c.args.self.now c.in-Some.judgement c.apply.new.self c.apply.result c.in-Some.ensures.open c.apply.ensures c.in_ok-apply.was

pub returns-in_err-apply-clause-keeps : goal.returns-in_err-apply-clause-keeps
returns-in_err-apply-clause-keeps g c =
    keeps_not g.R.OfRegister.text c.args.self.now c.in-Some.judgement c.apply.new.self _ c.take_open.ensures.broken c.apply.result c.in_err-apply.field-0.0 c.from_residual.result c.in-Some.ensures.open c.apply.ensures c.in_err-apply.was
    (passed_on c.from_residual.result c.in_err-apply.field-0.0 c.from_residual.ensures.1)

pub returns-in_default-clause-keeps : goal.returns-in_default-clause-keeps
returns-in_default-clause-keeps g c = refused g.R.OfRegister.text c.args.self.now c.fail.new.self _ c.take_open.ensures.broken c.fail.result c.fail.ensures.fails _ _ _
