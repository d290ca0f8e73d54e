use Rattle.gaz_views.proofs.Lawful.{lawful_released}
use Rattle.gaz_views.specs.View.{with_release}
use Rattle.gaz_keeper.proofs.Faults.{passed_on}
use Rattle.gaz_store.proofs.StoreCalls.{breaks, refused, turns}
use Rattle.gaz_store.proofs.shelf.StoreShelf.release.Goals as goal

pub returns-clause-sets : goal.returns-clause-sets
returns-clause-sets g c =
    turns g.R.OfRegister.text c.args.self.now c.in-Some.judgement c.release.new.self c.release.new.tables c.release.result (λ w. with_release w c.args.uprn c.args.to c.args.hop) c.in-Some.ensures.open
    c.release.ensures.code (λ w lawful. lawful_released w c.args.uprn c.args.to c.args.hop lawful) c.release.ensures.asks c.in_ok-release.was

pub returns-in_err-release-clause-sets : goal.returns-in_err-release-clause-sets
returns-in_err-release-clause-sets g c =
    breaks g.R.OfRegister.text c.args.self.now c.release.new.tables _ c.take_open.ensures.broken c.release.result c.in_err-release.field-0.0 c.from_residual.result _ _ _ c.release.ensures.asks c.in_err-release.was
    (passed_on c.from_residual.result c.in_err-release.field-0.0 c.from_residual.ensures.1)

pub returns-in_default-clause-sets : goal.returns-in_default-clause-sets
returns-in_default-clause-sets g c = refused g.R.OfRegister.text c.args.self.now c.fail.new.self _ c.take_open.ensures.broken c.fail.result c.fail.ensures.fails _ _ _
