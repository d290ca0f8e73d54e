use Rattle.std.proofs.Common.{◌≡◌, ◌∙◌}
use Rattle.gaz_views.specs.View.{custody_at}
use Rattle.gaz_keeper.proofs.Faults.{passed_on}
use Rattle.gaz_store.proofs.StoreReads.{tells_after, tells_fault}
use Rattle.gaz_store.proofs.shelf.StoreShelf.custody.Goals as goal

pub returns : goal.returns
returns g c =
    tells_after g.R.OfRegister.text c.args.self.now _ c.clear.new.self c.clear.ensures c.custody.result (λ v x. x ≡ custody_at v c.args.uprn) c.args.code _ c.ask_passed.result _ c.ask_passed.new.self
    c.ask_passed.ensures.progress c.ask_passed.ensures.working c.ask_passed.ensures.asks c.in_ok-ask_passed.was c.custody.ensures

pub returns-in_err-ask_passed : goal.returns-in_err-ask_passed
returns-in_err-ask_passed g c =
    tells_fault g.R.OfRegister.text c.args.self.now _ c.ask_passed.new.self (c.in_err-ask_passed.ensures.err ∙ c.clear.ensures) _ c.ask_passed.result _ _ _ c.ask_passed.ensures.asks c.in_err-ask_passed.was (passed_on _ _ c.from_residual.ensures.1)
