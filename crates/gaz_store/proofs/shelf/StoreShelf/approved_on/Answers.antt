use Rattle.std.proofs.Common.{◌≡◌}
use Rattle.gaz_views.specs.Words.{approved_on}
use Rattle.gaz_store.proofs.StoreReads.{tells_beside, tells_last}
use Rattle.gaz_store.proofs.shelf.StoreShelf.approved_on.Goals as goal

pub returns-in-Some : goal.returns-in-Some
returns-in-Some g c =
    tells_beside g.R.OfRegister.text c.args.self.now _ c.clear.new.self c.clear.ensures c.approved_on.result (λ v i. i ≡ approved_on v c.args.usrn c.args.lang) c.args.code c.in-Some.judgement.now
    c.in-Some.ensures.some c.in-Some.ensures.code c.approved_on.ensures

pub returns-in-None : goal.returns-in-None
returns-in-None g c =
    tells_last g.R.OfRegister.text c.args.self.now _ c.clear.new.self c.clear.ensures c.approved_on-in-None.result (λ v i. i ≡ approved_on v c.args.usrn c.args.lang) c.args.code c.in-None.ensures.none c.approved_on-in-None.ensures
