use Rattle.std.proofs.Common.{◌≡◌}
use Rattle.gaz_views.specs.Words.{approved_of}
use Rattle.gaz_store.proofs.StoreReads.{tells_beside, tells_last}
use Rattle.gaz_store.proofs.shelf.StoreShelf.approved_of.Goals as goal

pub returns-in-Some : goal.returns-in-Some
returns-in-Some g c =
    tells_beside g.R.OfRegister.text c.args.self.now _ c.clear.new.self c.clear.ensures c.approved_of.result (λ v i. i.items ≡ approved_of v c.args.uprn) c.args.code c.in-Some.judgement.now
    c.in-Some.ensures.some c.in-Some.ensures.code c.approved_of.ensures

pub returns-in-None : goal.returns-in-None
returns-in-None g c =
    tells_last g.R.OfRegister.text c.args.self.now _ c.clear.new.self c.clear.ensures c.approved_of-in-None.result (λ v i. i.items ≡ approved_of v c.args.uprn) c.args.code c.in-None.ensures.none c.approved_of-in-None.ensures
