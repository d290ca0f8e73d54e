use Rattle.std.proofs.Common.{◌≡◌}
use Rattle.gaz_views.specs.Words.{has_children}
use Rattle.gaz_store.proofs.StoreReads.{tells_beside, tells_last}
use Rattle.gaz_store.proofs.shelf.StoreShelf.children.Goals as goal

pub returns-in-Some : goal.returns-in-Some
returns-in-Some g c =
    tells_beside g.R.OfRegister.text c.args.self.now _ c.clear.new.self c.clear.ensures c.children.result (λ v i. i ≡ has_children v c.args.uprn) c.args.code c.in-Some.judgement.now
    c.in-Some.ensures.some c.in-Some.ensures.code c.children.ensures

pub returns-in-None : goal.returns-in-None
returns-in-None g c =
    tells_last g.R.OfRegister.text c.args.self.now _ c.clear.new.self c.clear.ensures c.children-in-None.result (λ v i. i ≡ has_children v c.args.uprn) c.args.code c.in-None.ensures.none c.children-in-None.ensures
