use Rattle.std.proofs.Common.{◌≡◌}
use Rattle.std.specs.FinMap as map
use Rattle.gaz_store.proofs.StoreReads.{tells_beside, tells_last}
use Rattle.gaz_store.proofs.shelf.StoreShelf.current.Goals as goal

pub returns-in-Some : goal.returns-in-Some
returns-in-Some g c =
    tells_beside g.R.OfRegister.text c.args.self.now _ c.clear.new.self c.clear.ensures c.item.result (λ v i. i ≡ map.get v.items c.args.key.now) c.args.code c.in-Some.judgement.now
    c.in-Some.ensures.some c.in-Some.ensures.code c.item.ensures

pub returns-in-None : goal.returns-in-None
returns-in-None g c =
    tells_last g.R.OfRegister.text c.args.self.now _ c.clear.new.self c.clear.ensures c.current.result (λ v i. i ≡ map.get v.items c.args.key.now) c.args.code c.in-None.ensures.none c.current.ensures
