use Rattle.std.proofs.Common.{◌≡◌, ◌∙◌}
use Rattle.gaz_views.specs.Words.{tied}
use Rattle.gaz_store.proofs.StoreReads.{tells_of_view}
use Rattle.gaz_store.proofs.shelf.StoreShelf.tied.Goals as goal

pub returns : goal.returns
returns g c =
    tells_of_view g.R.OfRegister.text c.args.self.now _ c.tied.new.self (c.tied.ensures.same ∙ c.clear.ensures) c.tied.result (λ v b. b ≡ tied v c.args.uprn) c.args.code c.clear.new.self c.clear.ensures c.tied.ensures.asks
