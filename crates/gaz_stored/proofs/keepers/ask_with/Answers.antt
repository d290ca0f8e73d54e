-- The hub has the register and the keeper that it was given, and its keeper is left.
use Rattle.std.proofs.Common.{ap, sym}
use Rattle.gaz_stored.proofs.Alone.{asks_with}
use Rattle.gaz_stored.proofs.keepers.ask_with.Goals as goal

pub returns : goal.returns
returns g c =
    let hub = c.new-hub in
    let asked = c.ask_hub-said in
    asks_with g.K.Shelf.seen c.args.register _ hub.result asked.new.hub c.args.keeper c.into_parts-register.result.1 asked.result hub.ensures.register hub.ensures.keeper hub.ensures.remembers
    (sym (ap (λ (t : _ × _). t.1) c.into_parts-register.ensures)) asked.ensures
