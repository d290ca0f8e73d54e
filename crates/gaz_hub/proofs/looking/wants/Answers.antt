-- What it waits for is what it is found to wait for.
use Rattle.std.proofs.Common.{◌∙◌}
use Rattle.gaz_steps.proofs.Looks.{looks_to}
use Rattle.gaz_hub.proofs.Looks.{wanted_as}
use Rattle.gaz_hub.proofs.looking.wants.Goals as goal

pub returns : goal.returns
returns g c =
    let k = (g.K.Shelf.seen c.args.keeper.now).content in
    looks_to _ _ _ _ _ _ c.in_ok-next.ensures (λ h. c.wanted.ensures ∙ wanted_as k.files k.board c.args.code c.in_ok-next.next h)
