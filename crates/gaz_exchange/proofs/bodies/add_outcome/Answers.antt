use Rattle.std.proofs.Common.{append_assoc, codes}
use Rattle.gaz_exchange.specs.Replies.{want_text}
use Rattle.gaz_exchange.proofs.bodies.add_outcome.Goals as goal

pub returns-in_ok-add_want-in-Held : goal.returns-in_ok-add_want-in-Held
returns-in_ok-add_want-in-Held c = rw (c.in_ok-add_want-in-Held.ensures, c.in_ok-extend_from_slice-in-Held.ensures.items, c.in-Held.is)
    (append_assoc c.args.out.now.items (codes "\"outcome\":\"held\",\"wants\":") (want_text c.in-Held.custodian c.in-Held.volume))
