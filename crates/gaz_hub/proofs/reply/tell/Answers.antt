-- A file that isn't judged is held.
use Rattle.std.proofs.Common.{◌≤◌, subst}
use Rattle.gaz_hub.proofs.Telling.{looks_held}
use Rattle.gaz_hub.proofs.reply.tell.Goals as goal

pub returns-in-None : goal.returns-in-None
returns-in-None g c =
    let n = c.number-number.ensures in
    looks_held (g.K.Shelf.seen c.args.keeper.now) (g.K.Shelf.seen c.verdict.new.self) (g.K.Shelf.seen c.tell_held.new.keeper) c.args.code c.args.volume c.args.known c.tell_held.result
    (subst (λ k. 1 ≤ k) n.value n.range.0) (subst (λ k. k ≤ 999999) n.value n.range.1) (rw c.in-None.is at c.in_ok-verdict.ensures) c.tell_held.ensures
