-- Each round so far judged a file, what was judged isn't left, and who rested rests.
use Rattle.std.proofs.Common.{◌+◌, ◌-◌, ◌≤◌, []}
use Rattle.gaz_steps.specs.Hubs.{door_of}
use Rattle.gaz_hub.specs.Settling.{Advances}
use Rattle.gaz_hub.specs.Waiting.{RestAfter}
use Rattle.gaz_hub.proofs.settling.settle.Given as goal

abbrev pub invariant-loop-round : goal.invariant-loop-round
invariant-loop-round g l =
    let a = g.K.Shelf.seen l.fn.keeper in
    let b = g.K.Shelf.seen l.keeper in
    record {
      advances : Advances (door_of l.register) (l.most - l.left) a b;
      rounds : l._round + l.left ≤ l.most;
      rest : RestAfter [] (door_of l.register) l.fn.waiters a l.waiters b;
    }
