-- So far all is as before, or so many files were judged; and who rested rests.
use Rattle.std.proofs.Common.{◌≡◌, take}
use Rattle.std.specs.Prelude.{Ok}
use Rattle.gaz_steps.specs.Hubs.{door_of}
use Rattle.gaz_hub.specs.Settling.{Tries}
use Rattle.gaz_hub.specs.Waiting.{RestAfter}
use Rattle.gaz_hub.proofs.settling.judge_each.Given as goal

abbrev pub invariant-loop-code : goal.invariant-loop-code
invariant-loop-code g l =
    let a = g.K.Shelf.seen l.fn.keeper in
    let b = g.K.Shelf.seen l.keeper in
    record {
      tries : Tries (door_of l.register) l.left a b (Ok l.judged) (λ c. ⊥);
      rest : RestAfter (take l.code-index l.codes) (door_of l.register) l.fn.waiters a l.waiters b;
      ahead : l.judged ≡ 0 → l.waiters.ahead ≡ l.fn.waiters.ahead;
    }
