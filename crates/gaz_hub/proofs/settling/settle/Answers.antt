-- Round after round.
use Rattle.std.proofs.Common.{◌≡◌, ℕ, sym, ap, subst, arith, length}
use Rattle.std.specs.Prelude.{⊤, Ok, Some}
use Rattle.gaz_steps.specs.Hubs.{door_of}
use Rattle.gaz_hub.specs.Settling.{Tells, Tries}
use Rattle.gaz_hub.specs.Waiting.{remembering}
use Rattle.gaz_keeper.proofs.Faults.{passed_on}
use Rattle.gaz_hub.proofs.Advancing.{advances_less, advances_then}
use Rattle.gaz_hub.proofs.Rounds.{settled_now, settling_stopped}
use Rattle.gaz_hub.proofs.Memory.{rest_then, tells_over}
use Rattle.gaz_hub.proofs.settling.settle.Goals as goal

pub returns-in_err-judged-clause-tells : goal.returns-in_err-judged-clause-tells
returns-in_err-judged-clause-tells g c =
    let reg = c.args.register.now in
    let d = door_of reg in
    let a = g.K.Shelf.seen c.args.keeper.now in
    let e = c.in_err-judged.field-0.0 in
    let many : length c.custodians.result.now ≡ length reg = ap length c.custodians.ensures.value in
    subst (λ r. Tells {T = Unit {0}} d (remembering reg (Some c.args.waiters.now) a) (g.K.Shelf.seen c.settle_round.new.keeper) r (λ _. ⊤)) (sym (passed_on c.from_residual.result e c.from_residual.ensures.1))
    (tells_over d reg (Some c.args.waiters.now) a _ _ _
    (settling_stopped reg _ c.loop-round.left a (g.K.Shelf.seen c.loop-round.keeper) _ e _ _ (omega (arith, many, c.loop-round.invariant.rounds))
    c.loop-round.invariant.advances c.in_err-judged.ensures.tries))

pub returns-then-judged-eq0-clause-tells : goal.returns-then-judged-eq0-clause-tells
returns-then-judged-eq0-clause-tells g c =
    let reg = c.args.register.now in
    let d = door_of reg in
    let a = g.K.Shelf.seen c.args.keeper.now in
    let b = g.K.Shelf.seen c.loop-round.keeper in
    let e = g.K.Shelf.seen c.settle_round.new.keeper in
    let round = c.in_ok-judged.ensures in
    settled_now reg _ c.loop-round.left _ _ a b e _ c.loop-round.invariant.advances
    (subst (λ (n : ℕ). Tries d c.loop-round.left b e (Ok n) (λ x. ⊥)) c.if-judged-eq0.true round.tries)
    (rest_then d _ a b e _ _ _ c.loop-round.invariant.advances round.tries.advances.harm c.loop-round.invariant.rest round.rest) (round.ahead c.if-judged-eq0.true)

pub returns-then-judged-eq0-clause-rest : goal.returns-then-judged-eq0-clause-rest
returns-then-judged-eq0-clause-rest g c =
    let d = door_of c.args.register.now in
    let round = c.in_ok-judged.ensures in
    rest_then d _ (g.K.Shelf.seen c.args.keeper.now) (g.K.Shelf.seen c.loop-round.keeper) (g.K.Shelf.seen c.settle_round.new.keeper) _ _ _
    c.loop-round.invariant.advances round.tries.advances.harm c.loop-round.invariant.rest round.rest

pub loop-round-preserved : goal.loop-round-preserved
loop-round-preserved g c =
    let d = door_of c.args.register.now in
    let a = g.K.Shelf.seen c.args.keeper.now in
    let b = g.K.Shelf.seen c.loop-round.keeper in
    let e = g.K.Shelf.seen c.settle_round.new.keeper in
    let more = c.in_ok-judged.ensures.tries in
    let few = more.within in
    let rounds = c.loop-round.invariant.rounds in
    let some = c.if-judged-eq0.false in
    record {
      advances = advances_less d _ _ _ e (omega arith) (advances_then d _ _ a b e c.loop-round.invariant.advances more.advances);
      rounds = omega arith;
      rest = rest_then d _ a b e _ _ _ c.loop-round.invariant.advances more.advances.harm c.loop-round.invariant.rest c.in_ok-judged.ensures.rest;
    }

pub returns : goal.returns
returns g c = absurd (omega (arith, c.loop-round.invariant.rounds, c.loop-round-test.false))
