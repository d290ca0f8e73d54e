-- One custodian after another.
use Rattle.std.proofs.Common.{◌∙◌, refl, sym, subst}
use Rattle.gaz_steps.specs.Hubs.{door_of}
use Rattle.gaz_hub.specs.Settling.{Tries}
use Rattle.gaz_keeper.proofs.Faults.{passed_on}
use Rattle.gaz_hub.proofs.Advancing.{neither, tries_nothing, tries_on, tries_stopped}
use Rattle.gaz_hub.proofs.Memory.{rest_all, rest_more, rest_still}
use Rattle.gaz_hub.proofs.settling.judge_each.Goals as goal

pub loop-code-init : goal.loop-code-init
loop-code-init g c =
    let a = g.K.Shelf.seen c.args.keeper.now in
    record { tries = tries_nothing (door_of c.args.register.now) c.args.left a (λ c. ⊥) c.requires (λ c h. h); rest = rest_still (door_of c.args.register.now) c.args.waiters.now a; ahead = λ _. refl }

pub returns-in_err-judged-clause-tries : goal.returns-in_err-judged-clause-tries
returns-in_err-judged-clause-tries g c =
    let d = door_of c.args.register.now in
    let a = g.K.Shelf.seen c.args.keeper.now in
    let e = c.in_err-judged.field-0.0 in
    subst (λ r. Tries d c.args.left a (g.K.Shelf.seen c.judge_next.new.keeper) r (λ x. ⊥)) (sym (passed_on c.from_residual.result e c.from_residual.ensures.1))
    (tries_stopped c.args.register.now _ c.args.left a (g.K.Shelf.seen c.loop-code.keeper) _ e _ _ _ c.loop-code.invariant.tries c.in_err-judged.ensures.tries)

pub loop-code-preserved : goal.loop-code-preserved
loop-code-preserved g c =
    let d = door_of c.args.register.now in
    let a = g.K.Shelf.seen c.args.keeper.now in
    let b = g.K.Shelf.seen c.loop-code.keeper in
    let e = g.K.Shelf.seen c.judge_next.new.keeper in
    let inv = c.loop-code.invariant in
    let next = c.in_ok-judged.ensures in
    record {
      tries = tries_on d _ _ c.args.left a b e _ _ inv.tries next.tries;
      rest = rest_more d c.args.codes.now _ _ _ a b e _ _ _ c.loop-code-test.true c.code-item.is inv.tries.advances next.tries.advances.harm inv.rest next.rest;
      ahead = λ none. let no = neither _ _ none in next.ahead no.1 ∙ inv.ahead no.0;
    }

pub returns-clause-rest : goal.returns-clause-rest
returns-clause-rest g c =
    rest_all (door_of c.args.register.now) c.args.codes.now _ (g.K.Shelf.seen c.args.keeper.now) (g.K.Shelf.seen c.loop-code.keeper) _ _ c.loop-code-test.false c.loop-code.invariant.rest
