-- One after another.
use Rattle.std.proofs.Common.{[], ◌∷◌, ◌++◌, ◌∙◌, ap, sym, cond, eqb, filter, not, append-nil}
use Rattle.std.proofs.lemmas.List.{take_all}
use Rattle.gaz_waiters.proofs.Waiting.{pushed_if}
use Rattle.gaz_waiters.proofs.waiters.push_others.Goals.{then-ne+in_ok-push, else-ne}
use Rattle.gaz_waiters.proofs.waiters.push_others.Goals as goal

pub loop-code-init : goal.loop-code-init
loop-code-init c = sym (append-nil c.args.ahead.now.items)

pub loop-code-preserved : goal.loop-code-preserved
loop-code-preserved c =
    let before = c.loop-code.ahead.items in
    let x = c.code-item.result in
    let more = pushed_if c.args.but c.args.ahead.now.items c.args.codes.now c.loop-code.code-index x c.loop-code-test.true c.code-item.is in
    let then = ap (λ ys. cond (not (eqb x c.args.but)) (ys ++ x ∷ []) ys) c.loop-code.invariant ∙ sym more in
    elim c.if-ne.branch [
      | then-ne+in_ok-push w ↦ ap (λ v. v.items) w.ahead-is ∙ w.in_ok-push.ensures.items ∙ ap (λ b. cond b (before ++ x ∷ []) before) (sym w.if-ne.true ∙ c.ne.ensures) ∙ then
      | else-ne w ↦ ap (λ v. v.items) w.ahead-is ∙ ap (λ b. cond b (before ++ x ∷ []) before) (sym w.if-ne.false ∙ c.ne.ensures) ∙ then
    ]

pub returns : goal.returns
returns c = c.loop-code.invariant ∙ ap (λ ys. c.args.ahead.now.items ++ filter (λ x. not (eqb x c.args.but)) ys) (take_all c.loop-code.code-index c.args.codes.now c.loop-code-test.false)
