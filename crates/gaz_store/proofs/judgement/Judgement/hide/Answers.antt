use Rattle.std.proofs.Common.{◌∙◌, subst, sym}
use Rattle.gaz_calls.proofs.Answered.{answered_ok}
use Rattle.gaz_calls.proofs.Composing.{asked_nothing}
use Rattle.gaz_store.specs.Beside.{IsReadyAt, with_changes}
use Rattle.gaz_store.proofs.Readying.{ready_hidden, ready_touched}
use Rattle.gaz_store.proofs.judgement.Judgement.hide.Goals as goal

pub returns-then-is_touched-clause-asks : goal.returns-then-is_touched-clause-asks
returns-then-is_touched-clause-asks g c = asked_nothing _ _ _ (λ db kept w makes. ready_touched db kept c.args.self.now c.args.key.now (sym c.is_touched.ensures ∙ c.if-is_touched.true) w makes)

pub returns-clause-asks : goal.returns-clause-asks
returns-clause-asks g c =
    let j = c.args.self.now in
    let k = c.args.key.now in
    answered_ok _ _ _ c.in_ok-stood.stood _ _ _ c.stands.ensures c.in_ok-stood.was (λ db kept tells w makes.
    subst (λ ch. IsReadyAt db (with_changes j ch) k w) (sym c.in_ok-touch.ensures.ok)
    (ready_hidden db kept j k c.in_ok-stood.stood (sym c.is_touched.ensures ∙ c.if-is_touched.false) tells w makes))
