use Rattle.std.proofs.Common.{subst, sym}
use Rattle.gaz_calls.proofs.Answered.{answered_ok}
use Rattle.gaz_store.specs.Beside.{Makes, with_changes}
use Rattle.gaz_store.proofs.Turning.{touched_turns}
use Rattle.gaz_store.proofs.judgement.Judgement.touch_first.Goals as goal

pub returns-clause-asks : goal.returns-clause-asks
returns-clause-asks g c =
    let j = c.args.self.now in
    answered_ok _ _ _ (c.in_ok-stood.stood, c.in_ok-stood.item) _ _ _ c.stood.ensures c.in_ok-stood.was (λ db kept tells w makes.
    subst (λ ch. Makes db (with_changes j ch) w) (sym c.in_ok-touch.ensures.ok)
    (touched_turns db kept j c.args.key.now c.in_ok-stood.stood c.in_ok-stood.item c.requires tells w makes))
