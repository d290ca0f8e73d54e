use Rattle.std.proofs.Common.{subst, sym}
use Rattle.gaz_views.specs.View.{without_key}
use Rattle.gaz_calls.proofs.Answered.{answered_ok}
use Rattle.gaz_store.specs.Beside.{Makes, with_changes}
use Rattle.gaz_store.proofs.Turning.{taken_turns}
use Rattle.gaz_store.proofs.judgement.Judgement.take.Goals as goal

pub returns-clause-asks : goal.returns-clause-asks
returns-clause-asks g c =
    answered_ok _ _ _ c.in_ok-touch.field-0 _ _ _ c.touch.ensures.asks c.in_ok-touch.was (λ db kept turns w makes.
    subst (λ ch. Makes db (with_changes c.touch.new.self ch) (without_key w c.args.key.now)) (sym c.in_ok-take.ensures.ok)
    (taken_turns db kept c.touch.new.self c.args.key.now c.in_ok-touch.ensures.touched w (turns w makes)))
