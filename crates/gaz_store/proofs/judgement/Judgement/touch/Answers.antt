use Rattle.gaz_calls.proofs.Composing.{asked_nothing}
use Rattle.gaz_store.proofs.judgement.Judgement.touch.Goals as goal

pub returns-then-is_touched-clause-asks : goal.returns-then-is_touched-clause-asks
returns-then-is_touched-clause-asks g c = asked_nothing _ _ _ (λ db kept w makes. makes)
