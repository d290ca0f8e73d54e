use Rattle.std.proofs.Common.{◌∙◌}
use Rattle.gaz_calls.proofs.Answered.{answered_ok}
use Rattle.gaz_calls.proofs.Composing.{asked_nothing}
use Rattle.gaz_store.proofs.judgement.Judgement.ask_passed.Goals as goal

pub returns-then-is_some-clause-asks : goal.returns-then-is_some-clause-asks
returns-then-is_some-clause-asks g c = asked_nothing _ _ _ (λ db kept w makes. makes)

pub returns-clause-asks : goal.returns-clause-asks
returns-clause-asks g c =
    answered_ok _ _ _ c.in_ok-any.any _ _ _ c.any_passed.ensures c.in_ok-any.was (λ db kept so w makes. record {
      made = makes.made;
      told = makes.told;
      passed = makes.passed;
      known = λ b is. (cc) ∙ so;
    })
