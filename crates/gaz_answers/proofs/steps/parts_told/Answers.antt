use Rattle.gaz_answers.proofs.NamedIds.{has_id}
use Rattle.gaz_answers.proofs.steps.parts_told.Goals as goal

pub returns-clause-told : goal.returns-clause-told
returns-clause-told c = λ each. c.step_of.ensures.told (λ r there. has_id c.args.kind r (each r there))
