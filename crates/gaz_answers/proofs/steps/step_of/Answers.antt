use Rattle.std.proofs.Common.{◌∙◌, sym}
use Rattle.gaz_answers.proofs.steps.step_of.Goals as goal

pub returns-then-found-clause-said : goal.returns-then-found-clause-said
returns-then-found-clause-said c says is = sym is ∙ c.if-found.true
