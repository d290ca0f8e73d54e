use Rattle.std.proofs.Common.{◌∙◌, ap, sym}
use Rattle.gaz_calls.specs.Passing.{was_passed}
use Rattle.gaz_calls.proofs.Answered.{asked_as}
use Rattle.gaz_calls.proofs.Composing.{asked_nothing}
use Rattle.gaz_calls.proofs.Passed.{none_used, not_of_number}
use Rattle.gaz_calls.proofs.tables.Tables.passed_at.Goals as goal

pub returns-then-none : goal.returns-then-none
returns-then-none g c = asked_nothing _ _ _ (λ db kept none. none_used db kept c.args.code (none c.if-none.true) c.args.key.now)

pub returns-in-Blpu : goal.returns-in-Blpu
returns-in-Blpu g c = asked_as _ _ _ _ _ c.passed.ensures (λ db kept passed tells known. tells.used ∙ ap (was_passed db c.args.code) (sym c.in-Blpu.is))

pub returns-in_default : goal.returns-in_default
returns-in_default g c = asked_nothing _ _ _ (λ db kept known. not_of_number db c.args.code c.args.key.now (λ n is. c.in_default.not-Blpu n (sym is)))
