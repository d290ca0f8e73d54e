use Rattle.std.proofs.Common.{◌∙◌, refl, sym}
use Rattle.std.specs.Prelude.{None}
use Rattle.gaz_calls.proofs.Answered.{answered_ok}
use Rattle.gaz_calls.proofs.Composing.{asked_nothing}
use Rattle.gaz_calls.proofs.Passed.{known_none, none_told}
use Rattle.gaz_store.proofs.PassedOn.{told_before, told_now}
use Rattle.gaz_store.proofs.judgement.Judgement.since.Goals as goal

pub returns-then-is_passed : goal.returns-then-is_passed
returns-then-is_passed g c = asked_nothing _ _ _ (λ db kept known. told_before db c.args.self.now c.args.uprn _ (sym c.is_passed.ensures ∙ c.if-is_passed.true))

pub returns-then-knows_none : goal.returns-then-knows_none
returns-then-knows_none g c =
    asked_nothing _ _ _ (λ db kept known.
    told_now db c.args.self.now c.args.uprn None (none_told db kept c.args.self.now.code (known_none db _ _ known (sym c.knows_none.ensures ∙ c.if-knows_none.true)) c.args.uprn) None refl)

pub returns : goal.returns
returns g c =
    answered_ok _ _ _ c.in_ok-passed.passed _ _ _ c.passed.ensures c.in_ok-passed.was (λ db kept tells known.
    told_now db c.args.self.now c.args.uprn c.in_ok-passed.passed tells c.born_of.result c.born_of.ensures)
