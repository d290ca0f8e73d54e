use Rattle.std.proofs.Common.{◌∙◌, sym}
use Rattle.gaz_calls.proofs.Answered.{asked_as}
use Rattle.gaz_calls.proofs.Composing.{asked_nothing}
use Rattle.gaz_calls.proofs.Passed.{known_none, none_told}
use Rattle.gaz_store.proofs.PassedOn.{custody_beside, custody_elsewhere}
use Rattle.gaz_store.proofs.judgement.Judgement.custody.Goals as goal

pub returns-in-Some : goal.returns-in-Some
returns-in-Some g c = asked_nothing _ _ _ (λ db kept w makes. custody_beside db c.args.self.now w makes c.args.uprn c.in-Some.custody (sym c.custody.ensures ∙ c.in-Some.is))

pub returns-in-None : goal.returns-in-None
returns-in-None g c =
    asked_nothing _ _ _ (λ db kept w makes.
    (none_told db kept c.args.self.now.code (known_none db _ _ makes.known (sym c.knows_none.ensures ∙ c.if-knows_none.true)) c.args.uprn).custody
    ∙ custody_elsewhere db c.args.self.now w makes c.args.uprn (sym c.custody.ensures ∙ c.in-None.is))

pub returns-in-None-2 : goal.returns-in-None-2
returns-in-None-2 g c =
    asked_as _ _ _ _ _ c.custody-in-None-2.ensures (λ db kept x is w makes.
    is ∙ custody_elsewhere db c.args.self.now w makes c.args.uprn (sym c.custody.ensures ∙ c.in-None-2.is))
