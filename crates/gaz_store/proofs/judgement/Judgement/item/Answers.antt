use Rattle.std.proofs.Common.{◌∙◌, sym}
use Rattle.gaz_calls.proofs.Answered.{asked_as}
use Rattle.gaz_calls.proofs.Composing.{asked_nothing}
use Rattle.gaz_store.proofs.Turning.{item_beside, item_elsewhere}
use Rattle.gaz_store.proofs.judgement.Judgement.item.Goals as goal

pub returns-then-not-is_touched : goal.returns-then-not-is_touched
returns-then-not-is_touched g c =
    asked_as _ _ _ _ _ c.current.ensures (λ db kept i is w makes.
    is ∙ item_elsewhere db c.args.self.now w makes c.args.key.now (sym c.is_touched.ensures ∙ c.if-not-is_touched.true))

pub returns-in-Ok : goal.returns-in-Ok
returns-in-Ok g c =
    asked_nothing _ _ _ (λ db kept w makes.
    c.in-Ok.ensures ∙ c.item.ensures ∙ item_beside db c.args.self.now w makes c.args.key.now (sym c.is_touched.ensures ∙ c.if-not-is_touched.false))
