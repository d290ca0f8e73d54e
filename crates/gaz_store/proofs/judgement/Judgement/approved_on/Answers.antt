use Rattle.std.proofs.Common.{◌∙◌, sym}
use Rattle.gaz_tables.specs.Schema.{received}
use Rattle.gaz_tables.specs.Tables.{rows_of}
use Rattle.gaz_kept.specs.Files.{reached_in}
use Rattle.gaz_calls.proofs.Answered.{asked_as}
use Rattle.gaz_calls.proofs.Composing.{asked_nothing}
use Rattle.gaz_kept.proofs.LawfulViews.{view_lawful}
use Rattle.gaz_store.proofs.Turning.{approved_on_beside, or_false, or_true}
use Rattle.gaz_store.proofs.judgement.Judgement.approved_on.Goals as goal

pub returns-then-approved_on : goal.returns-then-approved_on
returns-then-approved_on g c =
    asked_nothing _ _ _ (λ db kept w makes.
    let lawful = view_lawful db kept c.args.self.now.code (reached_in (rows_of db received) c.args.self.now.code) in
    sym (approved_on_beside db c.args.self.now w makes lawful c.args.usrn c.args.lang ∙ or_true _ _ (sym c.approved_on.ensures ∙ c.if-approved_on.true)))

pub returns : goal.returns
returns g c =
    asked_as _ _ _ _ _ c.left_on.ensures (λ db kept b is w makes.
    let lawful = view_lawful db kept c.args.self.now.code (reached_in (rows_of db received) c.args.self.now.code) in
    is ∙ sym (approved_on_beside db c.args.self.now w makes lawful c.args.usrn c.args.lang ∙ or_false _ _ (sym c.approved_on.ensures ∙ c.if-approved_on.false)))
