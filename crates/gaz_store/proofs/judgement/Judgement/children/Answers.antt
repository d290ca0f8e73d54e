use Rattle.std.proofs.Common.{◌∙◌, sym}
use Rattle.gaz_tables.specs.Schema.{received}
use Rattle.gaz_tables.specs.Tables.{rows_of}
use Rattle.gaz_kept.specs.Files.{reached_in}
use Rattle.gaz_calls.proofs.Answered.{asked_as}
use Rattle.gaz_calls.proofs.Composing.{asked_nothing}
use Rattle.gaz_kept.proofs.LawfulViews.{view_lawful}
use Rattle.gaz_store.proofs.Turning.{children_beside, or_false, or_true}
use Rattle.gaz_store.proofs.judgement.Judgement.children.Goals as goal

pub returns-then-has_children : goal.returns-then-has_children
returns-then-has_children g c =
    asked_nothing _ _ _ (λ db kept w makes.
    let lawful = view_lawful db kept c.args.self.now.code (reached_in (rows_of db received) c.args.self.now.code) in
    sym (children_beside db c.args.self.now w makes lawful c.args.uprn ∙ or_true _ _ (sym c.has_children.ensures ∙ c.if-has_children.true)))

pub returns : goal.returns
returns g c =
    asked_as _ _ _ _ _ c.left_part.ensures (λ db kept b is w makes.
    let lawful = view_lawful db kept c.args.self.now.code (reached_in (rows_of db received) c.args.self.now.code) in
    is ∙ sym (children_beside db c.args.self.now w makes lawful c.args.uprn ∙ or_false _ _ (sym c.has_children.ensures ∙ c.if-has_children.false)))
