use Rattle.std.proofs.Common.{◌∙◌, sym}
use Rattle.gaz_tables.specs.Schema.{received}
use Rattle.gaz_tables.specs.Tables.{rows_of}
use Rattle.gaz_kept.specs.Files.{reached_in}
use Rattle.gaz_calls.proofs.Answered.{asked_as}
use Rattle.gaz_calls.proofs.Composing.{asked_nothing}
use Rattle.gaz_kept.proofs.LawfulViews.{view_lawful}
use Rattle.gaz_store.proofs.Turning.{or_false, or_true, tied_beside}
use Rattle.gaz_store.proofs.judgement.Judgement.tied.Goals as goal

pub returns-then-own-clause-asks : goal.returns-then-own-clause-asks
returns-then-own-clause-asks g c =
    asked_nothing _ _ _ (λ db kept w makes.
    let lawful = view_lawful db kept c.args.self.now.code (reached_in (rows_of db received) c.args.self.now.code) in
    sym (tied_beside db c.args.self.now w makes lawful c.args.uprn ∙ or_true _ _ (sym c.in-Ok.ensures.tied ∙ c.if-own.true)))

pub returns-clause-asks : goal.returns-clause-asks
returns-clause-asks g c =
    asked_as _ _ _ _ _ (rw c.tied.ensures.same at c.left_tied.ensures) (λ db kept b is w makes.
    let lawful = view_lawful db kept c.args.self.now.code (reached_in (rows_of db received) c.args.self.now.code) in
    is ∙ sym (tied_beside db c.args.self.now w makes lawful c.args.uprn ∙ or_false _ _ (sym c.in-Ok.ensures.tied ∙ c.if-own.false)))
