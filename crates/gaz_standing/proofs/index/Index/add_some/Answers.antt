use Rattle.std.proofs.Common.{◌≡◌, ◌∙◌, ap, sym}
use Rattle.gaz_views.proofs.Outcomes.{on_ok}
use Rattle.gaz_standing.specs.Indexes.{is_under}
use Rattle.gaz_standing.specs.declared.index.Mark.{Mark}
use Rattle.gaz_standing.proofs.Indexes.{is_added, kept_under}
use Rattle.gaz_standing.proofs.index.Index.add_some.Goals as goal

pub returns-in-Some-clause-ok : goal.returns-in-Some-clause-ok
returns-in-Some-clause-ok c = on_ok c.add.result (λ h m is.
    let same : c.in-Some.mark ≡ m = cc in
    ap (λ (x : Mark). is_under c.add.new.self x c.args.key.now) (sym same) ∙ is_added c.args.self.now c.add.new.self c.in-Some.mark c.args.key.now h) c.add.ensures.ok

pub returns-in-Some-clause-kept : goal.returns-in-Some-clause-kept
returns-in-Some-clause-kept c = kept_under c.add.result c.args.self.now c.add.new.self c.in-Some.mark c.args.key.now c.add.ensures.ok c.add.ensures.err
