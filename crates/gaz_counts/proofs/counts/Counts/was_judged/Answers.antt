use Rattle.gaz_counts.specs.Counts.{OneJudged}
use Rattle.gaz_counts.proofs.Noting.{recounts_noted}
use Rattle.gaz_counts.proofs.counts.Counts.was_judged.Goals as goal

pub returns-in-Some-one_judged : goal.returns-in-Some-one_judged
returns-in-Some-one_judged c =
    recounts_noted c.args.self.now c.note.new.self c.args.code OneJudged c.in-Some.was c.in-Some-one_judged.now c.in-Some.ensures c.in-Some-one_judged.ensures c.note.ensures
