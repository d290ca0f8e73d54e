use Rattle.gaz_counts.specs.Counts.{OneMore}
use Rattle.gaz_counts.proofs.Noting.{recounts_noted}
use Rattle.gaz_counts.proofs.counts.Counts.has_come.Goals as goal

pub returns : goal.returns
returns c = recounts_noted c.args.self.now c.note.new.self c.args.code OneMore c.in-Some.was c.one_more.result (c.in-Some.ensures) c.one_more.ensures c.note.ensures
