use Rattle.gaz_counts.proofs.Noting.{notes_either}
use Rattle.gaz_counts.proofs.counts.Counts.note.Goals as goal

pub returns : goal.returns
returns c = notes_either c.args.self.now (record { by_code = c.insert.new.self }) c.args.code c.args.at_hand c.insert.result c.insert.ensures.updates c.insert.ensures.absent c.insert.ensures.err
