use Rattle.gaz_records.proofs.KeyOrder.{keys_same}
use Rattle.gaz_standing.proofs.KeySets.{two}
use Rattle.gaz_standing.proofs.keys.both_of.Goals as goal

pub returns : goal.returns
returns c =
    two keys_same c.new-both.result.keys c.insert.new.self.keys c.insert-2.new.self.keys c.args.one c.args.other c.new-both.ensures.empty c.in_ok-insert.ensures.updates.0 c.in_ok-insert-2.ensures.updates.0
