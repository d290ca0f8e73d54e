use Rattle.std.proofs.Common.{refl}
use Rattle.gaz_standing.proofs.KeySets.{two}
use Rattle.gaz_standing.proofs.tied.both_of.Goals as goal

pub returns : goal.returns
returns c =
    two (λ a b. refl) c.new-both.result.keys c.insert.new.self.keys c.insert-2.new.self.keys c.args.one c.args.other c.new-both.ensures.empty c.in_ok-insert.ensures.updates.0 c.in_ok-insert-2.ensures.updates.0
