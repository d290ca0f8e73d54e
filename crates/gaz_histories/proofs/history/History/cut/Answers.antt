use Rattle.std.proofs.Common.{sym, subst}
use Rattle.gaz_histories.specs.Histories.{Ascends}
use Rattle.gaz_histories.specs.Kept.{versions_in}
use Rattle.gaz_histories.proofs.Searches.{before_ascends}
use Rattle.gaz_histories.proofs.history.History.cut.Goals as goal

pub invariant_of-self : goal.invariant_of-self
invariant_of-self g c = subst Ascends (sym c.cut.ensures) (before_ascends (versions_in c.self.inside.kept) c.args.volume c.self.invariant)
