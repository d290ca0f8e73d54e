use Rattle.std.proofs.Common.{sym, subst}
use Rattle.gaz_histories.specs.Histories.{Ascends}
use Rattle.gaz_histories.specs.Kept.{versions_in}
use Rattle.gaz_histories.proofs.Searches.{set_ascends}
use Rattle.gaz_histories.proofs.history.History.set.Goals as goal

pub invariant_of-self-2 : goal.invariant_of-self-2
invariant_of-self-2 g c = subst Ascends (sym c.in_ok-put.ensures.ok) (set_ascends (versions_in c.self.inside.kept) c.args.volume c.args.standing c.self.invariant)
