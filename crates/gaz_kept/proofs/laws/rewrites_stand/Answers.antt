use Rattle.gaz_kept.proofs.Rewritten.{rewrites_stand}
use Rattle.gaz_kept.proofs.laws.rewrites_stand.Goals as goal

pub returns : goal.returns
returns c = rewrites_stand
