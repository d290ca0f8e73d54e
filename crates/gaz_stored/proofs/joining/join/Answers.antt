-- Both are idle.
use Rattle.gaz_stored.proofs.joining.join.Goals as goal

pub with-requires-clause-lower : goal.with-requires-clause-lower
with-requires-clause-lower g c = (c.requires _ c.in-Some.is).0
