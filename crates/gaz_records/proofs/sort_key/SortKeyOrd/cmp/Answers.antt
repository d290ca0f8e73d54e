use Rattle.gaz_records.proofs.SortOrder.{sorts_as}
use Rattle.gaz_records.proofs.sort_key.SortKeyOrd.cmp.Goals as goal

pub returns : goal.returns
returns c =
    rw (c.then.ensures, c.cmp.ensures, c.cmp-2.ensures, ← c.self.view_is, ← c.other.view_is)
    (sorts_as c.self.inside.high c.self.inside.low c.other.inside.high c.other.inside.low c.self.invariant c.other.invariant)
