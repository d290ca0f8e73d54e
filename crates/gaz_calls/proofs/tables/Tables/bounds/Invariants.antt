use Rattle.std.proofs.Common.{◌≤◌, ◌<◌, ◌-◌, Ok}
use Rattle.gaz_calls.specs.Asking.{AsksTables}
use Rattle.gaz_calls.proofs.Halving.{AtLeast}
use Rattle.gaz_calls.proofs.tables.Tables.bounds.Given as goal

abbrev pub invariant-loop-next : goal.invariant-loop-next
invariant-loop-next g l = record {
  asks : AsksTables l.fn.self l.self (Ok tt) (AtLeast l.code l.reached);
  order : l.reached < l.next;
  last : l.reached ≤ 999_999;
}

abbrev pub decreases-loop-next : goal.decreases-loop-next
decreases-loop-next g l = 1_000_000 - l.next
