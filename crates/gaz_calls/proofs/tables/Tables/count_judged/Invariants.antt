use Rattle.std.proofs.Common.{◌≤◌, ◌<◌, ◌-◌, Ok}
use Rattle.gaz_calls.specs.Asking.{AsksTables}
use Rattle.gaz_calls.proofs.Halving.{Between}
use Rattle.gaz_calls.proofs.tables.Tables.count_judged.Given as goal

abbrev pub invariant-loop-reached : goal.invariant-loop-reached
invariant-loop-reached g l = record {
  asks : AsksTables l.fn.self l.self (Ok tt) (Between l.code l.reached l.beyond);
  order : l.reached < l.beyond;
  last : l.beyond ≤ 1000000;
}

abbrev pub decreases-loop-reached : goal.decreases-loop-reached
decreases-loop-reached g l = l.beyond - l.reached
