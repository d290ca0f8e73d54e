-- The numbers so far and those that are left are all.
use Rattle.std.proofs.Common.{◌≡◌, ◌++◌}
use Rattle.std.specs.BTreeMap.{keys}
use Rattle.gaz_overlay.proofs.passes.numbers_of.Given as goal

abbrev pub invariant-loop-uprn : goal.invariant-loop-uprn
invariant-loop-uprn l = l.found.items ++ l.uprn-iterator ≡ keys l.by_uprn
