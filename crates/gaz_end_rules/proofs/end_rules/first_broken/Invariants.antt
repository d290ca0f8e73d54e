-- What is left has the first broken rule of all.
use Rattle.std.proofs.Common.{◌≡◌, drop}
use Rattle.gaz_end_rules.specs.Breaches.{answers}
use Rattle.gaz_changefile.specs.Rules.{first_broken}
use Rattle.gaz_end_rules.proofs.end_rules.first_broken.Given as goal

abbrev pub invariant-loop-asked : goal.invariant-loop-asked
invariant-loop-asked l = first_broken (answers (drop l.asked-index l.rules)) ≡ first_broken (answers l.rules)
