use Rattle.std.proofs.Common.{◌∙◌, ◌+◌, sym, arith}
use Rattle.std.specs.BTreeMap.{keys}
use Rattle.gaz_shelf.proofs.Counting.{counted_between, is_itself, none_between}
use Rattle.gaz_shelf.proofs.files.count_between.Goals as goal

pub returns-then-number-reached : goal.returns-then-number-reached
returns-then-number-reached c = sym (none_between c.args.code c.args.reached c.args.highest (omega (arith, c.number.ensures.value, c.if-number-reached.true)) (keys c.args.by_pair.now))

pub returns : goal.returns
returns c = c.count_from.ensures ∙ counted_between c.args.code c.args.reached c.in-Some.first c.args.highest c.args.by_pair.now.entries (is_itself _ _ (c.args.reached + 1) c.in-Some.first (sym c.of.ensures ∙ c.in-Some.is))
