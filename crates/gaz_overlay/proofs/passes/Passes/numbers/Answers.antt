use Rattle.std.proofs.Common.{◌∙◌}
use Rattle.gaz_overlay.proofs.PassedTree.{numbers_in_order}
use Rattle.gaz_overlay.proofs.passes.Passes.numbers.Goals as goal

pub returns : goal.returns
returns c = c.in_ok-numbers_of.ensures ∙ numbers_in_order c.args.self.now c.self.inside.by_uprn.entries c.self.view_is c.in_order.ensures
