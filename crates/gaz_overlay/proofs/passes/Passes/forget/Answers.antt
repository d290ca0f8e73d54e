use Rattle.gaz_overlay.proofs.PassedTree.{gone_at}
use Rattle.gaz_overlay.proofs.passes.Passes.forget.Goals as goal

pub returns : goal.returns
returns c = gone_at c.args.self.now c.self.inside.by_uprn.entries c.remove.new.self.entries c.args.uprn c.self.view_is c.remove.ensures.updates.0
