use Rattle.gaz_overlay.proofs.PassedTree.{set_at}
use Rattle.gaz_overlay.proofs.passes.Passes.add.Goals as goal

pub returns-clause-ok : goal.returns-clause-ok
returns-clause-ok c =
    set_at c.args.self.now c.self.inside.by_uprn.entries c.insert.new.self.entries c.args.uprn c.args.since c.self.view_is c.in_ok-insert.ensures.updates.0
