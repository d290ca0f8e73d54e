use Rattle.gaz_overlay.proofs.Kept.{gone_at}
use Rattle.gaz_overlay.proofs.touches.Touches.forget.Goals as goal

pub returns : goal.returns
returns c = gone_at c.args.self.now c.self.inside.by_key.entries c.remove.new.self.entries c.args.key.now c.self.view_is c.remove.ensures.updates.0
