use Rattle.std.proofs.Common.{◌∙◌}
use Rattle.gaz_overlay.proofs.Kept.{found}
use Rattle.gaz_overlay.proofs.touches.Touches.get.Goals as goal

pub returns : goal.returns
returns c = c.get.ensures.value ∙ found c.args.self.now c.self.inside.by_key.entries c.args.key.now c.self.view_is
