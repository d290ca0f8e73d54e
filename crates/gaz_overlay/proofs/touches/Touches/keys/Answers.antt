use Rattle.std.proofs.Common.{◌∙◌}
use Rattle.gaz_overlay.proofs.Kept.{keys_in_order}
use Rattle.gaz_overlay.proofs.touches.Touches.keys.Goals as goal

pub returns : goal.returns
returns c = c.in_ok-keys_of.ensures ∙ keys_in_order c.args.self.now c.self.inside.by_key.entries c.self.view_is c.in_order.ensures
