use Rattle.std.proofs.Common.{◌∙◌, sym}
use Rattle.gaz_mirror.proofs.Ahead.{closed}
use Rattle.gaz_mirror.proofs.mirror.Mirror.hand_down.Goals as goal

pub hand_to-requires : goal.hand_to-requires
hand_to-requires g c = closed c.args.self.now c.in-Some.gathered (sym c.take.ensures.value ∙ c.in-Some.is)
