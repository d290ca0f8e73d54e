use Rattle.std.proofs.Common.{◌∙◌}
use Rattle.gaz_mirror.proofs.Ahead.{closed}
use Rattle.gaz_mirror.proofs.mirror.Mirror.settle.Goals as goal

pub invariant_of-self-in_default-copy : goal.invariant_of-self-in_default-copy
invariant_of-self-in_default-copy g c =
    let m = c.args.self.now in
    record {
      in_step = λ none. m.in_step (c.in-Some.is ∙ none);
      at_hand = λ x is. m.at_hand x (c.in-Some.is ∙ is);
      ahead = λ x is. m.ahead x (c.in-Some.is ∙ is);
    }

pub hand_to-requires : goal.hand_to-requires
hand_to-requires g c = closed c.args.self.now c.in-Some.gathered c.in-Some.is
