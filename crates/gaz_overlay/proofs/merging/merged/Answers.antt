use Rattle.std.proofs.Common.{◌∙◌}
use Rattle.gaz_overlay.proofs.Questions.{in_turn}
use Rattle.gaz_overlay.proofs.merging.merged.Goals as goal

pub returns : goal.returns
returns c =
    c.in_ok-listed.ensures
    ∙ in_turn c.new-keys.result.keys c.add_all.new.set.keys c.add_all-2.new.set.keys c.args.first.now c.args.second.now c.new-keys.ensures.empty c.in_ok-add_all.ensures c.in_ok-add_all-2.ensures c.stand_in_order.ensures
