-- One custodian after another.
use Rattle.std.proofs.Common.{◌∙◌, refl}
use Rattle.gaz_loaded.proofs.loading.bring_to_hand.Goals as goal

pub loop-code-init : goal.loop-code-init
loop-code-init c = record { same = refl; idle = c.requires }

pub loop-code-preserved : goal.loop-code-preserved
loop-code-preserved c = record {
  same = c.bring_to_hand.ensures.same ∙ c.loop-code.invariant.same;
  idle = c.bring_to_hand.ensures.idle;
}
