use Rattle.std.proofs.Common.{◌∙◌}
use Rattle.gaz_records.proofs.KeyOrder.{keys_same}
use Rattle.gaz_standing.proofs.KeySets.{added}
use Rattle.gaz_overlay.proofs.Questions.{added_next}
use Rattle.gaz_overlay.proofs.merging.add_all.Goals as goal

pub loop-key-preserved : goal.loop-key-preserved
loop-key-preserved c =
    let old = c.loop-key.set.keys in
    let new = c.insert.new.self.keys in
    let key = c.key-item.result in
    λ k. added_next old new c.args.keys.now c.loop-key.key-index key c.loop-key-test.true c.key-item.is k (added keys_same old new key c.in_ok-insert.ensures.updates.0 k) ∙ c.loop-key.invariant k
