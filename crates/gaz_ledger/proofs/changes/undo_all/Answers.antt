use Rattle.std.proofs.Common.{◌+◌, ◌∙◌, arith}
use Rattle.gaz_standing.proofs.KeyHistories.{past_view}
use Rattle.gaz_standing.proofs.Versions.{until_before}
use Rattle.gaz_standing.specs.KeyHistories.{versions_at}
use Rattle.gaz_ledger.proofs.Ledgers.{ledger_cut}
use Rattle.gaz_ledger.proofs.changes.undo_all.Goals as goal

pub loop-key-preserved : goal.loop-key-preserved
loop-key-preserved c =
    let g = c.loop-key.histories in
    let h = c.undo_key.new.histories in
    let was = c.loop-key.invariant.ledger in
    record {
      ledger = ledger_cut c.args.reached g h c.loop-key.index c.undo_key.new.index c.loop-key.touched.items c.pop.new.self.items c.in-Some.key was (c.undo_key.ensures.finds was.finds) c.in-Some.ensures.items c.undo_key.ensures.change;
      past = λ v le. past_view g h c.in-Some.key _ c.undo_key.ensures.change v (until_before (versions_at g c.in-Some.key) (c.args.reached + 1) v (omega arith)) ∙ c.loop-key.invariant.past v le;
    }
