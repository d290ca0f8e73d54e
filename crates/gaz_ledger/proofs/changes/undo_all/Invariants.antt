-- What is left to undo is where the ledger's keys were touched, and the views so far stay.
use Rattle.std.proofs.Common.{◌≡◌, ◌≤◌, ℕ, vec_len}
use Rattle.gaz_standing.specs.KeyHistories.{view_at}
use Rattle.gaz_ledger.specs.Ledgers.{IsLedger}
use Rattle.gaz_ledger.proofs.changes.undo_all.Given as goal

abbrev pub invariant-loop-key : goal.invariant-loop-key
invariant-loop-key l = record {
  ledger : IsLedger l.reached l.histories l.index l.touched.items;
  past : (volume : ℕ) → volume ≤ l.reached → view_at l.histories volume ≡ view_at l.initial.histories volume;
}

abbrev pub decreases-loop-key : goal.decreases-loop-key
decreases-loop-key l = vec_len l.touched
