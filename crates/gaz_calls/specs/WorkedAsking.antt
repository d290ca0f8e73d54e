-- Worked examples on why a call that asks the tables fails, and on what is at hand.
use Rattle.std.specs.Prelude.{◌≡◌, ◌-◌, ◌^◌, ℕ, pos, false, true, List, [], ◌∷◌}
use Rattle.std.specs.Prelude.{Option, None, Some, Ok, Err}
use Rattle.sqlite.specs.Effect.{Database}
use Rattle.sqlite.specs.Order.{Row}
use Rattle.sqlite.specs.State.{State}
use Rattle.sqlite.specs.declared.error.Error.TheVariants.{QueryReturnedNoRows, SqliteFailure}
use Rattle.sqlite.specs.declared.error.ErrorCode.TheVariants.{OutOfMemory}
use Rattle.sqlite_trees.specs.Tree.{no_trees}
use Rattle.gaz_keeper.specs.declared.fault.ShelfFault.TheVariants.{Memory, Store}
use Rattle.gaz_sql_facts.specs.Reasons.{HasReason, IsHindered}
use Rattle.gaz_tables.specs.Schema.{store_schema}
use Rattle.gaz_counts.specs.declared.at_hand.AtHand.{AtHand}
use Rattle.gaz_counts.specs.declared.counts.Counts.{Counts}
use Rattle.gaz_kept.specs.Examples.{six_files}
use Rattle.gaz_kept.specs.Kept.{IsKept}
use Rattle.gaz_calls.specs.Asking.{IsNoFailure, IsServed, failure_behind}
use Rattle.gaz_calls.specs.Remembered.{AreSo, IsSo}
use Rattle.gaz_calls.specs.Seen.{IsQuiet}

-- an open connection over a database, of which the disk returned what was written and has failed so
-- often
abbrev pub failed_over : Database → ℕ → State
failed_over db n = record {
  now = db;
  committed = db;
  in_transaction = false;
  marks = [];
  is_open = true;
  is_clean = true;
  faults = n;
  blamed = None;
  changes = 0;
  last_rowid = pos 0;
  step_limit = None;
  may_leave = λ _. ⊥;
  IsShielded = ⊥;
}

-- over a store's tables, without a row
abbrev pub failed_times : ℕ → State
failed_times = failed_over (record { schema = store_schema; trees = no_trees })

abbrev pub shut : State
shut = record (failed_times 2) { is_open = false }

abbrev pub limited : State
limited = record (failed_times 2) { step_limit = Some 100 }

-- the count is at its last value, and can tell no failure
abbrev pub full : State
full = failed_times (2 ^ 64 - 1)

-- four volumes of a custodian are judged, and so many files wait above them
abbrev pub four : Option ℕ → AtHand
four held = record { reached = 4; held = held }

-- what is at hand of custodian 1001 alone is so of the rows
abbrev pub AreSoOf : AtHand → Type 0
AreSoOf h =
    (at_hand : Counts) → at_hand.by_code.entries ≡ (1001, h) ∷ [] → AreSo at_hand six_files

pub record WorkedHand : Type 0 where
  pub so : AreSoOf (four (Some 1))
  pub uncounted : AreSoOf (four None)
  pub miscounted : ¬ IsSo six_files 1001 (four (Some 2))
  pub of_another : ¬ IsSo six_files 1002 (four None)
  pub of_nobody : (files : List Row) (at_hand : Counts) → at_hand.by_code.entries ≡ []
      → AreSo at_hand files

pub record WorkedAsking : Type 0 where
  -- failures that came before a call hinder nothing
  pub earlier : ¬ IsHindered (failed_times 2) (failed_times 2)
  pub failed : IsHindered (failed_times 2) (failed_times 3)
  pub was_shut : IsHindered shut shut
  pub was_limited : IsHindered limited limited
  pub wants : HasReason (failed_times 2) (failed_times 2) (SqliteFailure OutOfMemory)
  pub none : ¬ HasReason (failed_times 2) (failed_times 2) QueryReturnedNoRows
  pub quiet : IsQuiet (failed_times 2) (failed_times 2)
  pub not_while_failing : ¬ IsQuiet (failed_times 2) (failed_times 3)
  pub not_shut : ¬ IsQuiet (failed_times 2) shut
  pub not_limited : ¬ IsQuiet limited limited
  pub not_full : ¬ IsQuiet full full
  pub answered : IsNoFailure {T = ℕ} (Ok 7)
  pub told_want : IsNoFailure {T = ℕ} (Err Memory)
  pub told_failure : ¬ IsNoFailure {T = ℕ} (Err Store)
  pub counted : failure_behind 2 ≡ Store
  pub past_counting : failure_behind (2 ^ 64 - 1) ≡ Memory
  -- a failure may be told where one came, and of a store's tables not else
  pub may_fail : (db : Database)
      → IsServed {T = ℕ} (failed_over db 2) (failed_over db 3) (Err Store)
  pub may_not : (db : Database) → IsKept db
      → ¬ IsServed {T = ℕ} (failed_over db 2) (failed_over db 2) (Err Store)
  pub at_hand : WorkedHand
