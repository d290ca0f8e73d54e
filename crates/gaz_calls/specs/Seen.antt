-- What the tables of a store stand for, and what a crash may leave of them.
use Rattle.std.specs.Prelude.{◌≡◌, ◌≤◌, ◌-◌, ◌^◌, ◌==◌, ℕ, List, None, true, IsTrue}
use Rattle.std.proofs.Common.{eqb-true, le_of_eq, subst, sym}
use Rattle.sqlite_disk.specs.Disk.{MoreFaults}
use Rattle.sqlite_trees.specs.Tree.{Trees}
use Rattle.sqlite.specs.Effect.{Database, IsDatabase}
use Rattle.sqlite.specs.State.{HasCleanDisk, State}
use Rattle.gaz_views.proofs.Lawful.{lawful_empty}
use Rattle.gaz_views.specs.View.{View, empty_view}
use Rattle.gaz_keeper.specs.Keeper.{Content, IsLawful}
use Rattle.gaz_sql_facts.specs.Changes.{AreTreesOf}
use Rattle.gaz_tables.specs.Schema.{meta, received}
use Rattle.gaz_tables.specs.Tables.{rows_of}
use Rattle.gaz_kept.specs.Contents.{content_in}
use Rattle.gaz_kept.specs.Kept.{IsKept}
use Rattle.gaz_kept.specs.Opening.{IsOf}
use Rattle.gaz_kept.proofs.LawfulViews.{content_lawful}
use Rattle.gaz_kept.proofs.SameTrees.{same_kept, same_rows}
use Rattle.gaz_calls.specs.Remembered.{AreSo}
use Rattle.gaz_counts.specs.declared.counts.Counts.{Counts}

-- the tables are those of a store of this register, what is at hand is so of them, and what they
-- stand for is lawful
pub record StandsFor (register : List ℕ) (s : State) (at_hand : Counts) (working : View)
    : Type 0 where
  pub kept : IsKept s.now
  pub whose : IsOf register (rows_of s.now meta)
  pub so : AreSo at_hand (rows_of s.now received)
  pub lawful : IsLawful (content_in s.now working)

-- the disk returned what was written, and nothing has shut the connection
pub record IsUnharmed (s : State) : Type 0 where
  pub clean : HasCleanDisk s
  pub is_open : IsTrue s.is_open

-- nothing failed meanwhile of what it stands on: no failure of the disk was counted, and one could
-- have been, nobody shut the connection, and its steps aren't limited
pub record IsQuiet (old new : State) : Type 0 where
  pub unharmed : IsUnharmed new
  pub faultless : ¬ MoreFaults old.faults new.faults
  pub unlimited : new.step_limit ≡ None

-- what a crash may leave: what a sound database stands for whose trees it may leave, said of a disk
-- that returns what was written
pub record MayLeave (s : State) (k : Content) : Type 0 where
  pub clean : HasCleanDisk s
  pub db : Database
  pub sound : IsDatabase db
  pub left : s.may_leave db.trees
  pub content : k ≡ content_in db empty_view

-- the tables of a database are those of a store of this register
pub record IsKeptOf (register : List ℕ) (db : Database) : Type 0 where
  pub kept : IsKept db
  pub whose : IsOf register (rows_of db meta)

-- what a crash may leave are the trees of a store of this register, said of such a disk
abbrev pub LeavesKept : List ℕ → State → Type 0
LeavesKept register s = (trees : Trees) → HasCleanDisk s → s.may_leave trees
    → AreTreesOf (IsKeptOf register) trees

-- so each sound database of these trees is such a store
pub kept_by_trees : (register : List ℕ) (db : Database) → IsDatabase db
    → AreTreesOf (IsKeptOf register) db.trees → IsKeptOf register db
kept_by_trees register db sound are = record {
  kept = same_kept are.0 db are.2.kept sound are.1;
  whose = subst (IsOf register) (sym (same_rows are.0 db are.2.kept sound are.1 meta)) are.2.whose;
}

-- what such databases stand for is lawful
pub left_lawful : (register : List ℕ) (s : State) → LeavesKept register s → (left : Content)
    → MayLeave s left → IsLawful left
left_lawful register s kept left may =
    subst IsLawful (sym may.content) (content_lawful may.db
    (kept_by_trees register may.db may.sound (kept may.db.trees may.clean may.left)).kept
    empty_view lawful_empty)

pub full_at : (failures : ℕ) → (failures == 2 ^ 64 - 1) ≡ true → 2 ^ 64 - 1 ≤ failures
full_at failures full = le_of_eq (sym (eqb-true failures (2 ^ 64 - 1) full))
