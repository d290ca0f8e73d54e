-- What a crash may leave is a store's again.
use Rattle.std.proofs.Common.{◌≡◌, ℕ, List, inl, inr, arith}
use Rattle.sqlite.specs.Effect.{Database}
use Rattle.sqlite.specs.State.{State, Survives}
use Rattle.sqlite_trees.specs.Tree.{Trees}
use Rattle.gaz_sql_facts.specs.Changes.{AreTreesOf}
use Rattle.gaz_tables.specs.Schema.{meta}
use Rattle.gaz_tables.specs.Tables.{rows_of}
use Rattle.gaz_kept.specs.Kept.{IsKept}
use Rattle.gaz_kept.specs.Opening.{IsOf}
use Rattle.gaz_calls.specs.Seen.{IsKeptOf, LeavesKept}

-- the trees of a store of a register are those of one
pub kept_of : (register : List ℕ) (db : Database) (trees : Trees) → trees ≡ db.trees → IsKept db → IsOf register (rows_of db meta) → AreTreesOf (IsKeptOf register) trees
kept_of register db trees shown kept whose = (db, shown, record { kept = kept; whose = whose })

module _ (register : List ℕ) (old new : State) where
  -- after a call that commits at most what is a store's
  pub whole_then : (Commits : Trees → Type 0) → Survives old new Commits → ((trees : Trees) → Commits trees → AreTreesOf (IsKeptOf register) trees) → LeavesKept register old → LeavesKept register new
  whole_then Commits s made whole trees clean left = elim (s.crash clean trees left) [
    | inl was ↦ whole trees (omega (arith, s.clean, clean)) was
    | inr commits ↦ made trees commits
  ]

  -- after one that commits nothing
  pub whole_still : Survives old new (λ _. ⊥) → LeavesKept register old → LeavesKept register new
  whole_still s = whole_then (λ _. ⊥) s (λ trees never. absurd never)
