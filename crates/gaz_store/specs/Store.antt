-- A store as it is seen: its tables, and a judgement beside them.
use Rattle.std.specs.Prelude.{◌≡◌, ◌≢◌, ◌-◌, ◌^◌, ◌==◌, ⊤, ℕ, List}
use Rattle.sqlite.specs.Effect.{Database}
use Rattle.sqlite.specs.Held.{state}
use Rattle.sqlite.specs.State.{HasCleanDisk, State}
use Rattle.sqlite_trees.specs.declared.store.Store.{Ghosts}
use Rattle.gaz_views.specs.View.{View, empty_view}
use Rattle.gaz_keeper.specs.Keeper as keeper
use Rattle.gaz_keeper.specs.Keeper.{IsAtHand, Progress, Seen}
use Rattle.gaz_overlay.specs.Laid.{laid}
use Rattle.gaz_kept.specs.Contents.{content_in}
use Rattle.gaz_kept.specs.LastViews.{last_in}
use Rattle.gaz_counts.specs.declared.counts.Counts.{Counts}
use Rattle.gaz_calls.specs.Seen.{IsUnharmed, LeavesKept, MayLeave, StandsFor, full_at, left_lawful}
use Rattle.gaz_store.specs.Beside.{Beside, Makes}
use Rattle.gaz_store.specs.declared.judgement.Judgement.{Judgement}
use Rattle.gaz_store.specs.declared.progress.Judging.{Judging}
use Rattle.gaz_store.specs.declared.progress.Judging.TheVariants.{Idle, Open, Broken}
use Rattle.gaz_store.specs.declared.store.Store.{Store}

-- ---- the judgement

-- a broken judgement is cleared
abbrev pub cleared : Judging → Judging
cleared Idle = Idle
cleared (Open j) = Open j
cleared Broken = Idle

-- no judgement of this custodian is in progress
abbrev pub IsElsewhere : Judging → ℕ → Type 0
IsElsewhere Idle c = ⊤
IsElsewhere (Open j) c = j.code ≢ c
IsElsewhere Broken c = ⊤

abbrev pub progress_of : Judging → Progress
progress_of Idle = keeper.Idle
progress_of (Open j) = keeper.Open j.code
progress_of Broken = keeper.Broken

-- the view that it has made of its custodian's last
abbrev pub view_made : Database → Judgement → View
view_made db j = laid (last_in db j.code) j.changes.view

-- the working view, which is the empty one unless a judgement is open
abbrev pub working_of : Database → Judging → View
working_of db Idle = empty_view
working_of db (Open j) = view_made db j
working_of db Broken = empty_view

-- a judgement is of a volume that is at hand, and its changes make that view
pub record IsUnderWay (db : Database) (j : Judgement) : Type 0 where
  pub at_hand : IsAtHand (content_in db empty_view) j.code
  pub makes : Makes db j (view_made db j)

abbrev pub StandsBeside : Database → Judging → Type 0
StandsBeside db Idle = ⊤
StandsBeside db (Open j) = IsUnderWay db j
StandsBeside db Broken = ⊤

-- this holds of a custodian's view: of the working one where its volume is judged, else of its last
abbrev pub IsOfView : Database → Judging → ℕ → (View → Type 0) → Type 0
IsOfView db Idle c IsSo = IsSo (last_in db c)
IsOfView db (Open j) c IsSo = (j.code ≡ c → Beside db j IsSo) × (j.code ≢ c → IsSo (last_in db c))
IsOfView db Broken c IsSo = IsSo (last_in db c)

-- ---- the store

-- the tables are a store's of this register, and so is what stands beside them
pub record StoreStands (register : List ℕ) (s : State) (at_hand : Counts) (judging : Judging)
    : Type 0 where
  pub tables : StandsFor register s at_hand (working_of s.now judging)
  pub beside : StandsBeside s.now judging

abbrev pub seen_beside : List ℕ → State → Counts → Judging → ℕ → Seen
seen_beside register s at_hand judging failures = record {
  content = content_in s.now (working_of s.now judging);
  stands = StoreStands register s at_hand judging;
  lawful = λ stood. stood.tables.lawful;
  trusted = HasCleanDisk s;
  unharmed = IsUnharmed s;
  progress = progress_of judging;
  failures = failures;
  is_full = failures == 2 ^ 64 - 1;
  full = full_at failures;
  leaves = MayLeave s;
  whole = LeavesKept register s;
  left_lawful = left_lawful register s;
}

-- a store, seen as one of the register of this text
abbrev pub seen_in : {S R : Type 0} → {store : Ghosts S} → List ℕ → Store S R store → Seen
seen_in {S} {R} {store} register t =
    seen_beside register (state store t.tables.conn) t.tables.at_hand t.judging t.tables.failures
