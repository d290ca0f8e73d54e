-- What creation, a file and a rejection make of what the tables stand for.
use Rattle.std.specs.Prelude.{◌≡◌, ◌≤◌, ◌+◌, ℕ, pos, List}
use Rattle.sqlite.specs.Effect.{Database}
use Rattle.gaz_ids.specs.Limits.{last_volume}
use Rattle.gaz_views.specs.View.{View, empty_view}
use Rattle.gaz_keeper.specs.Keeper.{Content, IsAtHand, IsNew, after_skip, empty_content}
use Rattle.gaz_keeper.specs.Keeper.{with_received}
use Rattle.gaz_tables.specs.Creating.{IsNewStore}
use Rattle.gaz_tables.specs.Receiveds.{Rejects, unjudged}
use Rattle.gaz_tables.specs.Schema.{received}
use Rattle.gaz_tables.specs.Stores.{AddsRow, ChangesTable}
use Rattle.gaz_tables.specs.Tables.{rows_of}
use Rattle.gaz_kept.specs.Contents.{content_in}
use Rattle.gaz_kept.specs.Files.{reached_in}
use Rattle.gaz_kept.specs.Kept.{IsKept}

-- the tables are those of a store, and stand for this content
pub record Stands (db : Database) (working : View) (k : Content) : Type 0 where
  pub kept : IsKept db
  pub content : content_in db working ≡ k

-- a new store stands for nothing received and nothing judged
abbrev pub CreateStands : Type 0
CreateStands = (number : ℕ) (register : List ℕ) (old db : Database)
    → IsNewStore number register old db → Stands db empty_view empty_content

-- a file that is new is received
abbrev pub ReceiveStands : Type 0
ReceiveStands = (c volume : ℕ) (bytes : List ℕ) (working : View) (old new : Database)
    → 1 ≤ volume → volume ≤ last_volume
    → IsKept old → IsNew (content_in old working) c volume
    → ChangesTable received (AddsRow (unjudged c volume bytes)) old new
    → Stands new working (with_received (content_in old working) c volume bytes)

-- a custodian's next volume
abbrev pub next_in : Database → ℕ → ℕ
next_in db c = reached_in (rows_of db received) c + 1

-- a custodian's next volume is rejected, where it is at hand
abbrev pub SkipStands : Type 0
SkipStands = (c place rule : ℕ) (working : View) (old new : Database) → rule ≤ 255
    → IsKept old → IsAtHand (content_in old working) c
    → ChangesTable received (Rejects c (next_in old c) (pos place) rule) old new
    → Stands new empty_view (after_skip (content_in old working) c place rule)

pub record TablesStand : Type 0 where
  pub create : CreateStands
  pub receive : ReceiveStands
  pub skip : SkipStands
