-- Worked examples, computed from the definitions.
use Rattle.std.specs.Prelude.{◌≡◌, codes, ℕ, [], ◌∷◌, Some, None, Ok, Err}
use Rattle.std.specs.FinMap as map
use Rattle.sqlite.specs.Effect.{Database}
use Rattle.sqlite_trees.specs.Tree.{no_trees, with_tree}
use Rattle.gaz_views.specs.declared.verdict.Verdict.TheVariants.{Rejected}
use Rattle.gaz_keeper.specs.Board.{reached, verdict_on}
use Rattle.gaz_keeper.specs.Examples.{kept_safe}
use Rattle.gaz_keeper.specs.Keeper.{empty_content}
use Rattle.gaz_keeper.specs.declared.shelf.Shelf.{Ghosts}
use Rattle.gaz_tables.specs.Schema.{receiveds, store_schema, versions}
use Rattle.gaz_row_items.specs.Examples.{four_rows}
use Rattle.gaz_kept.specs.Examples.{six_files}
use Rattle.gaz_kept.specs.declared.refusal.StoreRefusal.TheVariants.{BadSchema, Fault}
use Rattle.gaz_kept.specs.declared.refusal.StoreRefusal.TheVariants.{OtherRegister}
use Rattle.gaz_steps.specs.Step.{Command, HubState, Submit}
use Rattle.gaz_commands.specs.declared.said.Said.{Said}
use Rattle.gaz_stored.specs.Announcing.{IsAnnounced, listening}
use Rattle.gaz_stored.specs.Meetings.{Missed}
use Rattle.gaz_stored.specs.Reopening.{OpensOrFails}
use Rattle.gaz_stored.specs.Runs.{hub_in}
use Rattle.gaz_stored.specs.Ways.{Asks, Attends}
use Rattle.gaz_stored.specs.declared.attending.Unserved.TheVariants.{NoPort}

-- a store without a register, and one where four volumes of 1001 are judged and its sixth is held
abbrev pub bare_database : Database
bare_database = record { schema = store_schema; trees = no_trees }

abbrev pub worked_database : Database
worked_database = record {
  schema = store_schema;
  trees = with_tree (with_tree no_trees versions four_rows) receiveds six_files;
}

abbrev pub worked_hub : HubState
worked_hub = hub_in worked_database

pub record WorkedHub : Type 0 where
  pub nothing_yet : map.get (hub_in bare_database).received (1001, 1) ≡ None
  pub held : map.get worked_hub.received (1001, 6) ≡ Some (codes "sixth")
  pub not_received : map.get worked_hub.received (1001, 5) ≡ None
  pub reached : reached worked_hub.board 1001 ≡ 4
  pub rejected : verdict_on worked_hub.board 1001 3 ≡ Some (Rejected 5 21)

-- 1001 sends its first volume
abbrev pub sends : Command
sends = Submit 1001 1 (codes "first")

pub record WorkedOpenings : Type 0 where
  pub opens : OpensOrFails (Ok tt)
  pub fails : OpensOrFails (Err Fault)
  pub no_store : ¬ OpensOrFails (Err BadSchema)
  pub another : ¬ OpensOrFails (Err OtherRegister)

abbrev pub no_keeper : Ghosts (Unit {0})
no_keeper = record { seen = λ k. kept_safe empty_content }

-- over a keeper that is nothing: what is said at once asks nothing, a command that is asked is
-- among the commands, and nobody comes where there is no port
pub record WorkedWays : Type 0 where
  pub at_once : (said : Said) → Asks {K = Unit {0}} [] (Err said) said tt tt [] []
  pub one_asked : (said : Said) → ¬ Asks {K = Unit {0}} [] (Err said) said tt tt (sends ∷ []) []
  pub none_asked : (said : Said) → ¬ Asks {K = Unit {0}} [] (Ok sends) said tt tt [] []
  pub nobody : Attends no_keeper [] 1 (Err NoPort) [] tt tt [] []
  pub somebody : ¬ Attends no_keeper [] 1 (Err NoPort) (Missed ∷ []) tt tt [] []

-- what is written before connections are answered, by a writer that held nothing
pub record WorkedAnnouncing : Type 0 where
  pub line : listening 8080 ≡ codes "listening 127.0.0.1:8080\n"
  pub says : IsAnnounced {N = ℕ} (Some 8080) (Some [])
      (Some (codes "listening 127.0.0.1:8080\n")) (Ok (Ok 1))
  pub nowhere : ¬ IsAnnounced {N = ℕ} None (Some []) (Some (listening 8080)) (Ok (Ok 1))
  pub no_port : IsAnnounced {N = ℕ} None (Some []) (Some []) (Ok (Err NoPort))
  -- nobody is answered who wasn't told where, and a port that was had is told
  pub not_silent : ¬ IsAnnounced {N = ℕ} (Some 8080) (Some []) (Some []) (Ok (Ok 1))
  pub had_port : ¬ IsAnnounced {N = ℕ} (Some 8080) (Some []) (Some []) (Ok (Err NoPort))
  -- nothing is told where there is no hub
  pub no_hub : IsAnnounced {N = ℕ} (Some 8080) (Some []) (Some []) (Err Fault)
  pub told_too_soon : ¬ IsAnnounced {N = ℕ} (Some 8080) (Some []) (Some (listening 8080))
      (Err Fault)

pub record WorkedExamples : Type 0 where
  pub on_hubs : WorkedHub
  pub on_openings : WorkedOpenings
  pub on_ways : WorkedWays
  pub on_announcing : WorkedAnnouncing
