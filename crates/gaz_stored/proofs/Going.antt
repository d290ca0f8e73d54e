-- What a hub did over a store, by a run of its keeper: what the tables stand for, and what a stop leaves.
use Rattle.std.proofs.Common.{◌≡◌, ◌∙◌, inl, inr, ℕ, Bool, true, false, List, ap, refl, subst, sym}
use Rattle.sqlite.specs.Held.{state}
use Rattle.sqlite.specs.State.{HasCleanDisk}
use Rattle.sqlite_trees.specs.declared.store.Store.{Ghosts}
use Rattle.gaz_register.specs.Registers.{RegisterValue, blocks_of}
use Rattle.gaz_register.specs.Texts.{register_text}
use Rattle.gaz_views.specs.View.{empty_view}
use Rattle.gaz_keeper.specs.Keeper.{Content, Seen, after_stop}
use Rattle.gaz_kept.specs.Contents.{content_in}
use Rattle.gaz_calls.specs.Seen.{IsUnharmed, kept_by_trees}
use Rattle.gaz_store.specs.Store.{seen_in}
use Rattle.gaz_store.specs.declared.store.Store.{Store}
use Rattle.gaz_steps.specs.Found.{HasFilesOf}
use Rattle.gaz_steps.specs.Hubs.{AreKnown, Runs, StandsFor, all_declined, door_of, state_of}
use Rattle.gaz_steps.specs.Runs.{Run}
use Rattle.gaz_steps.specs.Standing.{IsPartial}
use Rattle.gaz_steps.specs.Step.{Command, Door, HubState, Response}
use Rattle.gaz_steps.specs.Stops.{IsLeftAfter, StopsRun}
use Rattle.gaz_steps.proofs.Answers.{every_answer_holds}
use Rattle.gaz_steps.proofs.Finding.{every_stop_over, run_known}
use Rattle.gaz_steps.proofs.Receiving.{all_told, run_has_all}
use Rattle.gaz_steps.proofs.Runs.{every_run_from_holds}
use Rattle.gaz_stored.specs.Runs.{GoesOn, Went, WentOn, hub_in}
use Rattle.gaz_stored.specs.Stopping.{FindsLater, RunsCutOff}
use Rattle.gaz_stored.proofs.Cutting.{cut_after, cut_at_once}

-- from a partial board
pub went_by : (register : RegisterValue) (before : HubState) (commands : List Command) (responses : List Response) (after : HubState) → IsPartial (blocks_of register) before.received before.board
    → Run (door_of register) before commands responses after → Went register before commands responses after
went_by register before commands responses after partial run = record {
  run = run;
  abides = every_run_from_holds (door_of register) before after commands responses partial run;
  answers = (every_answer_holds (door_of register) before after commands responses partial run).read_off;
}

module _ {S N : Type 0} {g : Ghosts S} (register : RegisterValue) (first : Store S N g) where
  abbrev as_first : Seen
  as_first = seen_in (register_text register) first

  -- a store stands for this hub
  abbrev pub Begun : HubState → Type 0
  Begun hub = StandsFor (door_of register) as_first × (state_of as_first.content ≡ hub)

  -- and a stop leaves just that, whatever a failure shut
  pub record LeavesHub (hub : HubState) : Type 0 where
    pub left : Content
    pub is_hub : state_of left ≡ hub
    pub only : (k : Content) → as_first.leaves k → k ≡ left
    pub same : IsUnharmed (state g first.tables.conn) → after_stop as_first.content ≡ left
    pub whole : HasCleanDisk (state g first.tables.conn) → as_first.whole
    pub known : AreKnown (door_of register) hub.received

module _ {S N : Type 0} {g : Ghosts S} (register : RegisterValue) (first last : Store S N g) (hub : HubState) (commands : List Command) (responses : List Response) where
  abbrev text : List ℕ
  text = register_text register

  abbrev d : Door
  d = door_of register

  abbrev MakesRun : Type 0
  MakesRun = Runs d (seen_in text first) (seen_in text last) commands responses

  abbrev IsPartly : Type 0
  IsPartly = IsPartial (blocks_of register) hub.received hub.board

  abbrev Begins : Type 0
  Begins = Begun register first hub

  pub goes_on : Begins → MakesRun → IsUnharmed (state g last.tables.conn) → GoesOn register hub commands responses (state g last.tables.conn).now
  goes_on begun runs fine =
      let stands = runs.stands begun.0 fine in
      let run = subst (λ h. Run d h commands responses (hub_in (state g last.tables.conn).now)) begun.1 (runs.run begun.0 fine) in
      let partial = subst (λ (h : HubState). IsPartial (blocks_of register) h.received h.board) begun.1 begun.0.1.partial in
      let went = went_by register hub commands responses (hub_in (state g last.tables.conn).now) partial run in
      record { went = went; store = record { stands = record { kept = stands.0.tables.kept; may = record { known = stands.1.known; partial = went.abides.partial } }; whose = stands.0.tables.whose } }

  -- what is declined leads nowhere, and all else was told of a store that was open
  pub went_on : IsPartly → (IsUnharmed (state g first.tables.conn) → Begins) → MakesRun → HasCleanDisk (state g last.tables.conn) → WentOn register hub commands responses
  went_on partial begun runs clean = by_responses (all_declined responses) refl
    where
      to : (after : HubState) → Run d hub commands responses after → WentOn register hub commands responses
      to after run = record { last = after; went = went_by register hub commands responses after partial run }

      by_responses : (b : Bool) → all_declined responses ≡ b → WentOn register hub commands responses
      by_responses true is = to hub (runs.stays is hub)
      by_responses false is =
          let began = begun (runs.was_open is clean) in
          let reached = runs.reaches began.0 clean in
          to reached.0 (subst (λ h. Run d h commands responses reached.0) began.1 reached.1)

  -- what a stop leaves of it
  module _ (partial : IsPartly) (begun : IsUnharmed (state g first.tables.conn) → Begins) (leaves : LeavesHub register first hub) (runs : MakesRun) where
    stops : StopsRun d (seen_in text first) (seen_in text last) (state_of (seen_in text first).content) (state_of (seen_in text last).content) commands responses
    stops = runs.stops (λ fine. (begun fine).0)

    cut : (k : Content) → (seen_in text last).leaves k → RunsCutOff d hub commands responses (state_of k)
    cut k left = elim (stops.ever k left) [
      | inl before ↦ cut_at_once d hub commands responses (state_of k) (ap state_of (leaves.only k before) ∙ leaves.is_hub)
      | inr made ↦ cut_after d hub commands responses k (subst (λ h. IsLeftAfter d commands responses h k) (begun made.0).1 made.1)
    ]

    -- of all that are received, where the connection is open in the end
    now : (k : Content) → (seen_in text last).leaves k → IsUnharmed (state g last.tables.conn) → HasFilesOf d hub (state_of (seen_in text last).content) commands responses k.files
    now k left fine =
        let early = runs.harm fine in
        let began = begun early in
        let found = every_stop_over (seen_in text) d first last commands responses began.0 (λ k before. leaves.only k before ∙ sym (leaves.same early)) runs k left in
        subst (λ h. HasFilesOf d h (state_of (seen_in text last).content) commands responses k.files) began.1 (found.now fine)

    pub finds : FindsLater register hub commands responses (state g last.tables.conn)
    finds db may =
        let k = content_in db empty_view in
        let left : (seen_in text last).leaves k = record { clean = may.clean; db = db; sound = may.sound; left = may.left; content = refl } in
        let it = kept_by_trees text db may.sound (stops.whole (leaves.whole (runs.trust may.clean)) db.trees may.clean may.left) in
        let far = cut k left in
        let received = stops.received k left in
        record {
          store = record {
            stands = record {
              kept = it.kept;
              may = record {
                known = run_known d hub (state_of k) far.asked far.said far.run leaves.known;
                partial = (every_run_from_holds d hub (state_of k) far.asked far.said partial far.run).partial;
              };
            };
            whose = it.whose;
          };
          run = far;
          received = received;
          told = all_told d hub commands responses k.files (run_has_all d hub (state_of k) far.asked far.said far.run) received;
          now = now k left;
        }
