-- What is found of a hub that was stopped.
use Rattle.std.proofs.Common.{◌≡◌, inl, inr, ℕ, Bool, true, false, cond, not, ◌&&◌, List, [], ◌∷◌, ◌++◌, refl, sym, ap, ◌∙◌, subst, is_none, true≢false}
use Rattle.std.specs.Prelude.{Option, Some, None, is_some}
use Rattle.std.specs.Option.{option_or}
use Rattle.std.specs.FinMap as map
use Rattle.gaz_register.specs.Registers.{knows}
use Rattle.gaz_keeper.specs.Board.{empty_board}
use Rattle.gaz_keeper.specs.Keeper.{Content, LeavesOnly, Seen, after_stop}
use Rattle.gaz_keeper.specs.Received.{HasAllOf, Received, with_file}
use Rattle.gaz_views.specs.View.{empty_view}
use Rattle.gaz_steps.specs.Found.{EveryStopOver, HasFilesAfter, HasFilesAt, HasFilesOf}
use Rattle.gaz_steps.specs.Hubs.{AreKnown, Runs, StandsFor, state_of}
use Rattle.gaz_steps.specs.Runs.{Run, accepted, is_answered_51, same_pair}
use Rattle.gaz_steps.specs.Standing.{IsPartial}
use Rattle.gaz_steps.specs.Step.{Command, Door, HubState, Pose, Replied, Response, Step, Submit, Submitted, blocks, file_refusal}
use Rattle.gaz_steps.specs.Stops.{IsLater, IsLaterWith, IsLeftAfter, IsLeftBy, IsLeftOnceTold}
use Rattle.gaz_steps.specs.declared.answer.Answer.TheVariants.{New, Repeat, Taken, Refused}
use Rattle.gaz_steps.specs.declared.refusal.DoorRefusal.{DoorRefusal}
use Rattle.gaz_steps.specs.declared.refusal.Refusal.TheVariants as refusal
use Rattle.gaz_steps.proofs.Known.{is_known, known_with}
use Rattle.gaz_steps.proofs.Receiving.{all_told, run_has_all}
use Rattle.gaz_steps.proofs.Leading.{follows_more, follows_on}
use Rattle.gaz_steps.proofs.Runs.{every_run_from_holds}
use Rattle.gaz_steps.proofs.Steps.{goes, has_all_with, pairs_same}

-- ---- what is so of whatever the door lets in

module _ (d : Door) (So : ℕ × ℕ → Type 0) (let_in : (c volume : ℕ) (bytes : List ℕ) → file_refusal d c volume bytes ≡ None → So (c, volume)) where
  so_if : (p q : ℕ × ℕ) (bytes : List ℕ) (same late : Bool) (o : Option DoorRefusal) → (same ≡ true → p ≡ q) → (o ≡ None → So q)
      → is_some (cond (same && (is_none o && late)) (Some bytes) None) ≡ true → So p
  so_if p q bytes true true None is so h = subst So (sym (is refl)) (so refl)
  so_if p q bytes true false None is so h = absurd (true≢false (sym h))
  so_if p q bytes true late (Some r) is so h = absurd (true≢false (sym h))
  so_if p q bytes false late o is so h = absurd (true≢false (sym h))

  accepted_so : (p : ℕ × ℕ) (command : Command) (response : Response) → is_some (accepted d p command response) ≡ true → So p
  accepted_so p (Submit c volume bytes) (Submitted answer) h =
      so_if p (c, volume) bytes (same_pair p (c, volume)) (not (is_answered_51 answer)) (file_refusal d c volume bytes) (pairs_same p (c, volume)) (let_in c volume bytes) h
  accepted_so p (Submit c volume bytes) (Replied q reply) h = absurd (true≢false (sym h))
  accepted_so p (Pose q) response h = absurd (true≢false (sym h))

  either_so : {T : Type 0} (X : Type 0) (a b : Option T) → is_some (option_or a b) ≡ true → (is_some a ≡ true → X) → (is_some b ≡ true → X) → X
  either_so X (Some x) b h f g = f refl
  either_so X None b h f g = g h

  abbrev AreSo : Received → Type 0
  AreSo files = (p : ℕ × ℕ) → is_some (map.get files p) ≡ true → So p

  step_so : (old new : HubState) (command : Command) (response : Response) → Step d old command response new → AreSo old.received → AreSo new.received
  step_so old new command response s all p h =
      either_so (So p) (map.get old.received p) (accepted d p command response) (ap is_some (sym ((goes d old command response new s).first p)) ∙ h) (all p) (accepted_so p command response)

  -- it is of all that is received, where it was
  pub run_so : (old new : HubState) (commands : List Command) (responses : List Response) → Run d old commands responses new → AreSo old.received → AreSo new.received
  run_so old new [] [] r all = subst (λ (hub : HubState). AreSo hub.received) (sym r) all
  run_so old new (command ∷ commands) (response ∷ responses) r all = run_so r.0 new commands responses r.2 (step_so old r.0 command response r.1 all)
  run_so old new [] (response ∷ responses) r all = absurd r
  run_so old new (command ∷ commands) [] r all = absurd r

pub run_known : (d : Door) (old new : HubState) (commands : List Command) (responses : List Response) → Run d old commands responses new → AreKnown d old.received → AreKnown d new.received
run_known d = run_so d (λ p. knows d.register p.0 ≡ true) (is_known d)

-- ---- one content

-- of a hub whose board was partial
record IsWell (d : Door) (k : Content) : Type 0 where
  pub working : k.working ≡ empty_view
  pub known : AreKnown d k.files
  pub partial : IsPartial (blocks d) k.files k.board

later_well : (d : Door) (hub : HubState) (k : Content) → AreKnown d hub.received → IsPartial (blocks d) hub.received hub.board → IsLater d hub k → IsWell d k
later_well d hub k known partial l =
    record {
      working = l.working;
      known = subst (AreKnown d) (sym l.files) known;
      partial = subst (λ F. IsPartial (blocks d) F k.board) (sym l.files) (follows_on (blocks d) hub.received empty_board hub.board k.board partial l.board);
    }

with_well : (d : Door) (hub : HubState) (c volume : ℕ) (bytes : List ℕ) (k : Content) → AreKnown d hub.received → IsPartial (blocks d) hub.received hub.board → IsLaterWith d hub c volume bytes k → IsWell d k
with_well d hub c volume bytes k known partial l =
    let more = with_file hub.received c volume bytes in
    later_well d (record { received = more; board = hub.board }) k
    (known_with d hub.received c volume bytes (is_known d c volume bytes l.let_in) known)
    (follows_more (blocks d) hub.received more (has_all_with hub.received c volume bytes l.free) empty_board hub.board partial) l.later

left_well : (d : Door) (command : Command) (hub : HubState) (k : Content) → AreKnown d hub.received → IsPartial (blocks d) hub.received hub.board → IsLeftBy d command hub k → IsWell d k
left_well d (Submit c volume bytes) hub k known partial (inl l) = later_well d hub k known partial l
left_well d (Submit c volume bytes) hub k known partial (inr l) = with_well d hub c volume bytes k known partial l
left_well d (Pose q) hub k known partial l = later_well d hub k known partial l

-- its files
left_files : (d : Door) (command : Command) (hub : HubState) (k : Content) (later : List Command) → IsLeftBy d command hub k → HasFilesAt d hub (command ∷ later) k.files
left_files d (Submit c volume bytes) hub k later (inl l) = inl l.files
left_files d (Submit c volume bytes) hub k later (inr l) = inr (record { c = c; volume = volume; bytes = bytes; command_is = refl; let_in = l.let_in; free = l.free; files_are = l.later.files })
left_files d (Pose q) hub k later l = inl l.files

same_files : (d : Door) (hub : HubState) (commands : List Command) (files : Received) → files ≡ hub.received → HasFilesAt d hub commands files
same_files d hub [] files e = e
same_files d hub (command ∷ commands) files e = inl e

-- the files of what was left, and since when nothing has changed
module _ (d : Door) (before last : HubState) (commands earlier later : List Command) (responses told more : List Response) where
  since_files : (command : Command) (response : Response) (k : Content) → commands ≡ earlier ++ command ∷ later → responses ≡ told ++ response ∷ more → Run d before (earlier ++ command ∷ []) (told ++ response ∷ []) last
      → Run d last later more last → IsLeftOnceTold d command response last k → HasFilesOf d before last commands responses k.files
  since_files (Submit c volume bytes) (Submitted answer) k e f run since (inl l) = inl l.files
  since_files (Submit c volume bytes) (Submitted (New told)) k e f run since (inr l) = absurd (true≢false (sym l.0))
  since_files (Submit c volume bytes) (Submitted (Repeat told)) k e f run since (inr l) = absurd (true≢false (sym l.0))
  since_files (Submit c volume bytes) (Submitted (Taken digest)) k e f run since (inr l) = absurd (true≢false (sym l.0))
  since_files (Submit c volume bytes) (Submitted (Refused (refusal.NotReceived cause))) k e f run since (inr l) =
      inr (record {
        earlier = earlier;
        told = told;
        command = Submit c volume bytes;
        cause = cause;
        later = later;
        more = more;
        commands_are = e;
        responses_are = f;
        run = run;
        since = since;
        one_more = record { c = c; volume = volume; bytes = bytes; command_is = refl; let_in = l.1.let_in; free = l.1.free; files_are = l.1.later.files };
      })
  since_files (Submit c volume bytes) (Submitted (Refused (refusal.ReceivedUnsettled cause))) k e f run since (inr l) = absurd (true≢false (sym l.0))
  since_files (Submit c volume bytes) (Submitted (Refused (refusal.Door why))) k e f run since (inr l) = absurd (true≢false (sym l.0))
  since_files (Submit c volume bytes) (Replied q reply) k e f run since l = inl l.files
  since_files (Pose q) response k e f run since l = inl l.files

-- they have all that was received before
at_have_all : (d : Door) (hub : HubState) (commands : List Command) (files : Received) → HasFilesAt d hub commands files → HasAllOf files hub.received
at_have_all d hub [] files same p bytes at = ap (λ F. map.get F p) same ∙ at
at_have_all d hub (command ∷ commands) files (inl same) p bytes at = ap (λ F. map.get F p) same ∙ at
at_have_all d hub (command ∷ commands) files (inr more) p bytes at = ap (λ F. map.get F p) more.files_are ∙ has_all_with hub.received more.c more.volume more.bytes more.free p bytes at

pub files_have_all : (d : Door) (hub : HubState) (commands : List Command) (responses : List Response) (files : Received) → HasFilesAfter d hub commands responses files → HasAllOf files hub.received
files_have_all d hub commands responses files l p bytes at = at_have_all d l.mid l.later files l.files_at p bytes (run_has_all d hub l.mid l.earlier l.told l.run p bytes at)

-- ---- after a run

module _ {K : Type 0} (seen : K → Seen) (d : Door) (old new : K) (commands : List Command) (responses : List Response)
    (was : StandsFor d (seen old)) (just : LeavesOnly (seen old).content (seen old)) (r : Runs d (seen old) (seen new) commands responses) (k : Content) where
  abbrev hub : HubState
  hub = state_of (seen old).content

  -- it was left before
  first_well : k ≡ after_stop (seen old).content → IsWell d k
  first_well e =
      record {
        working = ap (λ (m : Content). m.working) e;
        known = subst (λ (m : Content). AreKnown d m.files) (sym e) was.1.known;
        partial = subst (λ (m : Content). IsPartial (blocks d) m.files m.board) (sym e) was.1.partial;
      }

  after_well : IsLeftAfter d commands responses hub k → IsWell d k
  after_well l = left_well d l.command l.mid k (run_known d hub l.mid l.earlier l.told l.run was.1.known) (every_run_from_holds d hub l.mid l.earlier l.told was.1.partial l.run).partial l.left

  well : (seen new).leaves k → IsWell d k
  well left = elim ((r.stops (λ _. was)).ever k left) [
    | inl before ↦ first_well (just k before)
    | inr made ↦ after_well made.1
  ]

  ever : (seen new).leaves k → HasFilesAfter d hub commands responses k.files
  ever left = elim ((r.stops (λ _. was)).ever k left) [
    | inl before ↦ record {
      earlier = [];
      told = [];
      later = commands;
      more = responses;
      commands_are = refl;
      responses_are = refl;
      mid = hub;
      run = refl;
      files_at = same_files d hub commands k.files (ap (λ (m : Content). m.files) (just k before));
    }
    | inr made ↦
        let l = made.1 in
        record {
          earlier = l.earlier;
          told = l.told;
          later = l.command ∷ l.later;
          more = l.more;
          commands_are = l.commands_are;
          responses_are = l.responses_are;
          mid = l.mid;
          run = l.run;
          files_at = left_files d l.command l.mid k l.later l.left;
        }
  ]

  now : (seen new).leaves k → (seen new).unharmed → HasFilesOf d hub (state_of (seen new).content) commands responses k.files
  now left fine = elim ((r.stops (λ _. was)).now fine k left) [
    | inl before ↦ inl (ap (λ (m : Content). m.files) (just k before.0) ∙ sym (ap (λ (h : HubState). h.received) before.1))
    | inr l ↦ since_files d hub (state_of (seen new).content) commands l.earlier l.later responses l.told l.more l.command l.response k l.commands_are l.responses_are l.run l.since l.left
  ]

pub every_stop_over : {K : Type 0} (seen : K → Seen) → EveryStopOver seen
every_stop_over seen d old new commands responses was just r k left =
    let w = well seen d old new commands responses was just r k left in
    let later = ever seen d old new commands responses was just r k left in
    let received = (r.stops (λ _. was)).received k left in
    let before = state_of (seen old).content in
    record {
      working = w.working;
      known = w.known;
      partial = w.partial;
      ever = later;
      received = received;
      told = all_told d before commands responses k.files (files_have_all d before commands responses k.files later) received;
      now = now seen d old new commands responses was just r k left;
    }
