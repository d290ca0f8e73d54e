-- Worked examples on what a call, or calls one after another, leave of a keeper that is stopped.
use Rattle.std.specs.Prelude.{◌≡◌, [], ◌∷◌, Ok}
use Rattle.std.specs.FinMap as map
use Rattle.sha2.specs.Sha256.{sha256}
use Rattle.gaz_keeper.specs.Keeper.{Content, IsLawful, Seen}
use Rattle.gaz_keeper.specs.declared.fault.ShelfFault.TheVariants as fault
use Rattle.gaz_steps.specs.Examples.{first_hub, first_sent, no_text}
use Rattle.gaz_steps.specs.Found.{HasOneMore, HasOneSince, IsFound}
use Rattle.gaz_steps.specs.Sample.{sample_door}
use Rattle.gaz_steps.specs.Step.{HubState, Pose, Replied, Response, Submit, Submitted, new_hub}
use Rattle.gaz_steps.specs.Stops.{HasAllTold, HasTold, IsLater, IsLeftOnceTold, IsLeftSince, Stops}
use Rattle.gaz_steps.specs.Stops.{StopsCall, StopsRun}
use Rattle.gaz_steps.specs.WorkedStops.{at_rest, sends, unjudged_hub}
use Rattle.gaz_steps.specs.declared.answer.Answer.TheVariants.{New, Repeat, Taken, Refused}
use Rattle.gaz_steps.specs.declared.outcome.Outcome.TheVariants.{Rejected}
use Rattle.gaz_steps.specs.declared.question.Question.TheVariants.{Settle}
use Rattle.gaz_steps.specs.declared.refusal.Refusal.TheVariants as refusal

-- ---- keepers

-- a keeper that is as another but keeps this hub, and of which a stop leaves such contents
abbrev pub keeping : Seen → HubState → (Content → Type 0) → Seen
keeping s hub Leaves = record {
  content = at_rest hub;
  stands = IsLawful (at_rest hub);
  lawful = λ is. is;
  trusted = s.trusted;
  unharmed = s.unharmed;
  progress = s.progress;
  failures = s.failures;
  is_full = s.is_full;
  full = s.full;
  leaves = Leaves;
  whole = (left : Content) → Leaves left → IsLawful left;
  left_lawful = λ lawful. lawful;
}

-- a stop leaves what is kept
abbrev pub keeps : Seen → HubState → Seen
keeps s hub = keeping s hub (λ k. k ≡ at_rest hub)

-- it may leave what another hub would keep
abbrev pub leaving : Seen → HubState → HubState → Seen
leaving s hub left = keeping s hub (λ k. k ≡ at_rest left)

-- ---- responses

abbrev pub told_new : Response
told_new = Submitted (New (Rejected 1 1))

abbrev pub told_repeat : Response
told_repeat = Submitted (Repeat (Rejected 1 1))

abbrev pub told_51 : Response
told_51 = Submitted (Refused (refusal.NotReceived fault.Store))

abbrev pub told_settled : Response
told_settled = Replied Settle (Ok tt)

-- ---- one call

-- the hub has nothing, and the file comes
pub record WorkedCalls {K : Type 0} (seen : K → Seen) : Type 0 where
  -- what was ready is judged
  pub judging : (x : K) → (seen x).unharmed
      → Stops (keeps (seen x) unjudged_hub) (keeps (seen x) first_hub)
      unjudged_hub first_hub (IsLater sample_door)
  -- judging brings no file
  pub judging_brings_none : (x : K)
      → Stops (keeps (seen x) new_hub) (keeps (seen x) first_hub)
      new_hub new_hub (IsLater sample_door) → ⊥
  -- nor is what was judged lost while nobody else writes
  pub judging_loses_none : (x : K) → (seen x).unharmed
      → Stops (keeps (seen x) unjudged_hub) (leaving (seen x) first_hub unjudged_hub)
      unjudged_hub first_hub (IsLater sample_door) → ⊥
  -- the file is there once it was answered as new
  pub taken_in : (x : K) → (seen x).unharmed
      → StopsCall sample_door (keeps (seen x) new_hub) (keeps (seen x) first_hub)
      new_hub first_hub sends told_new
  pub not_without_it : (x : K)
      → StopsCall sample_door (keeps (seen x) new_hub) (leaving (seen x) first_hub new_hub)
      new_hub first_hub sends told_new → ⊥
  -- after 51 it may be there
  pub with_it_after_51 : (x : K) → (seen x).unharmed
      → StopsCall sample_door (keeps (seen x) new_hub) (leaving (seen x) new_hub unjudged_hub)
      new_hub new_hub sends told_51
  pub never_by_settling : (x : K)
      → StopsCall sample_door (keeps (seen x) new_hub) (leaving (seen x) new_hub unjudged_hub)
      new_hub new_hub (Pose Settle) told_settled → ⊥

-- ---- calls one after another

-- what was left by one of some commands, of a hub in which nothing has changed since
pub record WorkedSince : Type 0 where
  pub after_51 : IsLeftOnceTold sample_door sends told_51 new_hub (at_rest unjudged_hub)
  pub never_after_new : IsLeftOnceTold sample_door sends told_new new_hub (at_rest unjudged_hub)
      → ⊥
  -- also where all was settled since, and nothing was ready
  pub settled_since : IsLeftSince sample_door (sends ∷ Pose Settle ∷ [])
      (told_51 ∷ told_settled ∷ []) new_hub new_hub (at_rest unjudged_hub)
  pub never_by_settling : IsLeftSince sample_door (Pose Settle ∷ []) (told_settled ∷ [])
      new_hub new_hub (at_rest unjudged_hub) → ⊥
  -- whose file the one more is
  pub one_more : HasOneMore sample_door new_hub sends first_sent
  pub never_a_question : HasOneMore sample_door new_hub (Pose Settle) first_sent → ⊥
  pub never_none : HasOneMore sample_door new_hub sends map.empty → ⊥
  pub one_since : HasOneSince sample_door new_hub new_hub (sends ∷ Pose Settle ∷ [])
      (told_51 ∷ told_settled ∷ []) first_sent
  pub never_one_of_new : HasOneSince sample_door new_hub new_hub (sends ∷ []) (told_new ∷ [])
      first_sent → ⊥

-- what the files that are found have of those that were answered
pub record WorkedTold : Type 0 where
  pub repeated : HasTold sends told_repeat first_sent
  pub never_lost : HasTold sends told_repeat map.empty → ⊥
  pub taken : HasTold (Submit 1003 1 []) (Submitted (Taken (sha256 no_text))) first_sent
  pub never_its_own : HasTold sends (Submitted (Taken (sha256 no_text))) first_sent → ⊥
  pub refused : HasTold sends told_51 map.empty
  -- a repeat of what was there before is found, and not without it
  pub all_told : HasAllTold sample_door first_hub (sends ∷ []) (told_repeat ∷ []) first_sent
  pub never_without_it : HasAllTold sample_door first_hub (sends ∷ []) (told_repeat ∷ []) map.empty
      → ⊥

-- what calls leave, and what is found then
pub record WorkedRunsStopped {K : Type 0} (seen : K → Seen) : Type 0 where
  pub new_then_found : (x : K) → (seen x).unharmed
      → StopsRun sample_door (keeps (seen x) new_hub) (keeps (seen x) first_hub) new_hub first_hub
      (sends ∷ []) (told_new ∷ [])
  pub never_without_it : (x : K)
      → StopsRun sample_door (keeps (seen x) new_hub) (leaving (seen x) first_hub new_hub)
      new_hub first_hub (sends ∷ []) (told_new ∷ []) → ⊥
  -- the file of a command that was answered 51 is found
  pub found_after_51 : (x : K)
      → IsFound sample_door (keeps (seen x) new_hub) (leaving (seen x) new_hub unjudged_hub)
      (sends ∷ []) (told_51 ∷ []) (at_rest unjudged_hub)
  -- never one that nobody sent, and never without one that was answered as new
  pub never_unsent : (x : K) → (seen x).unharmed
      → IsFound sample_door (keeps (seen x) new_hub) (keeps (seen x) new_hub)
      (Pose Settle ∷ []) (told_settled ∷ []) (at_rest unjudged_hub) → ⊥
  pub never_lost : (x : K)
      → IsFound sample_door (keeps (seen x) new_hub) (keeps (seen x) first_hub)
      (sends ∷ []) (told_new ∷ []) (at_rest new_hub) → ⊥
  -- nor without one that was answered as a repeat
  pub never_lost_again : (x : K)
      → IsFound sample_door (keeps (seen x) first_hub) (keeps (seen x) first_hub)
      (sends ∷ []) (told_repeat ∷ []) (at_rest new_hub) → ⊥

pub record WorkedFound {K : Type 0} (seen : K → Seen) : Type 0 where
  pub on_calls : WorkedCalls seen
  pub on_since : WorkedSince
  pub on_told : WorkedTold
  pub on_runs : WorkedRunsStopped seen
