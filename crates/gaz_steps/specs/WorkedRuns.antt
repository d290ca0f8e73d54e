-- Worked examples on runs of a hub.
use Rattle.std.specs.Prelude.{◌≡◌, true, false, List, [], ◌∷◌, Some, None, Ok, Err}
use Rattle.gaz_keeper.specs.declared.fault.ShelfFault.TheVariants as fault
use Rattle.std.specs.FinMap as map
use Rattle.gaz_steps.specs.Answers.{AllReadOff, IsReadOff, received_by, then_received}
use Rattle.gaz_steps.specs.Runs.{Abides, ChangesNothing, Run, accepted, ends_settled}
use Rattle.gaz_steps.specs.Runs.{first_received, is_answered_51, is_not_received, is_settled}
use Rattle.gaz_steps.specs.Runs.{is_settled_answer, same_pair}
use Rattle.gaz_steps.specs.Step.{Command, HubState, Pose, Replied, Response, Submit, Submitted}
use Rattle.gaz_steps.specs.Step.{new_hub}
use Rattle.gaz_steps.specs.Sample.{sample_door}
use Rattle.gaz_steps.specs.declared.answer.Answer.TheVariants.{New, Repeat, Taken, Refused}
use Rattle.gaz_steps.specs.declared.outcome.Outcome.TheVariants.{Rejected, Held}
use Rattle.gaz_steps.specs.declared.question.Question.TheVariants.{Ask, Settle, Stand}
use Rattle.gaz_steps.specs.declared.refusal.DoorRefusal.TheVariants as at_door
use Rattle.gaz_steps.specs.declared.refusal.Refusal.TheVariants as refusal
use Rattle.gaz_steps.specs.Examples.{first_hub, first_sent, gap_hub, late_hub, no_text, sent}
use Rattle.gaz_steps.specs.Examples.{whole_hub}

-- what answers say of what was received and of what is settled
pub record WorkedResponses : Type 0 where
  pub new_settles : is_settled_answer (New (Rejected 1 1)) ≡ true
  pub taken_settles : is_settled_answer (Taken []) ≡ true
  pub refused_settles_nothing : is_settled_answer (Refused (refusal.Door at_door.BadVolume)) ≡ false
  pub submitted_settles : is_settled (Submitted (Repeat (Rejected 1 1))) ≡ true
  pub told_settles : is_settled (Replied (Ask 1003 1) (Ok None)) ≡ true
  pub stands_settles_nothing :
      is_settled (Replied (Stand 9999) (Err (refusal.Door at_door.UnknownCustodian))) ≡ false
  pub settled_settles : is_settled (Replied Settle (Ok tt)) ≡ true
  pub given_up_settles_nothing : is_settled
      (Replied Settle (Err (refusal.NotReceived fault.Memory))) ≡ false
  pub last_settles : ends_settled (Submitted (Refused (refusal.NotReceived fault.Memory))
      ∷ Replied Settle (Ok tt) ∷ []) ≡ true
  pub one_before_alone : ends_settled (Replied Settle (Ok tt)
      ∷ Submitted (Refused (refusal.NotReceived fault.Memory)) ∷ []) ≡ false
  pub nothing_was_said : ends_settled [] ≡ false
  pub for_51 : is_not_received (refusal.NotReceived fault.Memory) ≡ true
  pub for_52 : is_not_received (refusal.ReceivedUnsettled fault.Memory) ≡ false
  pub answered_51 : is_answered_51 (Refused (refusal.NotReceived fault.Memory)) ≡ true
  pub answered_12 : is_answered_51 (Refused (refusal.Door at_door.BadVolume)) ≡ false
  pub answered_new : is_answered_51 (New (Rejected 1 1)) ≡ false
  pub one_pair : same_pair (1003, 1) (1003, 1) ≡ true
  pub another_volume : same_pair (1003, 1) (1003, 2) ≡ false
  pub another_custodian : same_pair (1003, 1) (1002, 1) ≡ false

-- three files came as volume 1 of custodian 1003: the first was answered 51, the second was
-- received
abbrev pub commands : List Command
commands = Submit 1003 1 (97 ∷ []) ∷ Submit 1003 1 (98 ∷ []) ∷ Submit 1003 1 (99 ∷ []) ∷ []

abbrev pub responses : List Response
responses =
    Submitted (Refused (refusal.NotReceived fault.Memory)) ∷ Submitted (New (Rejected 1 2))
    ∷ Submitted (Taken []) ∷ []

-- which bytes are received
pub record WorkedFirsts : Type 0 where
  pub received : accepted sample_door (1003, 1) (Submit 1003 1 []) (Submitted (New (Rejected 1 1)))
      ≡ Some []
  pub received_unsettled : accepted sample_door (1003, 1) (Submit 1003 1 [])
      (Submitted (Refused (refusal.ReceivedUnsettled fault.Memory))) ≡ Some []
  pub not_received : accepted sample_door (1003, 1) (Submit 1003 1 [])
      (Submitted (Refused (refusal.NotReceived fault.Memory))) ≡ None
  pub turned_away : accepted sample_door (1003, 0) (Submit 1003 0 [])
      (Submitted (Refused (refusal.Door at_door.BadVolume))) ≡ None
  pub another_pair : accepted sample_door (1003, 2) (Submit 1003 1 [])
      (Submitted (New (Rejected 1 1))) ≡ None
  pub asked : accepted sample_door (1003, 1) (Pose (Ask 1003 1)) (Replied (Ask 1003 1) (Ok None))
      ≡ None
  pub second_stays : first_received sample_door (1003, 1) commands responses ≡ Some (98 ∷ [])
  pub nothing_else : first_received sample_door (1003, 2) commands responses ≡ None

-- a file comes as volume 1, as volume 3 and again as volume 1
abbrev pub sending : List Command
sending = Submit 1003 1 no_text ∷ Submit 1003 3 no_text ∷ Submit 1003 1 no_text ∷ []

abbrev pub answers : List Response
answers =
    Submitted (New (Rejected 1 1)) ∷ Submitted (New (Held 1003 2))
    ∷ Submitted (Repeat (Rejected 1 1)) ∷ []

abbrev pub wrong_answers : List Response
wrong_answers =
    Submitted (New (Rejected 1 1)) ∷ Submitted (New (Held 1003 2)) ∷ Submitted (New (Rejected 1 1))
    ∷ []

-- what is received by then, and what answers are read off
pub record WorkedReadOff : Type 0 where
  pub received : then_received sample_door map.empty (Submit 1003 1 no_text)
      (Submitted (New (Rejected 1 1))) ≡ first_sent
  pub not_after_51 : then_received sample_door first_sent (Submit 1003 3 no_text)
      (Submitted (Refused (refusal.NotReceived fault.Memory))) ≡ first_sent
  pub never_replaced : then_received sample_door first_sent (Submit 1003 1 [])
      (Submitted (Taken [])) ≡ first_sent
  pub one_by_one : received_by sample_door map.empty sending answers ≡ sent
  pub read_off : AllReadOff sample_door map.empty sending answers
  pub never_new_twice : AllReadOff sample_door map.empty sending wrong_answers → ⊥
  pub never_held_for_good : IsReadOff sample_door sent (Submit 1003 2 no_text)
      (Submitted (New (Held 1003 2))) → ⊥
  pub never_nothing : IsReadOff sample_door sent (Pose (Ask 1003 1))
      (Replied (Ask 1003 1) (Ok None)) → ⊥
  pub never_answered_otherwise : IsReadOff sample_door sent (Pose (Ask 1003 1))
      (Replied Settle (Ok tt)) → ⊥

-- whole runs, and what holds after them
pub record WorkedWholes : Type 0 where
  pub runs : Run sample_door new_hub sending answers gap_hub
  pub rests : Run sample_door gap_hub [] [] gap_hub
  pub never_new_twice : (hub : HubState) → Run sample_door new_hub sending wrong_answers hub → ⊥
  pub never_without_answer : (hub : HubState) → Run sample_door new_hub sending [] hub → ⊥
  pub never_unasked : (hub : HubState) → Run sample_door new_hub [] answers hub → ⊥
  pub abides : Abides sample_door sending answers gap_hub
  pub never_with_less : Abides sample_door sending answers first_hub → ⊥
  pub never_with_more : Abides sample_door sending answers whole_hub → ⊥
  pub never_unjudged : Abides sample_door sending answers late_hub → ⊥
  pub repeat_changes_nothing : ChangesNothing sample_door gap_hub 1003 1 (Rejected 1 1) gap_hub
  pub repeat_never_adds : ChangesNothing sample_door gap_hub 1003 1 (Rejected 1 1) whole_hub → ⊥
  pub repeat_never_tells_another : ChangesNothing sample_door gap_hub 1003 1 (Held 1003 2) gap_hub
      → ⊥

pub record WorkedRuns : Type 0 where
  pub on_responses : WorkedResponses
  pub on_firsts : WorkedFirsts
  pub on_read_off : WorkedReadOff
  pub on_wholes : WorkedWholes
