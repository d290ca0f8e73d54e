-- Worked examples on the door and on the steps of a hub.
use Rattle.std.specs.Prelude.{◌≡◌, ℕ, List, true, false, [], Some, None, Ok, Err}
use Rattle.sha2.specs.Sha256.{sha256}
use Rattle.gaz_keeper.specs.Board.{empty_board}
use Rattle.gaz_keeper.specs.declared.fault.ShelfFault.TheVariants as fault
use Rattle.gaz_steps.specs.Step.{Command, HubState, Pose, Replied, Response, Settles, Step, Submit}
use Rattle.gaz_steps.specs.Step.{Submitted, early_refusal, file_refusal, is_volume, new_hub}
use Rattle.gaz_steps.specs.Step.{or_foreign, refusal_at_door, turned_away}
use Rattle.gaz_steps.specs.Sample.{sample_door}
use Rattle.gaz_steps.specs.declared.answer.Answer.TheVariants.{New, Repeat, Taken, Refused}
use Rattle.gaz_steps.specs.declared.outcome.Outcome.TheVariants.{Rejected, Held}
use Rattle.gaz_steps.specs.declared.question.Question.TheVariants.{Ask, Settle, Stand}
use Rattle.gaz_steps.specs.declared.refusal.DoorRefusal.TheVariants as at_door
use Rattle.gaz_steps.specs.declared.refusal.Refusal.TheVariants as refusal
use Rattle.gaz_steps.specs.Examples.{first_hub, foreign_door, gap_hub, late_hub, no_text}
use Rattle.gaz_steps.specs.Examples.{one_judged}
use Rattle.gaz_steps.specs.Examples.{sent, whole_hub}

-- who is let in
pub record WorkedDoor : Type 0 where
  pub no_volume_0 : is_volume 0 ≡ false
  pub first_volume : is_volume 1 ≡ true
  pub last_volume : is_volume 999_999 ≡ true
  pub no_greater_volume : is_volume 1_000_000 ≡ false
  pub unknown_first : turned_away sample_door 9999 0 1_048_577 ≡ Some at_door.UnknownCustodian
  pub volume_next : turned_away sample_door 1003 0 1_048_577 ≡ Some at_door.BadVolume
  pub size_last : turned_away sample_door 1003 1 1_048_577 ≡ Some at_door.TooLarge
  pub greatest : turned_away sample_door 1003 999_999 1_048_576 ≡ None
  pub others_go_before_profile : or_foreign true (Some at_door.TooLarge) ≡ Some at_door.TooLarge
  pub profile_at_last : or_foreign true None ≡ Some at_door.UnknownProfile
  pub no_foreign_profile : or_foreign false None ≡ None
  pub profile_turned_away : file_refusal foreign_door 1003 1 [] ≡ Some at_door.UnknownProfile
  pub volume_before_profile : file_refusal foreign_door 1003 0 [] ≡ Some at_door.BadVolume
  pub let_in : file_refusal sample_door 1003 1 [] ≡ None

-- which commands are turned away
pub record WorkedCommands : Type 0 where
  pub profile_not_early : early_refusal foreign_door (Submit 1003 1 []) ≡ None
  pub profile_at_door : refusal_at_door foreign_door (Submit 1003 1 [])
      ≡ Some at_door.UnknownProfile
  pub no_profile_asked : refusal_at_door foreign_door (Pose (Ask 1003 1)) ≡ None
  pub no_volume_asked : refusal_at_door sample_door (Pose (Ask 1003 0)) ≡ Some at_door.BadVolume
  pub unknown_asked : refusal_at_door sample_door (Pose (Stand 9999))
      ≡ Some at_door.UnknownCustodian
  pub known_asked : early_refusal sample_door (Pose (Stand 1003)) ≡ None
  pub settling_let_in : refusal_at_door sample_door (Pose Settle) ≡ None

-- from one state of a hub over the sample register to another
abbrev pub Goes : HubState → Command → Response → HubState → Type 0
Goes old command response new = Step sample_door old command response new

-- a file that comes for the first time
pub record WorkedSubmissions : Type 0 where
  pub new : Goes new_hub (Submit 1003 1 no_text) (Submitted (New (Rejected 1 1))) first_hub
  pub new_and_held : Goes first_hub (Submit 1003 3 no_text) (Submitted (New (Held 1003 2))) gap_hub
  pub new_in_the_gap : Goes gap_hub (Submit 1003 2 no_text)
      (Submitted (New (Rejected 1 1))) whole_hub
  pub never_held_for_good : (board : HubState)
      → Goes gap_hub (Submit 1003 2 no_text) (Submitted (New (Held 1003 2))) board → ⊥
  pub never_unreceived : Goes new_hub (Submit 1003 1 no_text)
      (Submitted (New (Rejected 1 1))) new_hub → ⊥
  pub never_unjudged : Goes first_hub (Submit 1003 3 no_text)
      (Submitted (New (Held 1003 2))) late_hub → ⊥
  pub received_unjudged : Goes (record { received = first_hub.received; board = empty_board })
      (Submit 1003 3 no_text)
      (Submitted (Refused (refusal.ReceivedUnsettled fault.Memory))) late_hub
  pub never_twice : Goes gap_hub (Submit 1003 3 no_text)
      (Submitted (Refused (refusal.ReceivedUnsettled fault.Memory))) gap_hub → ⊥

-- a file that comes again, and other bytes for its volume
pub record WorkedRepeats : Type 0 where
  pub repeated : Goes gap_hub (Submit 1003 1 no_text) (Submitted (Repeat (Rejected 1 1))) gap_hub
  pub repeated_held : Goes gap_hub (Submit 1003 3 no_text)
      (Submitted (Repeat (Held 1003 2))) gap_hub
  pub never_the_first_outcome : Goes whole_hub (Submit 1003 3 no_text)
      (Submitted (Repeat (Held 1003 2))) whole_hub → ⊥
  pub never_new_again : Goes gap_hub (Submit 1003 1 no_text)
      (Submitted (New (Rejected 1 1))) gap_hub → ⊥
  pub never_lost : Goes gap_hub (Submit 1003 1 no_text) (Submitted (Repeat (Rejected 1 1))) new_hub
      → ⊥
  pub taken : Goes gap_hub (Submit 1003 1 []) (Submitted (Taken (sha256 no_text))) gap_hub
  pub no_other_digest : (digest : List ℕ)
      → Goes gap_hub (Submit 1003 1 []) (Submitted (Taken digest)) gap_hub → digest ≡ sha256 no_text
  pub never_by_volume_alone : Goes gap_hub (Submit 1003 1 [])
      (Submitted (Repeat (Rejected 1 1))) gap_hub → ⊥
  pub never_taken_by_itself : Goes gap_hub (Submit 1003 1 no_text)
      (Submitted (Taken (sha256 no_text))) gap_hub → ⊥

-- refusals
pub record WorkedRefusals : Type 0 where
  pub refused : Goes gap_hub (Submit 1003 0 no_text)
      (Submitted (Refused (refusal.Door at_door.BadVolume))) gap_hub
  pub never_for_another_reason : Goes gap_hub (Submit 1003 0 no_text)
      (Submitted (Refused (refusal.Door at_door.TooLarge))) gap_hub → ⊥
  pub never_with_a_change : Goes gap_hub (Submit 1003 0 no_text)
      (Submitted (Refused (refusal.Door at_door.BadVolume))) new_hub → ⊥
  pub asked_in_vain : Goes gap_hub (Pose (Ask 1003 0))
      (Replied (Ask 1003 0) (Err (refusal.Door at_door.BadVolume))) gap_hub
  pub stands_in_vain : Goes gap_hub (Pose (Stand 9999))
      (Replied (Stand 9999) (Err (refusal.Door at_door.UnknownCustodian))) gap_hub
  pub not_received : Goes gap_hub (Submit 1003 2 no_text)
      (Submitted (Refused (refusal.NotReceived fault.Memory))) gap_hub
  pub some_judged : Goes late_hub (Submit 1003 2 no_text)
      (Submitted (Refused (refusal.NotReceived fault.Memory))) gap_hub
  pub never_received : Goes gap_hub (Submit 1003 2 no_text)
      (Submitted (Refused (refusal.NotReceived fault.Memory))) whole_hub → ⊥
  pub never_received_by_asking : Goes gap_hub (Pose (Ask 1003 1))
      (Replied (Ask 1003 1) (Err (refusal.ReceivedUnsettled fault.Memory))) gap_hub → ⊥

-- questions, and settling
pub record WorkedQuestions : Type 0 where
  pub told : Goes gap_hub (Pose (Ask 1003 1))
      (Replied (Ask 1003 1) (Ok (Some (sha256 no_text, Rejected 1 1)))) gap_hub
  pub told_of_nothing : Goes gap_hub (Pose (Ask 1003 2)) (Replied (Ask 1003 2) (Ok None)) gap_hub
  pub never_nothing : Goes gap_hub (Pose (Ask 1003 1)) (Replied (Ask 1003 1) (Ok None)) gap_hub → ⊥
  pub never_another_outcome : Goes gap_hub (Pose (Ask 1003 1))
      (Replied (Ask 1003 1) (Ok (Some (sha256 no_text, Held 1003 2)))) gap_hub → ⊥
  pub stands : Goes gap_hub (Pose (Stand 1003))
      (Replied (Stand 1003)
      (Ok (record { custodian = 1003; held = 1; judged = 1; wants = Some (1003, 2) }))) gap_hub
  pub never_judged_as_held : Goes gap_hub (Pose (Stand 1003))
      (Replied (Stand 1003)
      (Ok (record { custodian = 1003; held = 2; judged = 1; wants = Some (1003, 2) }))) gap_hub → ⊥
  pub settled : Goes late_hub (Pose Settle) (Replied Settle (Ok tt)) gap_hub
  pub never_half_settled : Goes late_hub (Pose Settle) (Replied Settle (Ok tt)) late_hub → ⊥
  pub gives_up : Goes late_hub (Pose Settle)
      (Replied Settle (Err (refusal.NotReceived fault.Memory))) late_hub
  pub never_answered_otherwise : Goes gap_hub (Pose Settle) (Replied (Ask 1003 2) (Ok None)) gap_hub
      → ⊥
  pub settles : Settles sample_door sent empty_board one_judged
  pub settles_too_little : Settles sample_door sent empty_board empty_board → ⊥

pub record WorkedSteps : Type 0 where
  pub on_door : WorkedDoor
  pub on_commands : WorkedCommands
  pub on_submissions : WorkedSubmissions
  pub on_repeats : WorkedRepeats
  pub on_refusals : WorkedRefusals
  pub on_questions : WorkedQuestions
