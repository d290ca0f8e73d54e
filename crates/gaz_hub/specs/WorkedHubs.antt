-- Worked examples on a hub over a register. What a file's profile is, the worked examples on
-- profiles compute.
use Rattle.std.specs.Prelude.{◌≡◌, ℕ, true, false, List, [], ◌∷◌, Some, None, Ok, Err, codes}
use Rattle.gaz_changefile.specs.Profile.{profile_of}
use Rattle.gaz_register.specs.Registers.{RegisterValue, within}
use Rattle.gaz_keeper.specs.Keeper.{empty_content}
use Rattle.gaz_keeper.specs.Board.{empty_board}
use Rattle.gaz_keeper.specs.declared.fault.ShelfFault.TheVariants as fault
use Rattle.gaz_steps.specs.Examples.{one_judged, sent}
use Rattle.gaz_steps.specs.Hubs.{cause_of, door_of, is_foreign, state_of}
use Rattle.gaz_steps.specs.Outcomes.{first_unreached}
use Rattle.gaz_hub.specs.Settling.{IsNext, IsNextFile, want_of}
use Rattle.gaz_steps.specs.Step.{Replied, Submitted, blocks, new_hub, turned_away}
use Rattle.gaz_steps.specs.WorkedBoards.{basis}
use Rattle.gaz_steps.specs.declared.answer.Answer.TheVariants.{New, Refused, Taken}
use Rattle.gaz_hub.specs.declared.looking.Next.{Next}
use Rattle.gaz_hub.specs.declared.looking.Next.TheVariants.{Bad, Done, Waits}
use Rattle.gaz_hub.specs.declared.looking.NextFile.TheVariants.{Missing, Past}
use Rattle.gaz_steps.specs.declared.outcome.Outcome.TheVariants.{Rejected}
use Rattle.gaz_steps.specs.declared.question.Question.TheVariants.{Ask, Settle, Stand}
use Rattle.gaz_steps.specs.declared.refusal.DoorRefusal.TheVariants.{BadVolume, TooLarge}
use Rattle.gaz_steps.specs.declared.refusal.DoorRefusal.TheVariants.{UnknownCustodian}
use Rattle.gaz_steps.specs.declared.refusal.Refusal.TheVariants.{Door, NotReceived}
use Rattle.gaz_steps.specs.declared.refusal.Refusal.TheVariants.{ReceivedUnsettled}

-- a register of two custodians
abbrev pub upper_and_lower : RegisterValue
upper_and_lower =
    record {
      code = 1001;
      name = codes "Upper County";
      own = record { uprn = []; usrn = (100, 199) ∷ [] };
    }
    ∷ record {
      code = 1002;
      name = codes "Lower District";
      own = record { uprn = []; usrn = (200, 299) ∷ [] };
    }
    ∷ []

-- what the door of a hub is made of
pub record WorkedDoors : Type 0 where
  pub other_profile : (bytes : List ℕ) → profile_of bytes ≡ Some 7 → is_foreign bytes ≡ true
  pub known_profile : (bytes : List ℕ) → profile_of bytes ≡ Some 1 → is_foreign bytes ≡ false
  pub passing_profile : (bytes : List ℕ) → profile_of bytes ≡ Some 2 → is_foreign bytes ≡ false
  pub next_profile : (bytes : List ℕ) → profile_of bytes ≡ Some 3 → is_foreign bytes ≡ true
  pub no_profile : (bytes : List ℕ) → profile_of bytes ≡ None → is_foreign bytes ≡ false
  pub first_custodian : turned_away (door_of upper_and_lower) 1001 1 0 ≡ None
  pub last_custodian : turned_away (door_of upper_and_lower) 1002 1 0 ≡ None
  pub no_custodian : turned_away (door_of upper_and_lower) 1003 0 0 ≡ Some UnknownCustodian
  pub no_volume : turned_away (door_of upper_and_lower) 1001 0 1_048_577 ≡ Some BadVolume
  pub too_large : turned_away (door_of upper_and_lower) 1001 1 1_048_577 ≡ Some TooLarge
  pub own_block : within (blocks (door_of upper_and_lower) 1002).usrn 299 ≡ true
  pub block_of_another : within (blocks (door_of upper_and_lower) 1002).usrn 199 ≡ false
  pub begins : state_of empty_content ≡ new_hub

-- the fault that a response carries
pub record WorkedCauses : Type 0 where
  pub of_new : cause_of (Submitted (New (Rejected 1 1))) ≡ None
  pub of_taken : cause_of (Submitted (Taken [])) ≡ None
  pub of_51 : cause_of (Submitted (Refused (NotReceived fault.Store))) ≡ Some fault.Store
  pub of_52 : cause_of (Submitted (Refused (ReceivedUnsettled fault.Memory))) ≡ Some fault.Memory
  pub of_the_door : cause_of (Replied (Ask 1003 0) (Err (Door BadVolume))) ≡ None
  pub of_standing : cause_of (Replied (Stand 1003) (Err (NotReceived fault.Memory)))
      ≡ Some fault.Memory
  pub of_settling : cause_of (Replied Settle (Err (NotReceived fault.Store))) ≡ Some fault.Store
  pub of_settled : cause_of (Replied Settle (Ok tt)) ≡ None

-- volume 1 of custodian 1003 is judged, volume 2 is missing and volume 3 was received
abbrev pub Finds : Next → Type 0
Finds n = IsNext sent one_judged 1003 n

-- what a custodian's next volume is found to be
pub record WorkedLooks : Type 0 where
  pub second_unreached : first_unreached one_judged
      (basis 1003 1 ∷ basis 1002 2 ∷ basis 1003 2 ∷ []) ≡ Some (basis 1002 2)
  pub all_reached : first_unreached one_judged (basis 1003 1 ∷ []) ≡ None
  pub waits_for_itself : Finds (Waits 1003 2)
  pub never_for_the_later : Finds (Waits 1003 3) → ⊥
  pub never_ready : Finds (Bad 2 1 1) → ⊥
  pub never_at_the_end : Finds Done → ⊥
  pub is_ready : IsNext sent empty_board 1003 (Bad 1 1 1)
  pub never_as_another_volume : IsNext sent empty_board 1003 (Bad 2 1 1) → ⊥
  pub never_held : IsNext sent empty_board 1003 (Waits 1003 1) → ⊥
  pub missing : IsNextFile sent one_judged 1003 (Missing 2)
  pub never_past : IsNextFile sent one_judged 1003 Past → ⊥
  pub wanted : want_of (Waits 1003 2) ≡ Some (1003, 2)
  pub none_wanted : want_of (Bad 1 1 1) ≡ None

pub record WorkedHubs : Type 0 where
  pub on_doors : WorkedDoors
  pub on_causes : WorkedCauses
  pub on_looks : WorkedLooks
