-- Worked examples on readings as steps of a hub.
use Rattle.std.specs.Prelude.{◌≡◌, ℕ, List, true, false, [], ◌∷◌, Some, None, Ok, Err}
use Rattle.gaz_extract.specs.Extracts.{header, trailer}
use Rattle.gaz_extract.specs.declared.closed.Closed.{Closed}
use Rattle.gaz_extract.specs.declared.found.Found.{Found}
use Rattle.gaz_rows.specs.Rows.{lines_of}
use Rattle.gaz_keeper.specs.declared.fault.ShelfFault.TheVariants as fault
use Rattle.gaz_steps.specs.Examples.{gap_hub, late_hub}
use Rattle.gaz_steps.specs.Hubs.{cause_of, told, told_all, or_not_received}
use Rattle.gaz_steps.specs.ToldOn.{telling}
use Rattle.gaz_steps.specs.Runs.{is_settled}
use Rattle.gaz_steps.specs.Sample.{sample_door}
use Rattle.gaz_steps.specs.Step.{Pose, Replied, early_refusal}
use Rattle.gaz_steps.specs.WorkedSteps.{Goes}
use Rattle.gaz_steps.specs.declared.question.Question.TheVariants.{Extract, ListClosed, LookUp}
use Rattle.gaz_steps.specs.declared.question.Question.TheVariants.{Settle}
use Rattle.gaz_steps.specs.declared.question.Told.TheVariants as says
use Rattle.gaz_steps.specs.declared.refusal.DoorRefusal.TheVariants as at_door
use Rattle.gaz_steps.specs.declared.refusal.Refusal.TheVariants as refusal

-- the extract of custodian 1003 after volume 1, on which nothing stands: header and trailer alone
abbrev pub of_nothing : List ℕ
of_nothing = lines_of (header 1003 1 ∷ trailer 0 ∷ [])

-- volume 1 of custodian 1003 was rejected, and volume 2 is missing: nobody has a property
pub record WorkedReadings : Type 0 where
  pub not_found : Goes gap_hub (Pose (LookUp 42)) (Replied (LookUp 42) (Ok None)) gap_hub
  pub never_found : (found : Found)
      → Goes gap_hub (Pose (LookUp 42)) (Replied (LookUp 42) (Ok (Some found))) gap_hub → ⊥
  pub look_up_faults : Goes late_hub (Pose (LookUp 42))
      (Replied (LookUp 42) (Err (refusal.NotReceived fault.Memory))) late_hub
  pub never_refused_at_the_door : Goes gap_hub (Pose (LookUp 42))
      (Replied (LookUp 42) (Err (refusal.Door at_door.UnknownCustodian))) gap_hub → ⊥
  pub extracted : Goes gap_hub (Pose (Extract 1003 1))
      (Replied (Extract 1003 1) (Ok (Some of_nothing))) gap_hub
  pub settled_first : Goes late_hub (Pose (Extract 1003 1))
      (Replied (Extract 1003 1) (Ok (Some of_nothing))) gap_hub
  pub never_from_before : Goes late_hub (Pose (Extract 1003 1))
      (Replied (Extract 1003 1) (Ok None)) gap_hub → ⊥
  pub never_unsettled : Goes late_hub (Pose (Extract 1003 1))
      (Replied (Extract 1003 1) (Ok None)) late_hub → ⊥
  pub not_reached : Goes gap_hub (Pose (Extract 1003 2))
      (Replied (Extract 1003 2) (Ok None)) gap_hub
  pub never_the_last_view : (text : List ℕ)
      → Goes gap_hub (Pose (Extract 1003 2)) (Replied (Extract 1003 2) (Ok (Some text))) gap_hub
      → ⊥
  pub unknown_first : Goes gap_hub (Pose (Extract 9998 0))
      (Replied (Extract 9998 0) (Err (refusal.Door at_door.UnknownCustodian))) gap_hub
  pub no_volume : Goes gap_hub (Pose (Extract 1003 0))
      (Replied (Extract 1003 0) (Err (refusal.Door at_door.BadVolume))) gap_hub
  pub never_received : Goes gap_hub (Pose (Extract 1003 1))
      (Replied (Extract 1003 1) (Err (refusal.ReceivedUnsettled fault.Memory))) gap_hub → ⊥
  pub listed : Goes gap_hub (Pose ListClosed) (Replied ListClosed (Ok [])) gap_hub
  pub never_listed : (closed : Closed)
      → Goes gap_hub (Pose ListClosed) (Replied ListClosed (Ok (closed ∷ []))) gap_hub → ⊥
  pub never_answered_otherwise : Goes gap_hub (Pose ListClosed)
      (Replied (LookUp 42) (Ok None)) gap_hub → ⊥
  pub looking_let_in : early_refusal sample_door (Pose (LookUp 0)) ≡ None
  pub listing_let_in : early_refusal sample_door (Pose ListClosed) ≡ None
  pub cause_of_a_reading : cause_of
      (Replied (Extract 1003 1) (Err (refusal.NotReceived fault.Store))) ≡ Some fault.Store
  pub no_cause : cause_of (Replied (LookUp 42) (Ok None)) ≡ None
  pub told_settles : is_settled (Replied ListClosed (Ok [])) ≡ true
  pub fault_settles_not : is_settled (Replied (LookUp 42) (Err (refusal.NotReceived fault.Memory)))
      ≡ false
  pub done_told : or_not_received {T = Unit {0}} (Err fault.Store)
      ≡ Err (refusal.NotReceived fault.Store)
  pub nothing_told : told (Ok None) ≡ Ok None
  pub refusal_told : told_all (Err (refusal.Door at_door.BadVolume))
      ≡ Err (refusal.Door at_door.BadVolume)
  pub extract_told : telling (Extract 1003 1) (Ok (Some of_nothing))
      ≡ Ok (Some (says.Extract of_nothing))
  pub list_told : telling ListClosed (Ok []) ≡ Ok (Some (says.Closed []))
  pub not_there_told : telling (LookUp 42) (Ok None) ≡ Ok None
  pub settling_told : telling Settle (Ok tt) ≡ Ok None
  pub door_told : telling (Extract 1003 0) (Err (refusal.Door at_door.BadVolume))
      ≡ Err (refusal.Door at_door.BadVolume)
  pub never_told_otherwise : telling ListClosed (Ok []) ≡ Ok None → ⊥
