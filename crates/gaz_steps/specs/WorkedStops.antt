-- Worked examples on what a stop may leave of a hub.
use Rattle.std.specs.Prelude.{true, false, ◌≡◌, [], ◌∷◌}
use Rattle.std.specs.FinMap as map
use Rattle.gaz_keeper.specs.Board.{empty_board}
use Rattle.gaz_keeper.specs.Keeper.{Content}
use Rattle.gaz_keeper.specs.declared.fault.ShelfFault.TheVariants as fault
use Rattle.gaz_views.specs.View.{empty_view}
use Rattle.gaz_steps.specs.Examples.{first_hub, first_sent, no_text}
use Rattle.gaz_steps.specs.Sample.{sample_door}
use Rattle.gaz_steps.specs.Step.{Command, HubState, Pose, Submit, Submitted, new_hub}
use Rattle.gaz_steps.specs.Stops.{HasReceived, IsLeftBy, IsLeftWith, is_taken_in}
use Rattle.gaz_steps.specs.declared.answer.Answer.TheVariants.{New, Repeat, Refused}
use Rattle.gaz_steps.specs.declared.outcome.Outcome.TheVariants.{Rejected}
use Rattle.gaz_steps.specs.declared.question.Question.TheVariants.{Stand}
use Rattle.gaz_steps.specs.declared.refusal.Refusal.TheVariants as refusal

-- a keeper of this hub, in which no judgement is in progress
abbrev pub at_rest : HubState → Content
at_rest hub = record { files = hub.received; board = hub.board; working = empty_view }

-- the first file was received, and wasn't judged
abbrev pub unjudged_hub : HubState
unjudged_hub = record { received = first_sent; board = empty_board }

-- the file comes for the first time
abbrev pub sends : Command
sends = Submit 1003 1 no_text

pub record WorkedStops : Type 0 where
  -- it is there or not, judged or not
  pub not_there : IsLeftBy sample_door sends new_hub (at_rest new_hub)
  pub there : IsLeftBy sample_door sends new_hub (at_rest unjudged_hub)
  pub there_and_judged : IsLeftBy sample_door sends new_hub (at_rest first_hub)
  -- once it is received it is there
  pub never_lost : IsLeftWith sample_door sends new_hub (at_rest new_hub) → ⊥
  -- nothing that was there is lost, and no file comes by a question
  pub never_forgotten : IsLeftBy sample_door sends first_hub (at_rest new_hub) → ⊥
  pub never_by_asking : IsLeftBy sample_door (Pose (Stand 1003)) new_hub (at_rest first_hub) → ⊥
  -- a file that was there comes no second time
  pub never_twice : IsLeftWith sample_door sends first_hub (at_rest first_hub) → ⊥
  -- who is told what
  pub new_is_taken_in : is_taken_in (Submitted (New (Rejected 1 1))) ≡ true
  pub unsettled_is_taken_in :
      is_taken_in (Submitted (Refused (refusal.ReceivedUnsettled fault.Store))) ≡ true
  pub not_received_is_not :
      is_taken_in (Submitted (Refused (refusal.NotReceived fault.Store))) ≡ false
  pub repeat_is_not : is_taken_in (Submitted (Repeat (Rejected 1 1))) ≡ false
  -- a file that was received stays, and one that wasn't need not
  pub received_stays :
      HasReceived (sends ∷ []) (Submitted (New (Rejected 1 1)) ∷ []) first_sent
  pub received_is_not_lost :
      HasReceived (sends ∷ []) (Submitted (New (Rejected 1 1)) ∷ []) map.empty → ⊥
  pub unreceived_may_lack : HasReceived (sends ∷ [])
      (Submitted (Refused (refusal.NotReceived fault.Store)) ∷ []) map.empty
