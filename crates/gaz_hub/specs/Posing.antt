-- What a hub tells of any question.
use Rattle.std.specs.Prelude.{◌≡◌, Option, Result}
use Rattle.gaz_keeper.specs.Keeper.{Seen}
use Rattle.gaz_steps.specs.Hubs.{MeetsDoor, door_of}
use Rattle.gaz_hub.specs.Seen.{ForgetsOver, hub_seen}
use Rattle.gaz_steps.specs.Step.{Pose, Replied, Told}
use Rattle.gaz_hub.specs.Telling.{RepliesTo}
use Rattle.gaz_hub.specs.declared.hub.Hub.{Hub}
use Rattle.gaz_steps.specs.declared.question.Question.{Question}
use Rattle.gaz_steps.specs.declared.refusal.Refusal.{Refusal}
use Rattle.gaz_steps.specs.declared.question.Told as any
use Rattle.gaz_steps.specs.ToldOn.{telling}

-- there is a reply to the question, of which this is told: it is a step
pub record IsPosed {K : Type 0} (seen : K → Seen) (old new : Hub K) (q : Question)
    (result : Result (Option any.Told) Refusal) : Type 0 where
  pub reply : Result (Told q) Refusal
  pub tells : result ≡ telling q reply
  pub steps : RepliesTo (hub_seen seen) old.register old new q reply
  pub forgets : ForgetsOver q reply new
  pub door : MeetsDoor (door_of old.register) old.keeper new.keeper (Pose q) (Replied q reply)
