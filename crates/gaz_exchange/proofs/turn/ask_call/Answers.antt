use Rattle.std.proofs.Common.{◌∙◌, ap}
use Rattle.gaz_steps.specs.Step.{Replied, Submitted}
use Rattle.gaz_exchange.specs.Replies.{reply_told}
use Rattle.gaz_exchange.proofs.turn.ask_call.Goals as goal

pub returns-in-Submit-clause-asked : goal.returns-in-Submit-clause-asked
returns-in-Submit-clause-asked g c = rw c.in-Submit.is (Submitted c.submit.result, c.submit.ensures.steps, c.submit.ensures.door.at_door, c.into.ensures)

pub returns-in-Pose-clause-asked : goal.returns-in-Pose-clause-asked
returns-in-Pose-clause-asked g c =
    let posed = c.ask.ensures.posed in
    rw c.in-Pose.is (Replied c.in-Pose.question posed.reply, posed.steps, posed.door.at_door, c.told.ensures ∙ ap reply_told posed.tells)
