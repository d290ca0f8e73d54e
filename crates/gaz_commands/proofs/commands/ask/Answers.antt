use Rattle.std.proofs.Common.{◌∙◌, ap}
use Rattle.gaz_steps.specs.Step.{Replied}
use Rattle.gaz_commands.specs.Saying.{said_told}
use Rattle.gaz_commands.proofs.commands.ask.Goals as goal

pub returns-clause-answered : goal.returns-clause-answered
returns-clause-answered g c =
    let posed = c.ask.ensures.posed in
    record {
      response = Replied c.args.question posed.reply;
      steps = posed.steps;
      door = posed.door;
      said_is = c.told.ensures ∙ ap said_told posed.tells;
    }
