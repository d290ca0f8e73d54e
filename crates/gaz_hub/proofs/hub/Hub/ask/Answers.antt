-- Each question is answered by the call that answers it alone.
use Rattle.gaz_steps.specs.Hubs.{or_not_received, told, told_all}
use Rattle.gaz_steps.specs.declared.question.Question.TheVariants.{Extract, ListClosed}
use Rattle.gaz_hub.proofs.Forgetting.{forgets_settling, forgets_told, forgets_told_all}
use Rattle.gaz_hub.proofs.hub.Hub.ask.Goals as goal

pub returns-in-Ask-clause-posed : goal.returns-in-Ask-clause-posed
returns-in-Ask-clause-posed g c =
    rw c.in-Ask.is
    (record {
      reply = c.outcome.result;
      tells = c.of_outcome.ensures c.in-Ask.code c.in-Ask.volume;
      steps = c.outcome.ensures.steps;
      forgets = c.outcome.ensures.forgets;
      door = c.outcome.ensures.door;
    })

pub returns-in-Stand-clause-posed : goal.returns-in-Stand-clause-posed
returns-in-Stand-clause-posed g c =
    rw c.in-Stand.is
    (record {
      reply = c.status.result;
      tells = c.of_standing.ensures c.in-Stand.code;
      steps = c.status.ensures.steps;
      forgets = c.status.ensures.forgets;
      door = c.status.ensures.door;
    })

pub returns-in-Settle-clause-posed : goal.returns-in-Settle-clause-posed
returns-in-Settle-clause-posed g c =
    rw c.in-Settle.is
    (record {
      reply = or_not_received c.settle.result;
      tells = c.of_settling.ensures;
      steps = c.settle.ensures.steps;
      forgets = forgets_settling c.settle.new.self c.settle.result c.settle.ensures.forgets;
      door = c.settle.ensures.door;
    })

pub returns-in-LookUp-clause-posed : goal.returns-in-LookUp-clause-posed
returns-in-LookUp-clause-posed g c =
    rw c.in-LookUp.is
    (record {
      reply = c.lookup.result;
      tells = c.of_property.ensures c.in-LookUp.uprn;
      steps = c.lookup.ensures.steps;
      forgets = c.lookup.ensures.forgets;
      door = c.lookup.ensures.door;
    })

pub returns-in-Extract-clause-posed : goal.returns-in-Extract-clause-posed
returns-in-Extract-clause-posed g c =
    rw c.in-Extract.is
    (record {
      reply = told c.extract.result;
      tells = c.of_extract.ensures c.in-Extract.code c.in-Extract.volume;
      steps = c.extract.ensures.steps;
      forgets = forgets_told (Extract c.in-Extract.code c.in-Extract.volume) c.extract.new.self c.extract.result c.extract.ensures.forgets;
      door = c.extract.ensures.door;
    })

pub returns-in-ListClosed-clause-posed : goal.returns-in-ListClosed-clause-posed
returns-in-ListClosed-clause-posed g c =
    rw c.in-ListClosed.is
    (record {
      reply = told_all c.closed_streets.result;
      tells = c.of_closed.ensures;
      steps = c.closed_streets.ensures.steps;
      forgets = forgets_told_all ListClosed c.closed_streets.new.self c.closed_streets.result c.closed_streets.ensures.forgets;
      door = c.closed_streets.ensures.door;
    })
