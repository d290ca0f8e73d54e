use Rattle.gaz_standing.proofs.TieFacts.{ties_set}
use Rattle.gaz_ledger.proofs.changes.change.Goals as goal

pub returns-in-Ok-clause-ties : goal.returns-in-Ok-clause-ties
returns-in-Ok-clause-ties c =
    ties_set c.args.ties.now c.note.new.self c.args.histories.now c.set_found.new.histories c.args.reached c.args.item c.args.key.now c.note.ensures c.in-Ok.ensures.ok
