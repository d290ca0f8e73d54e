use Rattle.gaz_steps.proofs.Headline.{every_answer_over}
use Rattle.gaz_hub.specs.Seen.{hub_seen}
use Rattle.gaz_hub.proofs.laws.every_answer_over.Goals as goal

pub returns : goal.returns
returns g c = record { keeper = every_answer_over g.K.Shelf.seen; hub = every_answer_over (hub_seen g.K.Shelf.seen) }
