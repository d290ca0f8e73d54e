-- Those who were to be looked at are looked at.
use Rattle.std.proofs.Common.{◌∙◌}
use Rattle.gaz_steps.specs.Hubs.{door_of}
use Rattle.gaz_hub.proofs.Memory.{rest_of_taken}
use Rattle.gaz_hub.proofs.settling.settle_round.Goals as goal

pub returns-clause-rest : goal.returns-clause-rest
returns-clause-rest g c =
    rest_of_taken (door_of c.args.register.now) c.args.waiters.now c.as_slice.result.now c.take_ahead-codes.new.self c.judge_each.new.waiters
    (g.K.Shelf.seen c.args.keeper.now) (g.K.Shelf.seen c.judge_each.new.keeper) c.judge_each.result
    (c.as_slice.ensures.value ∙ c.take_ahead-codes.ensures.taken) c.take_ahead-codes.ensures.left c.judge_each.ensures.rest
