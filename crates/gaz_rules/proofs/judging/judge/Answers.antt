-- A judgement, from its beginning to its end.
use Rattle.gaz_register.specs.Registers.{blocks_of}
use Rattle.gaz_rules.proofs.Phases.{judged}
use Rattle.gaz_rules.proofs.judging.judge.Goals as goal

pub returns-in-Ok : goal.returns-in-Ok
returns-in-Ok g c =
    judged _ (g.K.Shelf.seen c.begin.new.self) (g.K.Shelf.seen c.phases.new.keeper) _ c.args.code (blocks_of c.args.register.now c.args.code) c.args.file.now c.in-Ok.found c.conclude.result
    c.in_ok-begin.ensures
    c.in-Ok.ensures
    c.conclude.ensures
