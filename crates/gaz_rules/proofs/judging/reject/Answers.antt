-- The judgement is given up, and then the keeper fails to mark the volume.
use Rattle.gaz_rules.proofs.Phases.{not_rejected}
use Rattle.gaz_rules.proofs.judging.reject.Goals as goal

pub returns-in_err-skip : goal.returns-in_err-skip
returns-in_err-skip g c =
    not_rejected (g.K.Shelf.seen c.args.keeper.now) (g.K.Shelf.seen c.abandon.new.self) (g.K.Shelf.seen c.skip.new.self) c.args.code c.args.fault c.in_err-skip.field-0.0
    (rw c.in_ok-abandon.was at c.abandon.ensures)
    c.in_err-skip.ensures
    c.from_residual-in_err-skip.result c.from_residual-in_err-skip.ensures.1
