use Rattle.gazhub.proofs.Playing.{plays}
use Rattle.gazhub.proofs.program.answer_all.Goals as goal

pub returns-in-Ok-clause-plays : goal.returns-in-Ok-clause-plays
returns-in-Ok-clause-plays g c =
    plays _ _ _ _ c.in_ok-register.register c.in_ok-conn.conn c.converse_opened-conn.result.conn c.in_ok-register.ensures c.in_ok-conn.ensures.new (rw c.in-Ok.is at c.converse_opened-conn.ensures.converses)
