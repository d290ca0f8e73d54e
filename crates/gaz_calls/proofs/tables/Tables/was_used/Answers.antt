use Rattle.std.proofs.Common.{sym, true≢false}
use Rattle.gaz_calls.proofs.Answered.{asked_as}
use Rattle.gaz_calls.proofs.tables.Tables.was_used.Goals as goal

pub returns : goal.returns
returns g c = asked_as _ _ _ _ _ c.used.ensures (λ db kept b is. is (λ e. absurd (true≢false (sym e))))
