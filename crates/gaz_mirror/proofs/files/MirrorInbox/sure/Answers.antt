-- The lower keeper was only read.
use Rattle.gaz_mirror.proofs.Readings.{still_ahead, still_in_step}
use Rattle.gaz_mirror.proofs.files.MirrorInbox.sure.Goals as goal

pub invariant_of-self-else-is_none-clause-in_step : goal.invariant_of-self-else-is_none-clause-in_step
invariant_of-self-else-is_none-clause-in_step g c = λ none u is. still_in_step _ _ _ c.sure-sure.ensures.reads.keeps.progress (c.args.self.now.in_step none u is)

pub invariant_of-self-else-is_none-clause-ahead : goal.invariant_of-self-else-is_none-clause-ahead
invariant_of-self-else-is_none-clause-ahead g c = λ x is u there. still_ahead _ _ _ x c.sure-sure.ensures.reads.keeps.progress (c.args.self.now.ahead x is u there)

pub invariant_of-self-else-is_err-clause-in_step : goal.invariant_of-self-else-is_err-clause-in_step
invariant_of-self-else-is_err-clause-in_step g c = λ none u is. still_in_step _ _ _ c.sure-sure.ensures.reads.keeps.progress (c.args.self.now.in_step none u is)

pub invariant_of-self-else-is_err-clause-ahead : goal.invariant_of-self-else-is_err-clause-ahead
invariant_of-self-else-is_err-clause-ahead g c = λ x is u there. still_ahead _ _ _ x c.sure-sure.ensures.reads.keeps.progress (c.args.self.now.ahead x is u there)
