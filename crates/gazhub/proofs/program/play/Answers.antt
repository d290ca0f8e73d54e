use Rattle.gazhub.proofs.program.play.Goals as goal

pub returns-in-Some-Ok : goal.returns-in-Some-Ok
returns-in-Some-Ok g c = (_, rw c.in-Some-Ok.field-0-is at c.in-Some-Ok.ensures.plays)

pub returns-in-ReadFault : goal.returns-in-ReadFault
returns-in-ReadFault g c = rw (← c.in-ReadFault.is) (c.in-Some-Err.stopped.requests, rw c.in-Some-Err.field-0-is at c.in-Some-Err.ensures.plays)

pub returns-in-WriteFault : goal.returns-in-WriteFault
returns-in-WriteFault g c = rw (← c.in-WriteFault.is) (c.in-Some-Err.stopped.requests, rw c.in-Some-Err.field-0-is at c.in-Some-Err.ensures.plays)
