use Rattle.gaz_steps.proofs.WorkedReadings.{worked_readings_hold}
use Rattle.gaz_steps.proofs.worked.worked_readings.Goals as goal

pub returns : goal.returns
returns c = worked_readings_hold
