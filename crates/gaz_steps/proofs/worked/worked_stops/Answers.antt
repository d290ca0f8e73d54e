use Rattle.gaz_steps.proofs.WorkedStops.{worked_stops_hold}
use Rattle.gaz_steps.proofs.worked.worked_stops.Goals as goal

pub returns : goal.returns
returns c = worked_stops_hold
