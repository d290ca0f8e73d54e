use Rattle.gaz_views.proofs.CustodyExamples.{custody_holds, ties_hold}
use Rattle.gaz_views.proofs.laws.worked_custody.Goals as goal

pub returns : goal.returns
returns c = record { custody = custody_holds; ties = ties_hold }
