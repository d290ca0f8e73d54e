use Rattle.gaz_cells.proofs.CellsBack.{kind_read_in}
use Rattle.gaz_cells.proofs.bodies.Bodies.proposed.Goals as goal

pub returns-in-Ok : goal.returns-in-Ok
returns-in-Ok c = kind_read_in c.args.kind _ c.in-Ok.item c.in-Ok.ensures
