use Rattle.std.proofs.Common.{inl, sym}
use Rattle.gaz_cells.proofs.Fitting.{body_says}
use Rattle.gaz_cells.proofs.bodies.Bodies.item.Goals as goal

pub returns-in-Some : goal.returns-in-Some
returns-in-Some c = inl (sym (body_says c.args.kind c.args.body.now c.in-Some.item c.known.ensures c.in-Some.ensures.kind c.in-Some.ensures.body))
