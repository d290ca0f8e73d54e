-- What comes of the connections that are left comes of them all.
use Rattle.std.proofs.Common.{◌+◌, ◌≤◌}
use Rattle.gazhub.specs.Serving.{ServesRest}
use Rattle.gazhub.specs.declared.ending.Ending.{Ending}
use Rattle.gazhub.proofs.attending.serve_rest.Given as goal

abbrev pub invariant-loop-opening : goal.invariant-loop-opening
invariant-loop-opening g l =
    ((after : g.row.S.Denot) (ending : Ending) → ServesRest g.S.Site.done g.S.Medium.Disk l.fn.places l.fn.serving.port l.left l.site after ending
    → ServesRest g.S.Site.done g.S.Medium.Disk l.fn.places l.fn.serving.port l.fn.serving.connections l.fn.site after ending)
    × (l.left + l._opening ≤ l.fn.serving.connections)
