use Rattle.std.proofs.Common.{◌≡◌}
use Rattle.gaz_mirror.specs.Mirrored.{seen_mirrored}
use Rattle.gaz_stored.specs.Meetings.{WithPeers}
use Rattle.gaz_stored.specs.Serving.{Serves}
use Rattle.gaz_stored.proofs.connections.serve_on.Given as goal

abbrev pub invariant-loop-behind : goal.invariant-loop-behind
invariant-loop-behind g l =
    WithPeers g.P.Peers.meets g.P.Reader.Source.failed g.P.Writer.Sink.failed (Serves seen_mirrored 1000 l.behind l.fn.hub l.hub) l.fn.peers l.peers × (l.hub.register ≡ l.fn.hub.register)
