use Rattle.gaz_stored.specs.declared.connections.TheConstants.{MOST_REQUESTS}
use Rattle.gaz_filing.specs.Filing.{ServesStore}
use Rattle.gazhub.proofs.Serving.{silent_of, some_of}
use Rattle.gazhub.proofs.Sites.{met_in}
use Rattle.gazhub.proofs.attending.serve_in.Goals as goal

pub returns-clause-served : goal.returns-clause-served
returns-clause-served g c =
    let listened = c.listen-port in
    let served = c.serve_store-left in
    let came = met_in g.S.Site.done g.S.Peers.meets g.met.S.Site.tells g.S.Reader.Source.failed g.S.Writer.Sink.failed (ServesStore g.S.Medium.Disk c.args.files served.result.left c.args.register MOST_REQUESTS) listened.new.self served.new.peers
    served.result.told served.ensures.served served.ensures.nobody in
    record {
      bound = listened.result;
      met = came.0;
      between = served.new.peers;
      does = (listened.new.self, listened.ensures, came.1);
      serves = record { left = served.result.left; held = served.result.told; does = came.2; lacks = served.ensures.none; told_is = c.said_of_serving.ensures; closed = c.close.ensures };
      announced = served.ensures.announced;
      some = served.ensures.many;
      nobody = came.3;
    }

pub returns-clause-silent : goal.returns-clause-silent
returns-clause-silent g c = rw c.said_of_serving.ensures (silent_of _ _ _ c.serve_store-left.result.told c.serve_store-left.ensures.announced)

pub returns-clause-some : goal.returns-clause-some
returns-clause-some g c = rw c.said_of_serving.ensures (some_of _ c.serve_store-left.result.told c.serve_store-left.ensures.many)
