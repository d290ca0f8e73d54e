use Rattle.std.proofs.Common.{◌++◌, ◌∙◌, ap, append_assoc}
use Rattle.std.proofs.KnownBytes.{Consumes-trans, Keeps-trans}
use Rattle.gaz_http.proofs.SparingFacts.{read_once_more}
use Rattle.gaz_http.proofs.heads.next_head.Goals as goal

pub reads-preserved : goal.reads-preserved
reads-preserved g c =
    let s = c.reads.invariant in
    let (bs, eaten, grown) = s.came in
    let (more, drunk, all, some) = c.in-Some.ensures.read in
    record {
      kept = Keeps-trans _ _ _ s.kept c.in-Some.ensures.written;
      came = (bs ++ more, Consumes-trans _ _ _ _ _ eaten drunk, all ∙ ap (λ l. l ++ more) grown ∙ append_assoc c.args.inlet.now bs more);
      counted = read_once_more _ _ _ c.reads.inlet more _ s.counted (rw c.pending.ensures.pending at c.in-Open.ensures).0 c.in-Some.ensures.counted some all;
    }
