use Rattle.std.proofs.Common.{◌≡◌, ◌∙◌, ◌++◌, ap, drop, inl, append_assoc}
use Rattle.std.proofs.KnownBytes.{Consumes-trans}
use Rattle.gaz_http.specs.Heads.{BeginsWith}
use Rattle.gaz_http.proofs.HeadFacts.{begins_more}
use Rattle.gaz_exchange.proofs.IncomingFacts.{bad_head, head_then}
use Rattle.gaz_exchange.proofs.SparingFacts.{read_behind, spared_by_bad, spared_by_open}
use Rattle.gaz_exchange.proofs.request.next_request.Goals as goal

pub returns-in-Bad-clause-read : goal.returns-in-Bad-clause-read
returns-in-Bad-clause-read g c =
    let (bs, eaten, grown, next) = c.in-Bad.ensures.read in
    (bs, eaten, (rw grown at (bad_head _ _ next.0 next.1), (rw grown at c.in-Bad.ensures.counted, spared_by_bad _ _ _ _ _ grown c.next_head.ensures.short next.0)))

pub returns-in-Head-clause-read : goal.returns-in-Head-clause-read
returns-in-Head-clause-read g c =
    let (bs, eaten, grown, next) = c.in-Head.ensures.read in
    let (more, drunk, (behind, spent)) = c.with_body.ensures.read in
    let (within, h, stands, short, few) = next in
    let pending = c.next_head.new.inlet in
    let begins : BeginsWith pending h (drop c.in-Head.spans.len pending) = record { reads = stands.reads; short = short; few = few } in
    let needed = c.needed_of-needed.ensures.needed h (rw c.pending-bytes.ensures.pending stands) in
    let all : pending ++ more ≡ c.args.intake.now.inlet ++ (bs ++ more) = ap (λ l. l ++ more) grown ∙ append_assoc c.args.intake.now.inlet bs more in
    let longer = begins_more pending h _ more begins in
    let came = head_then (pending ++ more) h _ longer _ _ _ c.needed_of-needed.result c.with_body.result needed (rw c.take.ensures at behind) in
    let counted = read_behind _ _ _ pending _ more c.in-Head.ensures.counted h longer c.needed_of-needed.result needed.framing_is _ _ _ c.with_body.result came (rw c.take.ensures at spent) in
    (bs ++ more, Consumes-trans _ _ _ _ _ eaten drunk, (rw all at came, rw all at counted))

pub returns-in-Failed-clause-read : goal.returns-in-Failed-clause-read
returns-in-Failed-clause-read g c =
    let (bs, eaten, grown, none) = c.in-Failed.ensures.read in
    (bs, eaten, (inl (rw grown at none), (rw grown at c.in-Failed.ensures.counted, spared_by_open _ _ _ _ grown c.next_head.ensures.short none)))
