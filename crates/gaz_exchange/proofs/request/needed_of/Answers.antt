use Rattle.std.proofs.Common.{◌≡◌, ◌∙◌, ap, map, take}
use Rattle.httparse.specs.Spans.{header_bytes}
use Rattle.gaz_http.specs.Headers.{headers_of, is_closing}
use Rattle.gaz_exchange.specs.Asking.{method_of}
use Rattle.gaz_exchange.specs.Framing.{is_post, is_post_method, length_of}
use Rattle.gaz_exchange.proofs.request.needed_of.Goals as goal

pub returns-clause-needed : goal.returns-clause-needed
unfolding length_of is_closing
returns-clause-needed c = λ h at.
    let method = c.of-method.ensures ∙ at.method in
    let post : c.is_post.result ≡ is_post h = c.is_post.ensures ∙ ap is_post_method method in
    let seen : map (header_bytes c.args.bytes.now) (take c.args.spans.headers c.args.headers.now) ≡ headers_of h = at.fields in
    let target = c.of.ensures ∙ at.path in
    let asked = c.of-2.ensures ∙ ap method_of method in
    record {
      framing_is = rw (post, seen) at c.find_framing.ensures;
      call_is = rw (asked, target) at c.call.ensures.call;
      closing_is = rw (at.version, seen) at c.closes.ensures;
    }
