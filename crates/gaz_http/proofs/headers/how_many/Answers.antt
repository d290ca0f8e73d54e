use Rattle.std.proofs.Common.{rules, ◌≡◌, ◌∙◌, sym}
use Rattle.std.specs.Prelude.{count_by}
use Rattle.std.specs.Str.{str_eq_ignore_ascii_case}
use Rattle.httparse.specs.Spans.{header_bytes, span_bytes}
use Rattle.gaz_http.specs.Headers.{is_named}
use Rattle.gaz_http.proofs.HeaderFacts.{count_by-map}
use Rattle.gaz_http.proofs.headers.how_many.Goals as goal

pub returns : goal.returns
returns c =
    let buf = c.args.buf.now in
    let name = c.args.name.now in
    let direct : c.count.result ≡ count_by (λ h. str_eq_ignore_ascii_case (span_bytes buf h.name) name) c.args.headers.now = search rules in
    direct ∙ sym (count_by-map (is_named name) (header_bytes buf) c.args.headers.now)
