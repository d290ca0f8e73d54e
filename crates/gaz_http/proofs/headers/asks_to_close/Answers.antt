use Rattle.std.proofs.Common.{rules, ◌∙◌, sym, tests}
use Rattle.std.proofs.lemmas.Iterator.{YieldsList-from_slice}
use Rattle.std.proofs.lemmas.Iterator.Search.{any_from_yields_List}
use Rattle.httparse.specs.Spans.{header_bytes}
use Rattle.gaz_http.specs.Headers.{is_close_header}
use Rattle.gaz_http.proofs.HeaderFacts.{list_any-map}
use Rattle.gaz_http.proofs.headers.asks_to_close.Goals as goal

pub returns : goal.returns
returns c =
    let buf = c.args.buf.now in
    any_from_yields_List (λ h. is_close_header (header_bytes buf h)) _ _ c.any.result c.any.ensures.ran
    (YieldsList-from_slice c.args.headers.now cc) (λ x b q k. search (rules, tests))
    ∙ sym (list_any-map is_close_header (header_bytes buf) c.args.headers.now)
