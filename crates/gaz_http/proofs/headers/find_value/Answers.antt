use Rattle.std.proofs.Common.{◌∙◌, ap, Some, None}
use Rattle.gaz_http.proofs.HeaderFacts.{value_of-found}
use Rattle.gaz_http.proofs.headers.find_value.Goals as goal

pub returns-in-Some : goal.returns-in-Some
returns-in-Some c = ap Some c.of.ensures ∙ value_of-found c.args.buf.now c.args.name.now c.args.headers.now (Some c.in-Some.header.now) c.in-Some.ensures.found

pub returns-in-None : goal.returns-in-None
returns-in-None c = value_of-found c.args.buf.now c.args.name.now c.args.headers.now None c.in-None.ensures.found
