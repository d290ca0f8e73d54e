use Rattle.std.proofs.Common.{arith, inr}
use Rattle.gaz_http.proofs.HeadFacts.{never_too_long, no_from_none, never_from_long}
use Rattle.gaz_http.proofs.heads.parse_head.Goals as goal

pub returns-then-spans-gt-HEAD_LIMIT : goal.returns-then-spans-gt-HEAD_LIMIT
returns-then-spans-gt-HEAD_LIMIT c =
    let e = rw c.in-Ok-Complete.field-0-is at c.in-Ok-Complete.ensures in
    (never_too_long c.args.bytes.now _ _ _ e.complete.1 c.if-spans-gt-HEAD_LIMIT.true, inr (omega (arith, e.within.section.len_fits)))

pub returns-in-Ok-Partial : goal.returns-in-Ok-Partial
returns-in-Ok-Partial c =
    let e = rw c.in-Ok-Partial.field-0-is at c.in-Ok-Partial.ensures in
    (no_from_none c.args.bytes.now e.partial, λ long. never_from_long c.args.bytes.now e.partial long)
