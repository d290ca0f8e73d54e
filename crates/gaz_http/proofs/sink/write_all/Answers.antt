use Rattle.std.proofs.Common.{◌+◌, arith, length-drop}
use Rattle.std.proofs.lemmas.List.{take_rest}
use Rattle.std.proofs.KnownBytes.{Appends-kept}
use Rattle.gaz_http.proofs.StreamFacts.{put_more, put_part}
use Rattle.gaz_http.proofs.sink.write_all.Goals as goal

pub returns-in_default-clause-put : goal.returns-in_default-clause-put
returns-in_default-clause-put g c = put_part _ _ c.args.text.now c.writes.at c.writes-test.true (Appends-kept _ _ _ _ c.writes.invariant.0 c.in_default.ensures.bytes)

pub returns-then-n-eq0-clause-put : goal.returns-then-n-eq0-clause-put
returns-then-n-eq0-clause-put g c =
    let e = rw (take_rest c.args.text.now c.writes.at) at c.in-Ok.ensures.bytes in
    put_part _ _ c.args.text.now (c.writes.at + c.in-Ok.n) (omega (arith, c.if-n-eq0.true, c.writes-test.true)) (put_more _ _ _ c.args.text.now c.writes.at c.in-Ok.n c.writes.invariant.0 e)

pub writes-preserved : goal.writes-preserved
writes-preserved g c =
    let e = rw (take_rest c.args.text.now c.writes.at) at c.in-Ok.ensures.bytes in
    let n = rw (take_rest c.args.text.now c.writes.at) at c.in-Ok.ensures.bound in
    (put_more _ _ _ c.args.text.now c.writes.at c.in-Ok.n c.writes.invariant.0 e, omega (arith, n, length-drop c.writes.at c.args.text.now))

pub returns-in_default-clause-failed : goal.returns-in_default-clause-failed
returns-in_default-clause-failed g c = λ e. (c.writes.w, c.in_default.ensures.told)

pub returns-then-n-eq0-clause-failed : goal.returns-then-n-eq0-clause-failed
returns-then-n-eq0-clause-failed g c =
    let told = rw (take_rest c.args.text.now c.writes.at) at c.in-Ok.ensures.told in
    λ e. (c.writes.w, told c.if-n-eq0.true (omega (arith, length-drop c.writes.at c.args.text.now, c.writes-test.true)))
