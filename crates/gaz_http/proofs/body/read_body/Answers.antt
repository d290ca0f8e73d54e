use Rattle.std.proofs.Common.{◌<◌, ◌++◌, ap, inl, inr, length, take, arith, refl, length-append, length-take}
use Rattle.std.proofs.KnownBytes.{Consumes-trans, Keeps-trans}
use Rattle.gaz_http.proofs.SparingFacts.{piece_begun, piece_within, used_up}
use Rattle.gaz_http.proofs.StreamFacts.{body_more}
use Rattle.gaz_http.proofs.body.read_body.Goals as goal

pub pieces-preserved : goal.pieces-preserved
pieces-preserved g c =
    let (kept, bs, eaten, same, fits, asked) = c.pieces.invariant in
    let (more, drunk, grown, some) = c.in-Some.ensures.read in
    let b = body_more c.args.inlet.now bs more c.pieces.out.items c.pieces.inlet c.refill.new.inlet (take c.min-count.result c.refill.new.inlet) c.min-count.result same grown refl in
    let n = c.min-count.result in
    let part = c.pending-part.result.now in
    let longer = length-append c.pieces.out.items (take n part) in (
      Keeps-trans _ _ _ kept c.refill.ensures.written,
      bs ++ more,
      Consumes-trans _ _ _ _ _ eaten drunk,
      rw (c.in-Ok-extend_from_slice.ensures.items, c.pending-part.ensures.pending, c.take.ensures) b,
      rw c.in-Ok-extend_from_slice.ensures.items (omega (arith, longer, length-take n part, c.min-count.ensures, c.len.ensures, c.len-in-pieces.ensures, fits, c.pieces.out.ok)),
      rw c.in-Ok-extend_from_slice.ensures.items (omega (arith, longer, length-take n part, c.min-count.ensures, c.len.ensures, c.len-in-pieces.ensures, c.pieces-test.true, c.pieces.out.ok, rw (← c.pending-part.ensures.pending) at some, asked, c.in-Some.ensures.counted)),
    )

pub returns-in_default-extend_from_slice-clause-read : goal.returns-in_default-extend_from_slice-clause-read
returns-in_default-extend_from_slice-clause-read g c =
    let (kept, bs, eaten, same, fits, asked) = c.pieces.invariant in
    let (more, drunk, grown, some) = c.in-Some.ensures.read in
    let each = piece_begun _ _ _ c.args.inlet.now bs more c.pieces.out.items c.pieces.inlet _ same grown some asked c.in-Some.ensures.counted in
    let short : length c.pieces.out.items < c.args.size = omega (arith, c.len.ensures, c.pieces-test.true, c.pieces.out.ok) in
    let within = piece_within _ _ _ c.args.size (length c.pieces.out.items) short (omega (arith, asked, c.in-Some.ensures.counted)) each in
    (bs ++ more, Consumes-trans _ _ _ _ _ eaten drunk, (omega arith, within))

pub returns-clause-read : goal.returns-clause-read
returns-clause-read g c =
    let (kept, bs, eaten, same, fits, asked) = c.pieces.invariant in
    let whole = ap length same in
    (bs, eaten, ((same, omega arith), omega (arith, asked, whole, length-append c.args.inlet.now bs, length-append c.pieces.out.items c.pieces.inlet)))

pub returns-in-End-clause-read : goal.returns-in-End-clause-read
returns-in-End-clause-read g c =
    let (kept, bs, eaten, same, fits, asked) = c.pieces.invariant in
    let (more, drunk, grown, ended) = c.in-End.ensures.read in
    let all = used_up c.args.inlet.now bs more c.pieces.out.items c.pieces.inlet _ same grown ended.0 in
    (bs ++ more, Consumes-trans _ _ _ _ _ eaten drunk, ((omega (arith, all), ended.1), inr (omega (arith, all, asked, c.in-End.ensures.counted), ended.1)))

pub returns-in-Failed-clause-read : goal.returns-in-Failed-clause-read
returns-in-Failed-clause-read g c =
    let (kept, bs, eaten, same, fits, asked) = c.pieces.invariant in
    let (more, drunk, grown, none) = c.in-Failed.ensures.read in
    let all = used_up c.args.inlet.now bs more c.pieces.out.items c.pieces.inlet _ same grown none in (
      bs ++ more,
      Consumes-trans _ _ _ _ _ eaten drunk,
      (
        omega (arith, all),
        elim c.in-Failed.ensures.counted [
          | inl each ↦ inl (omega (arith, all, asked, each))
          | inr last ↦ inr (omega (arith, all, asked, last.0), last.1)
        ],
      ),
    )
