use Rattle.std.proofs.Common.{◌<◌, length, refl, arith}
use Rattle.gaz_rows.specs.Rows.{lines_of}
use Rattle.gaz_register.proofs.Rowwise.{register_text-more}
use Rattle.gaz_register.proofs.text.rows_text.Goals as goal

pub loop-custodian-init : goal.loop-custodian-init
unfolding lines_of
loop-custodian-init c = c.new-text.ensures.items

pub loop-custodian-preserved : goal.loop-custodian-preserved
loop-custodian-preserved c =
    let x = c.custodian-item.result in
    let bound : c.loop-custodian.custodian-index < length c.args.custodians.now = omega arith in
    let more = register_text-more c.args.custodians.now c.loop-custodian.custodian-index x bound in
    let row = c.in_ok-row.ensures in
    rw (c.in_ok-push.ensures.items, c.in_ok-extend_from_slice.ensures.items, c.deref.ensures.value, row, c.loop-custodian.invariant, more, ← c.custodian-item.is) refl
