use Rattle.std.proofs.Common.{◌≡◌, ◌≤◌, length, true, arith, ap, Some}
use Rattle.std.proofs.lemmas.Bool.Decides.{nat_tests}
use Rattle.gaz_fields.specs.Labels.{is_label}
use Rattle.gaz_fields.proofs.LabelBytes.{fill_done, fill_more, fill_reads}
use Rattle.gaz_fields.proofs.label.Label.read.Goals as goal

pub loop-i-preserved : goal.loop-i-preserved
loop-i-preserved g c =
    let short : length c.args.text.now ≤ g.row.MOST = omega arith in
    rw c.loop-i.invariant (fill_more g.row.MOST c.loop-i.i c.args.text.now c.loop-i-test.true short)

pub returns : goal.returns
returns g c =
    let label : is_label g.row.MOST c.args.text.now ≡ true = grind (arith, nat_tests) in
    let end : c.loop-i.i ≡ length c.args.text.now = omega arith in
    rw (c.loop-i.invariant, end, label) (ap Some (fill_reads g.row.MOST c.args.text.now label))

pub invariant_of-result : goal.invariant_of-result
invariant_of-result g c =
    let label : is_label g.row.MOST c.args.text.now ≡ true = grind (arith, nat_tests) in
    let end : c.loop-i.i ≡ length c.args.text.now = omega arith in
    rw (c.loop-i.invariant, end) (fill_done g.row.MOST c.args.text.now label)
