use Rattle.std.proofs.Common.{◌≡◌}
use Rattle.std.specs.Prelude.{decimal}
use Rattle.gaz_fields.proofs.Growing.{◌>>◌}
use Rattle.gaz_fields.proofs.Written.{row_is}
use Rattle.gaz_records.specs.Blpus.{texts_behind}
use Rattle.gaz_records.proofs.blpu.Blpu.write.Goals as goal

pub returns-clause-row : goal.returns-clause-row
returns-clause-row c =
    let x = c.args.self.now in
    let number-is : c.self.inside.uprn ≡ x.uprn = cc in
    let uprn = rw (c.number.ensures.value, number-is) at c.in_ok-add_number.ensures.row in
    row_is c.args.out.now.items _ _ (decimal x.uprn) (texts_behind x) uprn c.in_ok-write_behind.ensures.row

pub returns-in_err-write_behind-clause-kept : goal.returns-in_err-write_behind-clause-kept
returns-in_err-write_behind-clause-kept c = c.add_number.ensures.kept >> c.write_behind.ensures.kept

pub returns-clause-kept : goal.returns-clause-kept
returns-clause-kept c = c.add_number.ensures.kept >> c.write_behind.ensures.kept
