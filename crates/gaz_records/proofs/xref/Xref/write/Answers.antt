use Rattle.std.proofs.Common.{[], ◌∷◌}
use Rattle.std.specs.Prelude.{decimal}
use Rattle.gaz_fields.specs.Days.{date_text, end_text}
use Rattle.gaz_fields.proofs.Growing.{◌>>◌}
use Rattle.gaz_fields.proofs.Written.{more, row_is}
use Rattle.gaz_records.proofs.xref.Xref.write.Goals as goal

pub returns-clause-row : goal.returns-clause-row
returns-clause-row c =
    let x = c.self.inside in
    let key = rw c.as_bytes.ensures.value at c.in_ok-add_field.ensures.row in
    let uprn = rw c.number.ensures.value at c.in_ok-next_number.ensures.row in
    let source = rw c.as_bytes-2.ensures.value at c.in_ok-next_field.ensures.row in
    let reference = rw c.as_bytes-3.ensures.value at c.in_ok-next_field-2.ensures.row in
    let u = decimal x.uprn in
    let dates = date_text x.start ∷ end_text x.end ∷ [] in
    let two = more _ _ _ (u ∷ []) (x.source ∷ []) uprn source in
    let three = more _ _ _ (u ∷ x.source ∷ []) (x.reference ∷ []) two reference in
    let all = more _ _ _ (u ∷ x.source ∷ x.reference ∷ []) dates three c.in_ok-next_dates.ensures.row in
    rw (← c.self.view_is) (row_is c.args.out.now.items _ _ x.key (u ∷ x.source ∷ x.reference ∷ dates) key all)

pub returns-in_err-next_number-clause-kept : goal.returns-in_err-next_number-clause-kept
returns-in_err-next_number-clause-kept c = c.add_field.ensures.kept >> c.next_number.ensures.kept

pub returns-in_err-next_field-clause-kept : goal.returns-in_err-next_field-clause-kept
returns-in_err-next_field-clause-kept c = c.add_field.ensures.kept >> c.next_number.ensures.kept >> c.next_field.ensures.kept

pub returns-in_err-next_field-2-clause-kept : goal.returns-in_err-next_field-2-clause-kept
returns-in_err-next_field-2-clause-kept c =
    c.add_field.ensures.kept >> c.next_number.ensures.kept
    >> c.next_field.ensures.kept >> c.next_field-2.ensures.kept

pub returns-in_err-next_dates-clause-kept : goal.returns-in_err-next_dates-clause-kept
returns-in_err-next_dates-clause-kept c =
    c.add_field.ensures.kept >> c.next_number.ensures.kept >> c.next_field.ensures.kept
    >> c.next_field-2.ensures.kept >> c.next_dates.ensures.kept

pub returns-clause-kept : goal.returns-clause-kept
returns-clause-kept c =
    c.add_field.ensures.kept >> c.next_number.ensures.kept >> c.next_field.ensures.kept
    >> c.next_field-2.ensures.kept >> c.next_dates.ensures.kept
