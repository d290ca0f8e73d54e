use Rattle.std.proofs.Common.{[], ◌∷◌, ◌++◌, append_assoc}
use Rattle.std.specs.Prelude.{decimal}
use Rattle.gaz_ids.specs.Codes.{lang_text, status_text}
use Rattle.gaz_addressable.specs.Objects.{texts_of}
use Rattle.gaz_fields.specs.Days.{date_text, end_text}
use Rattle.gaz_fields.proofs.Growing.{◌>>◌}
use Rattle.gaz_fields.proofs.Written.{more, row_is}
use Rattle.gaz_records.specs.Lpis.{secondary_texts}
use Rattle.gaz_records.proofs.lpi.Lpi.write.Goals as goal

pub returns-clause-row : goal.returns-clause-row
returns-clause-row c =
    let x = c.self.inside in
    let key = rw c.as_bytes.ensures.value at c.in_ok-add_field.ensures.row in
    let uprn = rw c.number.ensures.value at c.in_ok-next_number.ensures.row in
    let lang = rw c.text.ensures at c.in_ok-next_field.ensures.row in
    let status = rw c.text-2.ensures at c.in_ok-next_field-2.ensures.row in
    let usrn = rw c.number-2.ensures.value at c.in_ok-next_number-2.ensures.row in
    let u = decimal x.uprn in
    let l = lang_text x.lang in
    let s = status_text x.status in
    let n = decimal x.usrn in
    let second = secondary_texts x.secondary in
    let first = texts_of x.primary in
    let dates = date_text x.start ∷ end_text x.end ∷ [] in
    let two = more _ _ _ (u ∷ []) (l ∷ []) uprn lang in
    let three = more _ _ _ (u ∷ l ∷ []) (s ∷ []) two status in
    let four = more _ _ _ (u ∷ l ∷ s ∷ []) (n ∷ []) three usrn in
    let objects = more _ _ _ second first c.in_ok-next_secondary.ensures.row c.in_ok-next_object.ensures.row in
    let behind = more _ _ _ (second ++ first) dates objects (rw c.day.ensures at c.in_ok-next_dates.ensures.row) in
    let all = more _ _ _ (u ∷ l ∷ s ∷ n ∷ []) ((second ++ first) ++ dates) four behind in
    rw (← c.self.view_is) (row_is c.args.out.now.items _ _ x.key (u ∷ l ∷ s ∷ n ∷ (second ++ (first ++ dates))) key (rw (append_assoc second first dates) at all))

pub returns-in_err-next_number-clause-kept : goal.returns-in_err-next_number-clause-kept
returns-in_err-next_number-clause-kept c = c.add_field.ensures.kept >> c.next_number.ensures.kept

pub returns-in_err-next_field-clause-kept : goal.returns-in_err-next_field-clause-kept
returns-in_err-next_field-clause-kept c = c.add_field.ensures.kept >> c.next_number.ensures.kept >> c.next_field.ensures.kept

pub returns-in_err-next_field-2-clause-kept : goal.returns-in_err-next_field-2-clause-kept
returns-in_err-next_field-2-clause-kept c =
    c.add_field.ensures.kept >> c.next_number.ensures.kept
    >> c.next_field.ensures.kept >> c.next_field-2.ensures.kept

pub returns-in_err-next_number-2-clause-kept : goal.returns-in_err-next_number-2-clause-kept
returns-in_err-next_number-2-clause-kept c =
    c.add_field.ensures.kept >> c.next_number.ensures.kept >> c.next_field.ensures.kept
    >> c.next_field-2.ensures.kept >> c.next_number-2.ensures.kept

pub returns-in_err-next_secondary-clause-kept : goal.returns-in_err-next_secondary-clause-kept
returns-in_err-next_secondary-clause-kept c =
    c.add_field.ensures.kept >> c.next_number.ensures.kept >> c.next_field.ensures.kept
    >> c.next_field-2.ensures.kept >> c.next_number-2.ensures.kept >> c.next_secondary.ensures.kept

pub returns-in_err-next_object-clause-kept : goal.returns-in_err-next_object-clause-kept
returns-in_err-next_object-clause-kept c =
    c.add_field.ensures.kept >> c.next_number.ensures.kept >> c.next_field.ensures.kept >> c.next_field-2.ensures.kept
    >> c.next_number-2.ensures.kept >> c.next_secondary.ensures.kept >> c.next_object.ensures.kept

pub returns-in_err-next_dates-clause-kept : goal.returns-in_err-next_dates-clause-kept
returns-in_err-next_dates-clause-kept c =
    c.add_field.ensures.kept >> c.next_number.ensures.kept >> c.next_field.ensures.kept >> c.next_field-2.ensures.kept
    >> c.next_number-2.ensures.kept >> c.next_secondary.ensures.kept >> c.next_object.ensures.kept >> c.next_dates.ensures.kept

pub returns-clause-kept : goal.returns-clause-kept
returns-clause-kept c =
    c.add_field.ensures.kept >> c.next_number.ensures.kept >> c.next_field.ensures.kept >> c.next_field-2.ensures.kept
    >> c.next_number-2.ensures.kept >> c.next_secondary.ensures.kept >> c.next_object.ensures.kept >> c.next_dates.ensures.kept
