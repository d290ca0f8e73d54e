use Rattle.std.proofs.Common.{[], ◌∷◌}
use Rattle.std.specs.Prelude.{decimal}
use Rattle.std.specs.Option.{unwrap_or}
use Rattle.gaz_ids.specs.Codes.{lang_text}
use Rattle.gaz_fields.proofs.Growing.{◌>>◌}
use Rattle.gaz_fields.proofs.Written.{more, row_is}
use Rattle.gaz_records.proofs.descriptor.Descriptor.write.Goals as goal

pub returns-clause-row : goal.returns-clause-row
returns-clause-row c =
    let x = c.self.inside in
    let usrn = rw c.number.ensures.value at c.in_ok-add_number.ensures.row in
    let lang = rw c.text.ensures at c.in_ok-next_field.ensures.row in
    let description = rw c.as_bytes.ensures.value at c.in_ok-next_field-2.ensures.row in
    let area = rw c.as_bytes-2.ensures.value at c.in_ok-next_field-3.ensures.row in
    let two = more _ _ _ (lang_text x.lang ∷ []) (x.description ∷ []) lang description in
    let three = more _ _ _ (lang_text x.lang ∷ x.description ∷ []) (unwrap_or x.locality [] ∷ []) two c.in_ok-next_text.ensures.row in
    let four = more _ _ _ (lang_text x.lang ∷ x.description ∷ unwrap_or x.locality [] ∷ []) (unwrap_or x.town [] ∷ []) three c.in_ok-next_text-2.ensures.row in
    let rest = lang_text x.lang ∷ x.description ∷ unwrap_or x.locality [] ∷ unwrap_or x.town [] ∷ [] in
    let five = more _ _ _ rest (x.area ∷ []) four area in
    rw (← c.self.view_is) (row_is c.args.out.now.items _ _ (decimal x.usrn) (lang_text x.lang ∷ x.description ∷ unwrap_or x.locality [] ∷ unwrap_or x.town [] ∷ x.area ∷ []) usrn five)

pub returns-in_err-next_field-clause-kept : goal.returns-in_err-next_field-clause-kept
returns-in_err-next_field-clause-kept c = c.add_number.ensures.kept >> c.next_field.ensures.kept

pub returns-in_err-next_field-2-clause-kept : goal.returns-in_err-next_field-2-clause-kept
returns-in_err-next_field-2-clause-kept c = c.add_number.ensures.kept >> c.next_field.ensures.kept >> c.next_field-2.ensures.kept

pub returns-in_err-next_text-clause-kept : goal.returns-in_err-next_text-clause-kept
returns-in_err-next_text-clause-kept c =
    c.add_number.ensures.kept >> c.next_field.ensures.kept
    >> c.next_field-2.ensures.kept >> c.next_text.ensures.kept

pub returns-in_err-next_text-2-clause-kept : goal.returns-in_err-next_text-2-clause-kept
returns-in_err-next_text-2-clause-kept c =
    c.add_number.ensures.kept >> c.next_field.ensures.kept >> c.next_field-2.ensures.kept
    >> c.next_text.ensures.kept >> c.next_text-2.ensures.kept

pub returns-in_err-next_field-3-clause-kept : goal.returns-in_err-next_field-3-clause-kept
returns-in_err-next_field-3-clause-kept c =
    c.add_number.ensures.kept >> c.next_field.ensures.kept >> c.next_field-2.ensures.kept
    >> c.next_text.ensures.kept >> c.next_text-2.ensures.kept >> c.next_field-3.ensures.kept

pub returns-clause-kept : goal.returns-clause-kept
returns-clause-kept c =
    c.add_number.ensures.kept >> c.next_field.ensures.kept >> c.next_field-2.ensures.kept
    >> c.next_text.ensures.kept >> c.next_text-2.ensures.kept >> c.next_field-3.ensures.kept
