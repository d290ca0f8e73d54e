use Rattle.std.proofs.Common.{[], ◌∷◌, ap}
use Rattle.gaz_addressable.specs.Objects.{ObjectValue}
use Rattle.gaz_fields.proofs.Growing.{◌>>◌}
use Rattle.gaz_fields.proofs.Written.{more}
use Rattle.gaz_fields.proofs.row.next_object.Goals as goal

pub returns-clause-row : goal.returns-clause-row
returns-clause-row c =
    let start = rw c.from.ensures at c.in_ok-next_digits.ensures.row in
    let suffix = rw c.from-2.ensures at c.in_ok-next_letter.ensures.row in
    let end = rw c.to.ensures at c.in_ok-next_digits-2.ensures.row in
    let end_suffix = rw c.to-2.ensures at c.in_ok-next_letter-2.ensures.row in
    let text = rw (ap (λ (o : ObjectValue). o.text) c.object.view_is) at c.in_ok-next_text.ensures.row in
    let two = more _ _ _ (_ ∷ []) (_ ∷ []) start suffix in
    let three = more _ _ _ (_ ∷ _ ∷ []) (_ ∷ []) two end in
    let four = more _ _ _ (_ ∷ _ ∷ _ ∷ []) (_ ∷ []) three end_suffix in
    more _ _ _ (_ ∷ _ ∷ _ ∷ _ ∷ []) (_ ∷ []) four text

pub returns-in_err-next_letter-clause-kept : goal.returns-in_err-next_letter-clause-kept
returns-in_err-next_letter-clause-kept c = c.next_digits.ensures.kept >> c.next_letter.ensures.kept

pub returns-in_err-next_digits-2-clause-kept : goal.returns-in_err-next_digits-2-clause-kept
returns-in_err-next_digits-2-clause-kept c = c.next_digits.ensures.kept >> c.next_letter.ensures.kept >> c.next_digits-2.ensures.kept

pub returns-in_err-next_letter-2-clause-kept : goal.returns-in_err-next_letter-2-clause-kept
returns-in_err-next_letter-2-clause-kept c =
    c.next_digits.ensures.kept >> c.next_letter.ensures.kept
    >> c.next_digits-2.ensures.kept >> c.next_letter-2.ensures.kept

pub returns-in_err-next_text-clause-kept : goal.returns-in_err-next_text-clause-kept
returns-in_err-next_text-clause-kept c =
    c.next_digits.ensures.kept >> c.next_letter.ensures.kept >> c.next_digits-2.ensures.kept
    >> c.next_letter-2.ensures.kept >> c.next_text.ensures.kept

pub returns-clause-kept : goal.returns-clause-kept
returns-clause-kept c =
    c.next_digits.ensures.kept >> c.next_letter.ensures.kept >> c.next_digits-2.ensures.kept
    >> c.next_letter-2.ensures.kept >> c.next_text.ensures.kept
