use Rattle.std.proofs.Common.{[], ◌∷◌}
use Rattle.std.specs.Prelude.{decimal}
use Rattle.std.specs.Option.{unwrap_or}
use Rattle.gaz_ids.specs.Codes.{status_text}
use Rattle.gaz_fields.specs.Days.{date_text, end_text}
use Rattle.gaz_fields.proofs.Growing.{◌>>◌}
use Rattle.gaz_fields.proofs.Written.{more}
use Rattle.gaz_records.specs.Blpus.{parent_text}
use Rattle.gaz_records.proofs.blpu.Blpu.write_behind.Goals as goal

pub returns-clause-row : goal.returns-clause-row
returns-clause-row c =
    let x = c.self.inside in
    let status = rw c.text.ensures at c.in_ok-next_field.ensures.row in
    let easting = rw c.number.ensures.value at c.in_ok-next_number.ensures.row in
    let northing = rw c.number-2.ensures.value at c.in_ok-next_number-2.ensures.row in
    let s = status_text x.status in
    let e = decimal x.easting in
    let n = decimal x.northing in
    let p = parent_text x.parent in
    let c' = unwrap_or x.postcode [] in
    let dates = date_text x.start ∷ end_text x.end ∷ [] in
    let two = more _ _ _ (s ∷ []) (e ∷ []) status easting in
    let three = more _ _ _ (s ∷ e ∷ []) (n ∷ []) two northing in
    let four = more _ _ _ (s ∷ e ∷ n ∷ []) (p ∷ []) three c.in_ok-next_parent.ensures.row in
    let five = more _ _ _ (s ∷ e ∷ n ∷ p ∷ []) (c' ∷ []) four c.in_ok-next_text.ensures.row in
    let all = more _ _ _ (s ∷ e ∷ n ∷ p ∷ c' ∷ []) dates five c.in_ok-next_dates.ensures.row in
    rw (← c.self.view_is) all

pub returns-in_err-next_number-clause-kept : goal.returns-in_err-next_number-clause-kept
returns-in_err-next_number-clause-kept c =
    c.next_field.ensures.kept >> c.next_number.ensures.kept

pub returns-in_err-next_number-2-clause-kept : goal.returns-in_err-next_number-2-clause-kept
returns-in_err-next_number-2-clause-kept c =
    c.next_field.ensures.kept >> c.next_number.ensures.kept >> c.next_number-2.ensures.kept

pub returns-in_err-next_parent-clause-kept : goal.returns-in_err-next_parent-clause-kept
returns-in_err-next_parent-clause-kept c =
    c.next_field.ensures.kept >> c.next_number.ensures.kept >> c.next_number-2.ensures.kept
    >> c.next_parent.ensures.kept

pub returns-in_err-next_text-clause-kept : goal.returns-in_err-next_text-clause-kept
returns-in_err-next_text-clause-kept c =
    c.next_field.ensures.kept >> c.next_number.ensures.kept >> c.next_number-2.ensures.kept
    >> c.next_parent.ensures.kept >> c.next_text.ensures.kept

pub returns-in_err-next_dates-clause-kept : goal.returns-in_err-next_dates-clause-kept
returns-in_err-next_dates-clause-kept c =
    c.next_field.ensures.kept >> c.next_number.ensures.kept >> c.next_number-2.ensures.kept
    >> c.next_parent.ensures.kept >> c.next_text.ensures.kept >> c.next_dates.ensures.kept

pub returns-clause-kept : goal.returns-clause-kept
returns-clause-kept c =
    c.next_field.ensures.kept >> c.next_number.ensures.kept >> c.next_number-2.ensures.kept
    >> c.next_parent.ensures.kept >> c.next_text.ensures.kept >> c.next_dates.ensures.kept
