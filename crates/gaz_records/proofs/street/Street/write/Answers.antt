use Rattle.std.proofs.Common.{[], ◌∷◌}
use Rattle.std.specs.Prelude.{decimal}
use Rattle.gaz_fields.specs.Days.{date_text, end_text}
use Rattle.gaz_fields.proofs.Growing.{◌>>◌}
use Rattle.gaz_fields.proofs.Written.{more, row_is}
use Rattle.gaz_records.specs.Streets.{type_number}
use Rattle.gaz_records.proofs.street.Street.write.Goals as goal

pub returns-clause-row : goal.returns-clause-row
returns-clause-row c =
    let x = c.self.inside in
    let usrn = rw c.number.ensures.value at c.in_ok-add_number.ensures.row in
    let street_type = rw c.number-2.ensures.number at c.in_ok-next_number.ensures.row in
    let dates = date_text x.start ∷ end_text x.end ∷ [] in
    let rest = more _ _ _ (decimal (type_number x.street_type) ∷ []) dates street_type c.in_ok-next_dates.ensures.row in
    rw (← c.self.view_is) (row_is c.args.out.now.items _ _ (decimal x.usrn) (decimal (type_number x.street_type) ∷ dates) usrn rest)

pub returns-in_err-next_number-clause-kept : goal.returns-in_err-next_number-clause-kept
returns-in_err-next_number-clause-kept c = c.add_number.ensures.kept >> c.next_number.ensures.kept

pub returns-in_err-next_dates-clause-kept : goal.returns-in_err-next_dates-clause-kept
returns-in_err-next_dates-clause-kept c = c.add_number.ensures.kept >> c.next_number.ensures.kept >> c.next_dates.ensures.kept

pub returns-clause-kept : goal.returns-clause-kept
returns-clause-kept c = c.add_number.ensures.kept >> c.next_number.ensures.kept >> c.next_dates.ensures.kept
