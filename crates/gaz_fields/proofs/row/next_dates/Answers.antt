use Rattle.std.proofs.Common.{[], ◌∷◌}
use Rattle.gaz_fields.proofs.Growing.{◌>>◌}
use Rattle.gaz_fields.proofs.Written.{more}
use Rattle.gaz_fields.proofs.row.next_dates.Goals as goal

pub returns-clause-row : goal.returns-clause-row
returns-clause-row c = more _ _ _ (_ ∷ []) (_ ∷ []) (rw c.digits.ensures at c.in_ok-next_field.ensures.row) c.in_ok-next_end.ensures.row

pub returns-in_err-next_end-clause-kept : goal.returns-in_err-next_end-clause-kept
returns-in_err-next_end-clause-kept c = c.next_field.ensures.kept >> c.next_end.ensures.kept

pub returns-clause-kept : goal.returns-clause-kept
returns-clause-kept c = c.next_field.ensures.kept >> c.next_end.ensures.kept
