use Rattle.std.proofs.Common.{[], ◌∷◌}
use Rattle.std.specs.Prelude.{decimal}
use Rattle.gaz_fields.proofs.Growing.{◌>>◌}
use Rattle.gaz_fields.proofs.Written.{more, row_is}
use Rattle.gaz_records.proofs.release.Release.write.Goals as goal

pub returns-clause-row : goal.returns-clause-row
returns-clause-row c =
    let x = c.args.self.now in
    let uprn = rw c.number.ensures.value at c.in_ok-add_number.ensures.row in
    let to = rw c.number-2.ensures.value at c.in_ok-next_number.ensures.row in
    let hop = rw c.number-3.ensures.value at c.in_ok-next_number-2.ensures.row in
    let t = decimal x.to in
    let h = decimal x.hop in
    let all = more _ _ _ (t ∷ []) (h ∷ []) to hop in
    row_is c.args.out.now.items _ _ (decimal x.uprn) (t ∷ h ∷ []) uprn all

pub returns-in_err-next_number-clause-kept : goal.returns-in_err-next_number-clause-kept
returns-in_err-next_number-clause-kept c = c.add_number.ensures.kept >> c.next_number.ensures.kept

pub returns-in_err-next_number-2-clause-kept : goal.returns-in_err-next_number-2-clause-kept
returns-in_err-next_number-2-clause-kept c = c.add_number.ensures.kept >> c.next_number.ensures.kept >> c.next_number-2.ensures.kept

pub returns-clause-kept : goal.returns-clause-kept
returns-clause-kept c = c.add_number.ensures.kept >> c.next_number.ensures.kept >> c.next_number-2.ensures.kept
