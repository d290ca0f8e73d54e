use Rattle.std.proofs.Common.{◌≡◌, [], ◌∷◌, ap, ◌∙◌}
use Rattle.std.specs.Prelude.{decimal}
use Rattle.gaz_fields.proofs.Growing.{◌>>◌}
use Rattle.gaz_fields.proofs.Written.{more, row_is}
use Rattle.gaz_records.specs.Blpus.{texts_behind}
use Rattle.gaz_records.specs.declared.adopt.Adopt.{Adopt}
use Rattle.gaz_records.proofs.adopt.Adopt.write.Goals as goal

pub returns-clause-row : goal.returns-clause-row
returns-clause-row c =
    let x = c.args.self.now in
    let as_is = c.self.view_is in
    let uprn-is : c.number.result ≡ x.blpu.uprn = c.number.ensures.value ∙ ap (λ (a : Adopt). a.blpu.uprn) as_is in
    let from-is : c.number-2.result ≡ x.from = c.number-2.ensures.value ∙ ap (λ (a : Adopt). a.from) as_is in
    let hop-is : c.number-3.result ≡ x.hop = c.number-3.ensures.value ∙ ap (λ (a : Adopt). a.hop) as_is in
    let uprn = rw uprn-is at c.in_ok-add_number.ensures.row in
    let from = rw from-is at c.in_ok-next_number.ensures.row in
    let hop = rw hop-is at c.in_ok-next_number-2.ensures.row in
    let f = decimal x.from in
    let h = decimal x.hop in
    let two = more _ _ _ (f ∷ []) (h ∷ []) from hop in
    let all = more _ _ _ (f ∷ h ∷ []) (texts_behind x.blpu) two c.in_ok-write_behind.ensures.row in
    row_is c.args.out.now.items _ _ (decimal x.blpu.uprn) (f ∷ h ∷ texts_behind x.blpu) uprn all

pub returns-in_err-next_number-clause-kept : goal.returns-in_err-next_number-clause-kept
returns-in_err-next_number-clause-kept c = c.add_number.ensures.kept >> c.next_number.ensures.kept

pub returns-in_err-next_number-2-clause-kept : goal.returns-in_err-next_number-2-clause-kept
returns-in_err-next_number-2-clause-kept c = c.add_number.ensures.kept >> c.next_number.ensures.kept >> c.next_number-2.ensures.kept

pub returns-in_err-write_behind-clause-kept : goal.returns-in_err-write_behind-clause-kept
returns-in_err-write_behind-clause-kept c = c.add_number.ensures.kept >> c.next_number.ensures.kept >> c.next_number-2.ensures.kept >> c.write_behind.ensures.kept

pub returns-clause-kept : goal.returns-clause-kept
returns-clause-kept c = c.add_number.ensures.kept >> c.next_number.ensures.kept >> c.next_number-2.ensures.kept >> c.write_behind.ensures.kept
