-- What is named under a number at which nothing stands; where something else does, nothing is broken.
use Rattle.std.proofs.Common.{◌≡◌, ◌∙◌, true, false, not, ◌&&◌, ap, sym, is_some}
use Rattle.std.specs.Option.{option_and_then}
use Rattle.gaz_records.specs.declared.key.Key.TheVariants as key
use Rattle.gaz_views.specs.View.{holds}
use Rattle.gaz_views.specs.Words.{has_children, tied}
use Rattle.gaz_end_rules.specs.EndRules.{as_blpu}
use Rattle.gaz_end_rules.specs.declared.key_faults.KeyFaults.{KeyFaults}
use Rattle.gaz_end_rules.proofs.Breaching.{no_blpu}
use Rattle.gaz_end_rules.proofs.Progress.{reads_both, reads_none}
use Rattle.gaz_end_rules.proofs.blpu_faults.gone_faults.Goals as goal

pub returns-then-is_some : goal.returns-then-is_some
returns-then-is_some g c =
    let v = (g.K.Shelf.seen c.args.keeper.now).content.working in
    let uprn = c.args.uprn in
    reads_none _ c.args.code _ _ c.requires (λ _ _ stored none.
    let held : holds v (key.Blpu uprn) ≡ true = ap is_some (sym stored) ∙ sym c.is_some.ensures ∙ c.if-is_some.true in
    c.none-faults.ensures
    ∙ no_blpu v uprn false false (ap (option_and_then as_blpu) (sym stored) ∙ none)
    (sym (ap (λ b. not b && tied v uprn) held)) (sym (ap (λ b. not b && has_children v uprn) held)))

pub returns : goal.returns
returns g c =
    let v = (g.K.Shelf.seen c.args.keeper.now).content.working in
    let uprn = c.args.uprn in
    let ties = c.in_ok-faults.field-0 in
    let parts = c.in_ok-faults-2.field-0 in
    reads_both _ _ _ ties parts _ (λ b. b ≡ tied v uprn) (λ k b. b ≡ has_children k.working uprn) _
    c.in_ok-faults.ensures c.in_ok-faults-2.ensures
    (λ tied_is parts_is stored none.
    let gone : holds v (key.Blpu uprn) ≡ false = ap is_some (sym stored) ∙ sym c.is_some.ensures ∙ c.if-is_some.false in
    ap (λ (f : KeyFaults). record f { leaves_ties = ties; leaves_parts = parts }) c.none-faults.ensures
    ∙ no_blpu v uprn ties parts (ap (option_and_then as_blpu) (sym stored) ∙ none)
    (tied_is ∙ sym (ap (λ b. not b && tied v uprn) gone)) (parts_is ∙ sym (ap (λ b. not b && has_children v uprn) gone)))
