-- One custodian after another.
use Rattle.std.proofs.Common.{◌∷◌, [], ◌++◌, ◌∙◌, ap, sym, map, ℕ, take}
use Rattle.std.proofs.lemmas.List.{map_more, take_all}
use Rattle.gaz_register.specs.Registers.{CustodianValue}
use Rattle.gaz_waiters.proofs.waiters.codes_of.Goals as goal

pub loop-custodian-init : goal.loop-custodian-init
loop-custodian-init c = c.new-codes.ensures.items

pub loop-custodian-preserved : goal.loop-custodian-preserved
loop-custodian-preserved c =
    let xs = c.args.custodians.now in
    let i = c.loop-custodian.custodian-index in
    c.in_ok-push.ensures.items ∙ ap (λ ys. ys ++ c.code.result ∷ []) c.loop-custodian.invariant
    ∙ ap (λ (n : ℕ). map (λ (k : CustodianValue). k.code) (take i xs) ++ n ∷ []) (c.code.ensures ∙ ap (λ (k : CustodianValue). k.code) c.custodian-item.is)
    ∙ sym (map_more (λ (k : CustodianValue). k.code) xs i c.custodian-item.result c.loop-custodian-test.true)

pub returns : goal.returns
returns c = c.loop-custodian.invariant ∙ ap (map (λ (k : CustodianValue). k.code)) (take_all c.loop-custodian.custodian-index c.args.custodians.now c.loop-custodian-test.false)
