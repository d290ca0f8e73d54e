use Rattle.std.proofs.Common.{rules, ◌≡◌, ◌∙◌, [], ℕ, ap, refl, subst, sym, unwrap_or}
use Rattle.std.specs.FinMap as finite
use Rattle.std.specs.HashMap.{HashMap}
use Rattle.gaz_histories.specs.Histories.{BeginsFrom, Versions, with_version}
use Rattle.gaz_views.proofs.Outcomes.{where_err}
use Rattle.gaz_views.specs.declared.custody.Custody.{Custody}
use Rattle.gaz_ledger.proofs.Becoming.{becomes, becomes_again, passed_stored}
use Rattle.gaz_ledger.specs.Custodies.{passed_at}
use Rattle.gaz_ledger.proofs.custodies.Custodies.set.Goals as goal

pub returns-in_err-set-clause-err : goal.returns-in_err-set-clause-err
returns-in_err-set-clause-err c =
    let writes = (c.get_mut.follows.holds c.set.new.self).3 (search rules) in
    where_err c.from_residual.result (becomes_again c.args.self.now c.self.inside.by_uprn.entries _ c.args.uprn c.set.new.self c.in-Some.history.now c.self.view_is writes.0 c.in_err-set.ensures.err c.in-Some.ensures.value)

pub returns-in_err-set-clause-again : goal.returns-in_err-set-clause-again
returns-in_err-set-clause-again c begins =
    let was = ap (λ o. unwrap_or o []) c.in-Some.ensures.value ∙ sym (passed_stored c.args.self.now c.self.inside.by_uprn.entries c.args.uprn c.self.view_is) in
    let no = c.in_err-set.ensures.again (subst (λ (vs : Versions Custody). BeginsFrom vs c.args.volume) (sym was) begins) in
    cc

pub returns-in-Some-clause-ok : goal.returns-in-Some-clause-ok
returns-in-Some-clause-ok c =
    let writes = (c.get_mut.follows.holds c.set.new.self).3 (search rules) in
    let was = ap (λ o. unwrap_or o []) c.in-Some.ensures.value ∙ sym (passed_stored c.args.self.now c.self.inside.by_uprn.entries c.args.uprn c.self.view_is) in
    becomes c.args.self.now c.self.inside.by_uprn.entries _ c.args.uprn c.set.new.self _ c.self.view_is writes.0 (c.in_ok-set.ensures.ok ∙ ap (λ (vs : Versions Custody). with_version vs c.args.volume c.args.custody) was)

pub returns-in_err-insert-clause-again : goal.returns-in_err-insert-clause-again
returns-in_err-insert-clause-again c begins =
    let none : [] ≡ passed_at c.args.self.now c.args.uprn = ap (λ o. unwrap_or o []) c.in_default.ensures.value ∙ sym (passed_stored c.args.self.now c.self.inside.by_uprn.entries c.args.uprn c.self.view_is) in
    absurd (subst (λ (vs : Versions Custody). BeginsFrom vs c.args.volume) (sym none) begins refl)

pub returns-clause-ok : goal.returns-clause-ok
returns-clause-ok c =
    let m = c.get_mut.follows.lender-at-none in
    let same : m ≡ c.self.inside.by_uprn = c.get_mut.follows.holds-at-none in
    let is = ap (λ (n : HashMap ℕ (Versions Custody) _). finite.from_entries n.entries) same ∙ c.self.view_is in
    let none = c.new-history.ensures ∙ ap (λ o. unwrap_or o []) c.in_default.ensures.value ∙ sym (passed_stored c.args.self.now c.self.inside.by_uprn.entries c.args.uprn c.self.view_is) in
    becomes c.args.self.now m.entries c.insert.new.self.entries c.args.uprn c.set-2.new.self _ is c.in_ok-insert.ensures.updates.0 (c.in_ok-set-2.ensures.ok ∙ ap (λ (vs : Versions Custody). with_version vs c.args.volume c.args.custody) none)
