use Rattle.std.proofs.Common.{ℕ, rules, ◌≡◌, ◌∙◌, ap, length, subst, true, unwrap_or}
use Rattle.std.specs.BTreeMap.{BTreeMap}
use Rattle.gaz_records.specs.Keys.{key_of}
use Rattle.gaz_records.specs.declared.key.Key.{Key}
use Rattle.gaz_views.specs.Accounts.{Account, empty_account}
use Rattle.gaz_ledger.specs.Lives.{IsFreeFrom, IsLifeWithin, Restores}
use Rattle.gaz_views.proofs.Outcomes.{where_err}
use Rattle.gaz_shelf.proofs.Boards.{same_accounts}
use Rattle.gaz_shelf.proofs.Lawful.{all_lawful, found_lawful, none_found}
use Rattle.gaz_shelf.proofs.Restored.{after_restore, is_restored}
use Rattle.gaz_shelf.specs.Accounts.{account_of}
use Rattle.gaz_shelf.proofs.accounts.Accounts.restore.Goals as goal

pub invariant_of-self : goal.invariant_of-self
invariant_of-self c = record { lawful = none_found c.args.self.now.by_code c.get_mut.follows.lender-at-none c.get_mut.follows.holds-at-none c.args.self.now.lawful }

pub invariant_of-self-then-not-is_life_within : goal.invariant_of-self-then-not-is_life_within
invariant_of-self-then-not-is_life_within c =
    let es = c.args.self.now.by_code.entries in
    let writes = (c.get_mut.follows.holds c.in-Some.account.now).3 (search rules) in
    record { lawful = all_lawful es _ c.args.code c.in-Some.account.now writes.0 c.args.self.now.lawful (found_lawful es c.args.code _ c.args.self.now.lawful c.in-Some.ensures.value) }

pub invariant_of-self-then-not-is_free : goal.invariant_of-self-then-not-is_free
invariant_of-self-then-not-is_free c =
    let es = c.args.self.now.by_code.entries in
    let writes = (c.get_mut.follows.holds c.in-Some.account.now).3 (search rules) in
    record { lawful = all_lawful es _ c.args.code c.in-Some.account.now writes.0 c.args.self.now.lawful (found_lawful es c.args.code _ c.args.self.now.lawful c.in-Some.ensures.value) }

pub invariant_of-self-2 : goal.invariant_of-self-2
invariant_of-self-2 c =
    let es = c.args.self.now.by_code.entries in
    let writes = (c.get_mut.follows.holds c.restore.new.self).3 (search rules) in
    let was = found_lawful es c.args.code _ c.args.self.now.lawful c.in-Some.ensures.value in
    record {
      lawful = all_lawful es _ c.args.code c.restore.new.self writes.0 c.args.self.now.lawful
          (after_restore c.restore.result c.in-Some.account.now c.restore.new.self c.args.born c.args.gone c.args.item c.requires was c.restore.ensures.ok c.restore.ensures.err);
    }

pub returns-in_default-clause-err : goal.returns-in_default-clause-err
returns-in_default-clause-err c =
    let same : c.get_mut.follows.lender-at-none ≡ c.args.self.now.by_code = c.get_mut.follows.holds-at-none in
    λ d. ap (λ (m : BTreeMap ℕ Account). account_of m.entries d) same

pub returns-then-not-is_life_within-clause-err : goal.returns-then-not-is_life_within-clause-err
returns-then-not-is_life_within-clause-err c =
    let writes = (c.get_mut.follows.holds c.in-Some.account.now).3 (search rules) in
    same_accounts c.args.self.now.by_code.entries _ c.args.code c.in-Some.account.now writes.0 (ap (λ o. unwrap_or o empty_account) c.in-Some.ensures.value)

pub returns-then-not-is_free-clause-err : goal.returns-then-not-is_free-clause-err
returns-then-not-is_free-clause-err c =
    let writes = (c.get_mut.follows.holds c.in-Some.account.now).3 (search rules) in
    same_accounts c.args.self.now.by_code.entries _ c.args.code c.in-Some.account.now writes.0 (ap (λ o. unwrap_or o empty_account) c.in-Some.ensures.value)

pub returns-in_err-restore-clause-err : goal.returns-in_err-restore-clause-err
returns-in_err-restore-clause-err c =
    let writes = (c.get_mut.follows.holds c.restore.new.self).3 (search rules) in
    where_err c.from_residual.result
    (same_accounts c.args.self.now.by_code.entries _ c.args.code c.restore.new.self writes.0 (c.in_err-restore.ensures.err ∙ ap (λ o. unwrap_or o empty_account) c.in-Some.ensures.value))

pub returns-clause-ok : goal.returns-clause-ok
returns-clause-ok c =
    let es = c.args.self.now.by_code.entries in
    let writes = (c.get_mut.follows.holds c.restore.new.self).3 (search rules) in
    let was = ap (λ o. unwrap_or o empty_account) c.in-Some.ensures.value in
    let named = c.key_of.ensures ∙ ap key_of c.deref.ensures in
    let is_within : c.is_life_within.result ≡ true = cc in
    let is_free : c.is_free.result ≡ true = cc in
    let within =
    subst (λ (a : Account). IsLifeWithin (length a.judged) c.args.born c.args.gone) (c.ledger.ensures ∙ was)
    (subst (λ n. IsLifeWithin n c.args.born c.args.gone) c.reached.ensures.reached (c.is_life_within.ensures.0 is_within)) in
    let free =
    subst (λ (a : Account). IsFreeFrom a c.args.born (key_of c.args.item)) (c.ledger-2.ensures ∙ was)
    (subst (λ (k : Key). IsFreeFrom c.ledger-2.result.now c.args.born k) named (c.is_free.ensures.0 is_free)) in
    is_restored es _ c.args.code c.restore.new.self writes.0 c.args.born c.args.gone c.args.item within free
    (subst (λ (a : Account). Restores a c.restore.new.self c.args.born c.args.gone c.args.item) was c.in_ok-restore.ensures.ok)
