use Rattle.std.proofs.Common.{rules, ◌≤◌, ◌∙◌, ap, length, subst, sym, unwrap_or}
use Rattle.gaz_views.specs.Accounts.{Account, empty_account, view_in}
use Rattle.gaz_views.specs.Words.{tied}
use Rattle.gaz_shelf.proofs.Boards.{same_accounts}
use Rattle.gaz_shelf.proofs.Lawful.{all_lawful, found_lawful, none_found}
use Rattle.gaz_shelf.specs.Accounts.{IsLawfulAccount}
use Rattle.gaz_shelf.proofs.accounts.Accounts.tied.Goals as goal

pub tied-requires : goal.tied-requires
tied-requires c =
    let was = ap (λ o. unwrap_or o empty_account) c.in-Some.ensures.value in
    subst (λ (a : Account). length a.judged ≤ c.args.volume) (sym was) c.requires

pub invariant_of-self : goal.invariant_of-self
invariant_of-self c = record { lawful = none_found c.args.self.now.by_code c.get_mut.follows.lender-at-none c.get_mut.follows.holds-at-none c.args.self.now.lawful }

pub invariant_of-self-2 : goal.invariant_of-self-2
invariant_of-self-2 c =
    let es = c.args.self.now.by_code.entries in
    let writes = (c.get_mut.follows.holds c.tied.new.self).3 (search rules) in
    let was = found_lawful es c.args.code _ c.args.self.now.lawful c.in-Some.ensures.value in
    record { lawful = all_lawful es _ c.args.code c.tied.new.self writes.0 c.args.self.now.lawful (subst IsLawfulAccount (sym c.tied.ensures.same) was) }

pub returns-in_err-tied-clause-same : goal.returns-in_err-tied-clause-same
returns-in_err-tied-clause-same c =
    let writes = (c.get_mut.follows.holds c.tied.new.self).3 (search rules) in
    let was = ap (λ o. unwrap_or o empty_account) c.in-Some.ensures.value in
    same_accounts c.args.self.now.by_code.entries _ c.args.code c.tied.new.self writes.0 (c.tied.ensures.same ∙ was)

pub returns-clause-tied : goal.returns-clause-tied
returns-clause-tied c =
    let was = ap (λ o. unwrap_or o empty_account) c.in-Some.ensures.value in
    c.in_ok-tied.ensures.tied ∙ ap (λ (a : Account). tied (view_in a c.args.volume) c.args.uprn) was

pub returns-clause-same : goal.returns-clause-same
returns-clause-same c =
    let writes = (c.get_mut.follows.holds c.tied.new.self).3 (search rules) in
    let was = ap (λ o. unwrap_or o empty_account) c.in-Some.ensures.value in
    same_accounts c.args.self.now.by_code.entries _ c.args.code c.tied.new.self writes.0 (c.tied.ensures.same ∙ was)
