use Rattle.std.proofs.Common.{rules, ◌∙◌, ap, subst, sym, unwrap_or}
use Rattle.gaz_views.proofs.Emptiness.{empty_page}
use Rattle.gaz_views.specs.Accounts.{empty_account}
use Rattle.gaz_shelf.proofs.Boards.{never_changed, same_accounts}
use Rattle.gaz_shelf.proofs.Lawful.{all_lawful, found_lawful, none_found}
use Rattle.gaz_shelf.specs.Accounts.{IsLawfulAccount}
use Rattle.gaz_shelf.proofs.accounts.Accounts.page.Goals as goal

pub returns-in_default-clause-page : goal.returns-in_default-clause-page
returns-in_default-clause-page c _ =
    let es = c.args.self.now.by_code.entries in
    let none = sym (ap (λ o. unwrap_or o empty_account) c.in_default.ensures.value) in
    c.new.ensures.items ∙ empty_page _ (never_changed es c.args.code none c.args.volume) c.args.kind c.args.after c.args.most

pub invariant_of-self : goal.invariant_of-self
invariant_of-self c = record { lawful = none_found c.args.self.now.by_code c.get_mut.follows.lender-at-none c.get_mut.follows.holds-at-none c.args.self.now.lawful }

pub invariant_of-self-2 : goal.invariant_of-self-2
invariant_of-self-2 c =
    let es = c.args.self.now.by_code.entries in
    let writes = (c.get_mut.follows.holds c.page.new.self).3 (search rules) in
    let was = found_lawful es c.args.code _ c.args.self.now.lawful c.in-Some.ensures.value in
    record { lawful = all_lawful es _ c.args.code c.page.new.self writes.0 c.args.self.now.lawful (subst IsLawfulAccount (sym c.page.ensures.same) was) }

pub returns-in_err-page-clause-same : goal.returns-in_err-page-clause-same
returns-in_err-page-clause-same c =
    let writes = (c.get_mut.follows.holds c.page.new.self).3 (search rules) in
    let was = ap (λ o. unwrap_or o empty_account) c.in-Some.ensures.value in
    same_accounts c.args.self.now.by_code.entries _ c.args.code c.page.new.self writes.0 (c.page.ensures.same ∙ was)

pub returns-clause-same : goal.returns-clause-same
returns-clause-same c =
    let writes = (c.get_mut.follows.holds c.page.new.self).3 (search rules) in
    let was = ap (λ o. unwrap_or o empty_account) c.in-Some.ensures.value in
    same_accounts c.args.self.now.by_code.entries _ c.args.code c.page.new.self writes.0 (c.page.ensures.same ∙ was)
