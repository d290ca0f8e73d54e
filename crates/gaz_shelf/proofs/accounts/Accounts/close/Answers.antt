use Rattle.std.proofs.Common.{rules, ◌∙◌, ◌++◌, ◌∷◌, [], ap, unwrap_or}
use Rattle.gaz_shelf.proofs.Lawful.{after_close, all_lawful, found_lawful, none_found}
use Rattle.gaz_shelf.proofs.Boards.{no_more, one_more}
use Rattle.gaz_views.proofs.Outcomes.{where_err}
use Rattle.gaz_views.specs.Accounts.{Account, empty_account}
use Rattle.gaz_shelf.proofs.accounts.Accounts.close.Goals as goal

pub returns-in_err-close-clause-err : goal.returns-in_err-close-clause-err
returns-in_err-close-clause-err c =
    let writes = (c.get_mut.follows.holds c.close.new.self).3 (search rules) in
    let was = ap (λ o. (unwrap_or o empty_account).judged) c.in-Some.ensures.value in
    where_err c.from_residual.result (no_more c.args.self.now.by_code.entries _ c.args.code c.close.new.self writes.0 (ap (λ (a : Account). a.judged) c.in_err-close.ensures.err ∙ was))

pub returns-clause-ok : goal.returns-clause-ok
returns-clause-ok c =
    let writes = (c.get_mut.follows.holds c.close.new.self).3 (search rules) in
    let was = ap (λ o. unwrap_or o empty_account) c.in-Some.ensures.value in
    let now = ap (λ (a : Account). a.judged) c.in_ok-close.ensures.ok ∙ ap (λ (a : Account). a.judged ++ record { verdict = c.args.verdict; view = a.working } ∷ []) was in
    one_more c.args.self.now.by_code.entries _ c.args.code c.close.new.self _ writes.0 now

pub invariant_of-self : goal.invariant_of-self
invariant_of-self c = record { lawful = none_found c.args.self.now.by_code c.get_mut.follows.lender-at-none c.get_mut.follows.holds-at-none c.args.self.now.lawful }

pub invariant_of-self-2 : goal.invariant_of-self-2
invariant_of-self-2 c =
    let es = c.args.self.now.by_code.entries in
    let writes = (c.get_mut.follows.holds c.close.new.self).3 (search rules) in
    let was = found_lawful es c.args.code _ c.args.self.now.lawful c.in-Some.ensures.value in
    record { lawful = all_lawful es _ c.args.code c.close.new.self writes.0 c.args.self.now.lawful (after_close c.close.result _ c.close.new.self c.args.verdict was c.close.ensures.ok c.close.ensures.err) }
