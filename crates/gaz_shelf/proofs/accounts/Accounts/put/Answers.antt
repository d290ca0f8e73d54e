use Rattle.std.proofs.Common.{rules, ◌∙◌, ap, unwrap_or}
use Rattle.gaz_shelf.proofs.Lawful.{after_put, all_lawful, found_lawful, none_found}
use Rattle.gaz_shelf.proofs.Boards.{no_more}
use Rattle.gaz_views.specs.Accounts.{Account, empty_account}
use Rattle.gaz_shelf.proofs.accounts.Accounts.put.Goals as goal

pub returns-in_err-put-clause-board : goal.returns-in_err-put-clause-board
returns-in_err-put-clause-board c =
    let writes = (c.get_mut.follows.holds c.put.new.self).3 (search rules) in
    let was = ap (λ o. (unwrap_or o empty_account).judged) c.in-Some.ensures.value in
    no_more c.args.self.now.by_code.entries _ c.args.code c.put.new.self writes.0 (ap (λ (a : Account). a.judged) c.in_err-put.ensures.err ∙ was)

pub returns-clause-board : goal.returns-clause-board
returns-clause-board c =
    let writes = (c.get_mut.follows.holds c.put.new.self).3 (search rules) in
    let was = ap (λ o. (unwrap_or o empty_account).judged) c.in-Some.ensures.value in
    no_more c.args.self.now.by_code.entries _ c.args.code c.put.new.self writes.0 (ap (λ (a : Account). a.judged) c.in_ok-put.ensures.ok ∙ was)

pub invariant_of-self : goal.invariant_of-self
invariant_of-self c = record { lawful = none_found c.args.self.now.by_code c.get_mut.follows.lender-at-none c.get_mut.follows.holds-at-none c.args.self.now.lawful }

pub invariant_of-self-2 : goal.invariant_of-self-2
invariant_of-self-2 c =
    let es = c.args.self.now.by_code.entries in
    let writes = (c.get_mut.follows.holds c.put.new.self).3 (search rules) in
    let was = found_lawful es c.args.code _ c.args.self.now.lawful c.in-Some.ensures.value in
    record { lawful = all_lawful es _ c.args.code c.put.new.self writes.0 c.args.self.now.lawful (after_put c.put.result _ c.put.new.self c.args.item c.requires was c.put.ensures.ok c.put.ensures.err) }
