use Rattle.std.proofs.Common.{rules, ◌∙◌, ap, unwrap_or}
use Rattle.gaz_shelf.proofs.Lawful.{after_release, all_lawful, found_lawful, none_found}
use Rattle.gaz_shelf.proofs.Boards.{no_more}
use Rattle.gaz_views.specs.Accounts.{Account, empty_account}
use Rattle.gaz_shelf.proofs.accounts.Accounts.release.Goals as goal

pub returns-in_err-release-clause-board : goal.returns-in_err-release-clause-board
returns-in_err-release-clause-board c =
    let writes = (c.get_mut.follows.holds c.release.new.self).3 (search rules) in
    let was = ap (λ o. (unwrap_or o empty_account).judged) c.in-Some.ensures.value in
    no_more c.args.self.now.by_code.entries _ c.args.code c.release.new.self writes.0 (ap (λ (a : Account). a.judged) c.in_err-release.ensures.err ∙ was)

pub returns-clause-board : goal.returns-clause-board
returns-clause-board c =
    let writes = (c.get_mut.follows.holds c.release.new.self).3 (search rules) in
    let was = ap (λ o. (unwrap_or o empty_account).judged) c.in-Some.ensures.value in
    no_more c.args.self.now.by_code.entries _ c.args.code c.release.new.self writes.0 (ap (λ (a : Account). a.judged) c.in_ok-release.ensures.ok ∙ was)

pub invariant_of-self : goal.invariant_of-self
invariant_of-self c = record { lawful = none_found c.args.self.now.by_code c.get_mut.follows.lender-at-none c.get_mut.follows.holds-at-none c.args.self.now.lawful }

pub invariant_of-self-2 : goal.invariant_of-self-2
invariant_of-self-2 c =
    let es = c.args.self.now.by_code.entries in
    let writes = (c.get_mut.follows.holds c.release.new.self).3 (search rules) in
    let was = found_lawful es c.args.code _ c.args.self.now.lawful c.in-Some.ensures.value in
    record { lawful = all_lawful es _ c.args.code c.release.new.self writes.0 c.args.self.now.lawful (after_release c.release.result _ c.release.new.self c.args.uprn c.args.to c.args.hop was c.release.ensures.ok c.release.ensures.err) }
