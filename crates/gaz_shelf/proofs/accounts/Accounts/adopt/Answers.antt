use Rattle.std.proofs.Common.{rules, ◌∙◌, ap, unwrap_or}
use Rattle.gaz_shelf.proofs.Lawful.{after_adopt, all_lawful, found_lawful, none_found}
use Rattle.gaz_shelf.proofs.Boards.{no_more}
use Rattle.gaz_views.specs.Accounts.{Account, empty_account}
use Rattle.gaz_shelf.proofs.accounts.Accounts.adopt.Goals as goal

pub returns-in_err-adopt-clause-board : goal.returns-in_err-adopt-clause-board
returns-in_err-adopt-clause-board c =
    let writes = (c.get_mut.follows.holds c.adopt.new.self).3 (search rules) in
    let was = ap (λ o. (unwrap_or o empty_account).judged) c.in-Some.ensures.value in
    no_more c.args.self.now.by_code.entries _ c.args.code c.adopt.new.self writes.0 (ap (λ (a : Account). a.judged) c.in_err-adopt.ensures.err ∙ was)

pub returns-clause-board : goal.returns-clause-board
returns-clause-board c =
    let writes = (c.get_mut.follows.holds c.adopt.new.self).3 (search rules) in
    let was = ap (λ o. (unwrap_or o empty_account).judged) c.in-Some.ensures.value in
    no_more c.args.self.now.by_code.entries _ c.args.code c.adopt.new.self writes.0 (ap (λ (a : Account). a.judged) c.in_ok-adopt.ensures.ok ∙ was)

pub invariant_of-self : goal.invariant_of-self
invariant_of-self c = record { lawful = none_found c.args.self.now.by_code c.get_mut.follows.lender-at-none c.get_mut.follows.holds-at-none c.args.self.now.lawful }

pub invariant_of-self-2 : goal.invariant_of-self-2
invariant_of-self-2 c =
    let es = c.args.self.now.by_code.entries in
    let writes = (c.get_mut.follows.holds c.adopt.new.self).3 (search rules) in
    let was = found_lawful es c.args.code _ c.args.self.now.lawful c.in-Some.ensures.value in
    record { lawful = all_lawful es _ c.args.code c.adopt.new.self writes.0 c.args.self.now.lawful (after_adopt c.adopt.result _ c.adopt.new.self c.args.blpu c.args.from c.args.hop c.requires was c.adopt.ensures.ok c.adopt.ensures.err) }
