use Rattle.std.proofs.Common.{rules, ◌∙◌, ap, unwrap_or}
use Rattle.gaz_shelf.proofs.Lawful.{after_undo, all_lawful, found_lawful, none_found}
use Rattle.gaz_shelf.proofs.Boards.{no_more}
use Rattle.gaz_views.specs.Accounts.{Account, empty_account}
use Rattle.gaz_shelf.proofs.accounts.Accounts.undo.Goals as goal

pub returns-in-Some-clause-board : goal.returns-in-Some-clause-board
returns-in-Some-clause-board c =
    let writes = (c.get_mut.follows.holds c.undo.new.self).3 (search rules) in
    let was = ap (λ o. (unwrap_or o empty_account).judged) c.in-Some.ensures.value in
    no_more c.args.self.now.by_code.entries _ c.args.code c.undo.new.self writes.0 (ap (λ (a : Account). a.judged) c.undo.ensures ∙ was)

pub invariant_of-self : goal.invariant_of-self
invariant_of-self c =
    let es = c.args.self.now.by_code.entries in
    let writes = (c.get_mut.follows.holds c.undo.new.self).3 (search rules) in
    let was = found_lawful es c.args.code _ c.args.self.now.lawful c.in-Some.ensures.value in
    record { lawful = all_lawful es _ c.args.code c.undo.new.self writes.0 c.args.self.now.lawful (after_undo _ c.undo.new.self was c.undo.ensures) }

pub invariant_of-self-in_default : goal.invariant_of-self-in_default
invariant_of-self-in_default c = record { lawful = none_found c.args.self.now.by_code c.get_mut.follows.lender-at-none c.get_mut.follows.holds-at-none c.args.self.now.lawful }
