use Rattle.std.proofs.Common.{rules, ◌≡◌, ◌∙◌, ℕ, ap, sym, unwrap_or}
use Rattle.std.specs.BTreeMap.{BTreeMap}
use Rattle.gaz_shelf.proofs.Lawful.{after_insert, after_undo, all_lawful, found_lawful, new_lawful, none_found}
use Rattle.gaz_shelf.proofs.Boards.{no_more}
use Rattle.gaz_keeper.specs.Board.{Board}
use Rattle.gaz_views.specs.Accounts.{Account, empty_account}
use Rattle.gaz_shelf.specs.Accounts.{board_of}
use Rattle.gaz_shelf.proofs.accounts.Accounts.begin.Goals as goal

pub returns-in-Some-clause-board : goal.returns-in-Some-clause-board
returns-in-Some-clause-board c =
    let writes = (c.get_mut.follows.holds c.undo.new.self).3 (search rules) in
    let was = ap (λ o. (unwrap_or o empty_account).judged) c.in-Some.ensures.value in
    no_more c.args.self.now.by_code.entries _ c.args.code c.undo.new.self writes.0 (ap (λ (a : Account). a.judged) c.undo.ensures ∙ was)

pub returns-clause-board : goal.returns-clause-board
returns-clause-board c =
    let m = c.get_mut.follows.lender-at-none in
    let same : m ≡ c.args.self.now.by_code = c.get_mut.follows.holds-at-none in
    let boards = ap (λ (n : BTreeMap ℕ Account). board_of n.entries) same in
    let none = ap (λ o. (unwrap_or o empty_account).judged) c.in_default.ensures.value in
    no_more m.entries c.insert.new.self.entries c.args.code c.new.result c.in_ok-insert.ensures.updates.0 (ap (λ (a : Account). a.judged) c.new.ensures ∙ none ∙ sym (ap (λ (B : Board). B c.args.code) boards)) ∙ boards

pub invariant_of-self : goal.invariant_of-self
invariant_of-self c =
    let es = c.args.self.now.by_code.entries in
    let writes = (c.get_mut.follows.holds c.undo.new.self).3 (search rules) in
    let was = found_lawful es c.args.code _ c.args.self.now.lawful c.in-Some.ensures.value in
    record { lawful = all_lawful es _ c.args.code c.undo.new.self writes.0 c.args.self.now.lawful (after_undo _ c.undo.new.self was c.undo.ensures) }

pub invariant_of-self-2 : goal.invariant_of-self-2
invariant_of-self-2 c =
    let m = c.get_mut.follows.lender-at-none in
    let all = none_found c.args.self.now.by_code m c.get_mut.follows.holds-at-none c.args.self.now.lawful in
    record { lawful = after_insert c.insert.result m c.insert.new.self c.args.code c.new.result all (new_lawful c.new.result c.new.ensures) c.insert.ensures.updates c.insert.ensures.err }
