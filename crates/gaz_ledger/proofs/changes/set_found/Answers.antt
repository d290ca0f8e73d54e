use Rattle.std.proofs.Common.{sym, subst}
use Rattle.gaz_standing.specs.KeyHistories.{KeyHistories}
use Rattle.gaz_ledger.proofs.Ledgers.{finds_more, finds_set}
use Rattle.gaz_ledger.specs.Ledgers.{Finds}
use Rattle.gaz_ledger.proofs.changes.set_found.Goals as goal

pub returns-in_err-add_marks_of-clause-finds : goal.returns-in_err-add_marks_of-clause-finds
returns-in_err-add_marks_of-clause-finds c = finds_more c.args.index.now c.add_marks_of.new.self c.args.histories.now c.args.reached c.add_marks_of.ensures.kept

pub returns-in_err-set-clause-finds : goal.returns-in_err-set-clause-finds
returns-in_err-set-clause-finds c finds =
    subst (λ (g : KeyHistories). Finds c.add_marks_of.new.self g c.args.reached) (sym c.in_err-set.ensures.err) (finds_more c.args.index.now c.add_marks_of.new.self c.args.histories.now c.args.reached c.add_marks_of.ensures.kept finds)

pub returns-clause-finds : goal.returns-clause-finds
returns-clause-finds c =
    finds_set c.args.index.now c.add_marks_of.new.self c.args.histories.now c.set.new.self c.args.key c.args.reached c.args.item c.add_marks_of.ensures.kept c.in_ok-add_marks_of.ensures.ok c.in_ok-set.ensures.ok
