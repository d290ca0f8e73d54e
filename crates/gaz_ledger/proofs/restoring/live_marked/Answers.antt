use Rattle.std.proofs.Common.{◌∙◌, ap, sym, subst}
use Rattle.gaz_standing.specs.Indexes.{has_mark}
use Rattle.gaz_standing.specs.KeyHistories.{KeyHistories}
use Rattle.gaz_ledger.proofs.Ledgers.{finds_more}
use Rattle.gaz_ledger.proofs.Lives.{finds_lived}
use Rattle.gaz_ledger.specs.Ledgers.{Finds}
use Rattle.gaz_ledger.proofs.restoring.live_marked.Goals as goal

pub returns-in_err-add_marks_left-clause-finds : goal.returns-in_err-add_marks_left-clause-finds
returns-in_err-add_marks_left-clause-finds c = finds_more c.args.index.now c.add_marks_left.new.index c.args.histories.now c.args.reached c.add_marks_left.ensures.kept

pub returns-in_err-live-clause-finds : goal.returns-in_err-live-clause-finds
returns-in_err-live-clause-finds c finds =
    subst (λ (g : KeyHistories). Finds c.add_marks_left.new.index g c.args.reached) (sym c.in_err-live.ensures.err) (finds_more c.args.index.now c.add_marks_left.new.index c.args.histories.now c.args.reached c.add_marks_left.ensures.kept finds)

pub returns-clause-finds : goal.returns-clause-finds
returns-clause-finds c =
    finds_lived c.args.index.now c.add_marks_left.new.index c.args.histories.now c.live.new.self c.args.key.now c.args.reached c.args.born c.args.gone c.args.item c.requires c.add_marks_left.ensures.kept
    (λ none m has. c.in_ok-add_marks_left.ensures.ok none m (ap (λ x. has_mark m x) c.deref.ensures ∙ has)) c.in_ok-live.ensures.ok
