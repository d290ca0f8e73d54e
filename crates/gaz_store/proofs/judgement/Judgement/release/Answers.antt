use Rattle.std.proofs.Common.{IfOk, refl, subst, sym}
use Rattle.gaz_records.specs.declared.key.Key.TheVariants as key
use Rattle.gaz_views.specs.View.{with_release}
use Rattle.gaz_keeper.proofs.Faults.{passed_on}
use Rattle.gaz_calls.proofs.Answered.{asked_fault, asked_step, asked_want}
use Rattle.gaz_store.specs.Beside.{Makes, Readies, with_changes}
use Rattle.gaz_store.proofs.judgement.Judgement.release.Goals as goal

pub returns-clause-asks : goal.returns-clause-asks
returns-clause-asks g c =
    let j = c.hide.new.self in
    asked_step _ _ _ _ c.since.result c.in_ok-since.since _ _ _ _ c.hide.ensures.asks c.since.ensures c.in_ok-since.was (λ db kept was told w makes.
    let readies = subst (λ r. IfOk r (λ _. Readies db c.args.self.now j (key.Blpu c.args.uprn))) c.in_ok-hide.was was in
    let ready = readies w makes in
    subst (λ ch. Makes db (with_changes j ch) (with_release w c.args.uprn c.args.to c.args.hop)) (sym c.in_ok-release.ensures.ok)
    (ready.released c.args.uprn c.args.to c.args.hop c.in_ok-since.since refl (told ready.known)))

pub returns-in_err-release-clause-asks : goal.returns-in_err-release-clause-asks
returns-in_err-release-clause-asks g c = rw (passed_on _ _ c.from_residual-in_err-release.ensures.1) (asked_want _ _ _ _ _ _ _ _ c.hide.ensures.asks c.since.ensures)

pub returns-in_err-since-clause-asks : goal.returns-in_err-since-clause-asks
returns-in_err-since-clause-asks g c = rw (passed_on _ _ c.from_residual-in_err-since.ensures.1) (asked_fault _ _ _ _ _ _ _ _ _ c.hide.ensures.asks c.since.ensures c.in_err-since.was)
