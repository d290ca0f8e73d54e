use Rattle.std.proofs.Common.{◌∙◌, IfOk, ap, refl, subst, sym}
use Rattle.gaz_records.specs.Keys.{key_of}
use Rattle.gaz_records.specs.declared.key.Key.TheVariants as key
use Rattle.gaz_views.specs.Numbered.{with_adopted}
use Rattle.gaz_keeper.proofs.Faults.{passed_on}
use Rattle.gaz_calls.proofs.Answered.{asked_fault, asked_step, asked_want}
use Rattle.gaz_store.specs.Beside.{Makes, Readies, with_changes}
use Rattle.gaz_store.proofs.judgement.Judgement.adopt.Goals as goal

pub returns-clause-asks : goal.returns-clause-asks
returns-clause-asks g c =
    let j = c.hide.new.self in
    let own = c.key_of-key.ensures ∙ ap key_of c.deref.ensures in
    asked_step _ _ _ _ c.since.result c.in_ok-since.since _ _ _ _ c.hide.ensures.asks c.since.ensures c.in_ok-since.was (λ db kept was told w makes.
    let readies = subst (λ r. IfOk r (λ _. Readies db c.args.self.now j (key.Blpu c.in-Blpu.uprn))) c.in_ok-hide.was was in
    let ready = readies w makes in
    subst (λ ch. Makes db (with_changes j ch) (with_adopted w c.args.blpu c.args.from c.args.hop)) (sym c.in_ok-adopt.ensures.ok)
    (ready.adopted c.args.blpu c.args.from c.args.hop c.in-Blpu.uprn c.in_ok-since.since c.requires (sym own ∙ c.in-Blpu.is) refl (told ready.known)))

pub returns-in_err-adopt-clause-asks : goal.returns-in_err-adopt-clause-asks
returns-in_err-adopt-clause-asks g c = rw (passed_on _ _ c.from_residual-in_err-adopt.ensures.1) (asked_want _ _ _ _ _ _ _ _ c.hide.ensures.asks c.since.ensures)

pub returns-in_err-since-clause-asks : goal.returns-in_err-since-clause-asks
returns-in_err-since-clause-asks g c = rw (passed_on _ _ c.from_residual-in_err-since.ensures.1) (asked_fault _ _ _ _ _ _ _ _ _ c.hide.ensures.asks c.since.ensures c.in_err-since.was)
