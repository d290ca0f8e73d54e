use Rattle.std.proofs.Common.{◌≡◌, ◌∙◌, ap, refl}
use Rattle.std.specs.Prelude.{⊤, Some}
use Rattle.gaz_keeper.specs.Received.{count_above}
use Rattle.gaz_tables.specs.Schema.{received}
use Rattle.gaz_tables.specs.Tables.{rows_of}
use Rattle.gaz_kept.specs.Files.{files_in}
use Rattle.gaz_calls.specs.Asking.{Recalls}
use Rattle.gaz_calls.specs.Remembered.{IsSo, held_in}
use Rattle.gaz_counts.specs.declared.at_hand.AtHand.{AtHand}
use Rattle.gaz_keeper.proofs.Faults.{passed_on}
use Rattle.gaz_calls.proofs.Recalling.{if_some_at, recalled, recalls_fault, recalls_more, recalls_noting}
use Rattle.gaz_calls.proofs.tables.Tables.held.Goals as goal

pub returns-in-Some : goal.returns-in-Some
returns-in-Some g c =
    recalled _ _ c.counts.result c.in_ok-at_hand.at_hand _ _ _ c.counts.ensures c.in_ok-at_hand.was (λ db kept so.
    if_some_at c.in_ok-at_hand.at_hand.held c.in-Some.held (λ n. n ≡ held_in (rows_of db received) c.args.code) c.in-Some.is so.held)

pub returns : goal.returns
returns g c =
    let counted : AtHand = record { reached = c.in_ok-at_hand.at_hand.reached; held = Some c.in_ok-held.held } in
    let more : Recalls c.args.self.now c.count_above.new.self c.count_above.result (λ db n. IsSo (rows_of db received) c.args.code (record { reached = c.in_ok-at_hand.at_hand.reached; held = Some n })) =
    recalls_more _ _ _ c.counts.result c.count_above.result c.in_ok-at_hand.at_hand _ _ _ c.counts.ensures c.in_ok-at_hand.was c.count_above.ensures
    (λ db kept so n is. record { reached = so.reached; held = is ∙ ap (count_above (files_in (rows_of db received)) c.args.code) so.reached }) in
    recalls_noting _ _ _ c.count_above.result c.in_ok-held.held c.args.code counted c.in_ok-held.held _ _ more c.in_ok-held.was (λ db kept so. (so, so.held))
    refl refl c.note.ensures

pub returns-in_err-held : goal.returns-in_err-held
returns-in_err-held g c =
    rw (passed_on _ _ c.from_residual-in_err-held.ensures.1) (recalls_fault _ _ c.count_above.result _ _ _
    (recalls_more _ _ _ c.counts.result c.count_above.result c.in_ok-at_hand.at_hand _ _ (λ db n. ⊤) c.counts.ensures c.in_ok-at_hand.was c.count_above.ensures (λ db kept so n is. tt))
    c.in_err-held.was)
