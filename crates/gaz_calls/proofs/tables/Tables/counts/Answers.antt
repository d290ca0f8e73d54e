use Rattle.std.proofs.Common.{◌≡◌, refl}
use Rattle.std.specs.Prelude.{None}
use Rattle.gaz_tables.specs.Schema.{received}
use Rattle.gaz_tables.specs.Tables.{rows_of}
use Rattle.gaz_kept.specs.Files.{reached_in}
use Rattle.gaz_calls.specs.Remembered.{IsSo}
use Rattle.gaz_counts.specs.declared.at_hand.AtHand.{AtHand}
use Rattle.gaz_keeper.proofs.Faults.{passed_on}
use Rattle.gaz_calls.proofs.Composing.{faulted}
use Rattle.gaz_calls.proofs.Recalling.{at_hand_already, recalls_asked, recalls_noting}
use Rattle.gaz_calls.proofs.tables.Tables.counts.Goals as goal

pub returns-in-Some : goal.returns-in-Some
returns-in-Some g c = at_hand_already c.args.self.now c.args.code c.in-Some.at_hand c.in-Some.ensures

pub returns : goal.returns
returns g c =
    let h : AtHand = record { reached = c.in_ok-reached.reached; held = None } in
    recalls_noting _ _ _ c.count_judged.result c.in_ok-reached.reached c.args.code h h (λ db n. n ≡ reached_in (rows_of db received) c.args.code) (λ db x. IsSo (rows_of db received) c.args.code x)
    (recalls_asked _ _ _ _ c.count_judged.ensures) c.in_ok-reached.was (λ db kept is. let so : IsSo (rows_of db received) c.args.code h = record { reached = is; held = tt } in (so, so))
    refl refl c.note.ensures

pub returns-in_err-reached : goal.returns-in_err-reached
returns-in_err-reached g c = rw (passed_on _ _ c.from_residual.ensures.1) (recalls_asked _ _ _ _ (faulted _ _ c.count_judged.result _ _ _ c.count_judged.ensures c.in_err-reached.was))
