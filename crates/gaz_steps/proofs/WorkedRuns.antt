-- The worked examples on runs of a hub.
use Rattle.std.proofs.Common.{◌≡◌, [], ◌∷◌, refl, sym, ap, ◌∙◌}
use Rattle.std.specs.Prelude.{Some, None}
use Rattle.std.specs.FinMap as map
use Rattle.sha2.specs.Sha256.{sha256}
use Rattle.gaz_keeper.specs.Received.{pair_cmp, with_file}
use Rattle.gaz_steps.specs.Answers.{AllAnswered, IsReadOff, received_by, standing_hub}
use Rattle.gaz_steps.specs.Outcomes.{outcome}
use Rattle.gaz_steps.specs.Runs.{Run}
use Rattle.gaz_steps.specs.Sample.{sample_door, sample_register}
use Rattle.gaz_steps.specs.Standing.{standing}
use Rattle.gaz_steps.specs.Step.{HubState, Submit, Submitted, new_hub, told_of}
use Rattle.gaz_steps.specs.declared.answer.Answer.TheVariants.{New}
use Rattle.gaz_steps.specs.declared.outcome.Outcome.TheVariants.{Rejected, Held}
use Rattle.gaz_steps.specs.Examples.{all_sent, first_hub, gap_hub, no_text, no_text_judged, sent}
use Rattle.gaz_steps.specs.WorkedRuns.{WorkedFirsts, WorkedReadOff, WorkedResponses, WorkedRuns, WorkedWholes, answers, sending, wrong_answers}
use Rattle.gaz_steps.proofs.Examples.{get_all, get_first, get_sent, no_none, stands_all, stands_sent}
use Rattle.gaz_steps.proofs.Answers.{every_answer_holds}
use Rattle.gaz_steps.proofs.Runs.{every_run_holds, nothing_partial}
use Rattle.gaz_steps.proofs.WorkedSteps.{on_repeats, on_submissions}

on_responses : WorkedResponses
on_responses = record {
  new_settles = refl;
  taken_settles = refl;
  refused_settles_nothing = refl;
  submitted_settles = refl;
  told_settles = refl;
  stands_settles_nothing = refl;
  settled_settles = refl;
  given_up_settles_nothing = refl;
  last_settles = refl;
  one_before_alone = refl;
  nothing_was_said = refl;
  for_51 = refl;
  for_52 = refl;
  answered_51 = refl;
  answered_12 = refl;
  answered_new = refl;
  one_pair = refl;
  another_volume = refl;
  another_custodian = refl;
}

on_firsts : WorkedFirsts
on_firsts = record {
  received = refl;
  received_unsettled = refl;
  not_received = refl;
  turned_away = refl;
  another_pair = refl;
  asked = refl;
  second_stays = refl;
  nothing_else = refl;
}

runs : Run sample_door new_hub sending answers gap_hub
runs = (first_hub, on_submissions.new, (gap_hub, on_submissions.new_and_held, (gap_hub, on_repeats.repeated, refl)))

answered : AllAnswered sample_door map.empty sending answers sent
answered = every_answer_holds sample_door new_hub gap_hub sending answers (nothing_partial sample_door) runs

held_for_good : IsReadOff sample_door sent (Submit 1003 2 no_text) (Submitted (New (Held 1003 2))) → ⊥
held_for_good h =
    let e : Some (Held 1003 2) ≡ Some (Rejected 1 1) = sym h.1 ∙ ap (λ B. outcome all_sent B 1003 2) stands_all in
    cc

-- after the first two
sent_then : sent ≡ received_by sample_door map.empty (Submit 1003 1 no_text ∷ Submit 1003 3 no_text ∷ []) (Submitted (New (Rejected 1 1)) ∷ Submitted (New (Held 1003 2)) ∷ [])
sent_then =
    (every_answer_holds sample_door new_hub gap_hub
    (Submit 1003 1 no_text ∷ Submit 1003 3 no_text ∷ [])
    (Submitted (New (Rejected 1 1)) ∷ Submitted (New (Held 1003 2)) ∷ [])
    (nothing_partial sample_door)
    (first_hub, on_submissions.new, (gap_hub, on_submissions.new_and_held, refl))).received

told_stands : told_of (standing_hub sample_door sent) 1003 1 ≡ Some (sha256 no_text, Rejected 1 1)
told_stands = rw (stands_sent, get_sent (1003, 1)) refl

on_read_off : WorkedReadOff
on_read_off = record {
  received = rw (map.get-empty pair_cmp (1003, 1)) refl;
  not_after_51 = rw (get_first (1003, 3)) refl;
  never_replaced = rw (get_first (1003, 1)) refl;
  one_by_one = sym answered.received;
  read_off = answered.read_off;
  never_new_twice = λ all. no_none _ _ (get_sent (1003, 1)) (ap (λ F. map.get F (1003, 1)) sent_then ∙ all.1.1.0.0);
  never_held_for_good = held_for_good;
  never_nothing = λ h. let no : None ≡ Some (sha256 no_text, Rejected 1 1) = h.1 ∙ told_stands in cc;
  never_answered_otherwise = λ h. let no = h.0 in cc;
}

new_twice : (hub : HubState) → Run sample_door new_hub sending wrong_answers hub → ⊥
new_twice hub r =
    let second : r.2.0.received ≡ sent = r.2.1.received ∙ ap (λ F. with_file F 1003 3 no_text) r.1.received in
    no_none _ _ (get_sent (1003, 1)) (sym (ap (λ F. map.get F (1003, 1)) second) ∙ r.2.2.1.free)

told_first : outcome sent (standing sample_register sent) 1003 1 ≡ Some (Rejected 1 1)
told_first = rw stands_sent refl

on_wholes : WorkedWholes
on_wholes = record {
  runs = runs;
  rests = refl;
  never_new_twice = new_twice;
  never_without_answer = λ hub r. r;
  never_unasked = λ hub r. r;
  abides = every_run_holds sample_door sending answers gap_hub runs;
  never_with_less = λ a. no_none _ _ (a.first (1003, 3)) (get_first (1003, 3));
  never_with_more = λ a. no_none _ _ (get_all (1003, 2)) (a.first (1003, 2));
  never_unjudged = λ a. let no : [] ≡ no_text_judged ∷ [] = ap (λ B. B 1003) (a.settled refl ∙ stands_sent) in cc;
  repeat_changes_nothing = record { same = refl; outcome_is = told_first };
  repeat_never_adds = λ n. no_none _ _ (get_all (1003, 2)) (ap (λ h. map.get h.received (1003, 2)) n.same ∙ get_sent (1003, 2));
  repeat_never_tells_another = λ n. let e : Some (Rejected 1 1) ≡ Some (Held 1003 2) = sym told_first ∙ n.outcome_is in cc;
}

pub worked_runs_hold : WorkedRuns
worked_runs_hold = record { on_responses = on_responses; on_firsts = on_firsts; on_read_off = on_read_off; on_wholes = on_wholes }
