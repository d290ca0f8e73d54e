-- The worked examples on the door and on the steps of a hub.
use Rattle.std.proofs.Common.{◌≡◌, ℕ, List, [], refl, sym, ap, ◌∙◌, subst, true≢false}
use Rattle.std.specs.Prelude.{Option, Some, None}
use Rattle.std.specs.Option.{option_map}
use Rattle.std.specs.FinMap as map
use Rattle.sha2.specs.Sha256.{sha256}
use Rattle.gaz_keeper.specs.Board.{Board, empty_board}
use Rattle.gaz_keeper.specs.Received.{pair_cmp}
use Rattle.gaz_steps.specs.Standing.{Follows, standing}
use Rattle.gaz_steps.specs.Outcomes.{outcome, status}
use Rattle.gaz_steps.specs.Sample.{sample_door, sample_register}
use Rattle.gaz_steps.specs.Step.{HubState, Settles, new_hub, told_of}
use Rattle.gaz_steps.specs.declared.outcome.Outcome.{Outcome}
use Rattle.gaz_steps.specs.declared.outcome.Outcome.TheVariants.{Rejected, Held}
use Rattle.gaz_steps.specs.declared.refusal.DoorRefusal.TheVariants as at_door
use Rattle.gaz_steps.specs.declared.standing.Standing.{Standing}
use Rattle.gaz_steps.specs.Examples.{all_sent, gap_hub, no_text, one_judged, sent, three_judged, whole_hub}
use Rattle.gaz_steps.specs.WorkedSteps.{WorkedCommands, WorkedDoor, WorkedQuestions, WorkedRefusals, WorkedRepeats, WorkedSteps, WorkedSubmissions}
use Rattle.gaz_steps.proofs.Examples.{closed_all, closed_first, closed_sent, entries_sent, first_ready, get_all, get_first, get_sent, no_none, partial_1, partial_first, partial_sent, stands_all, stands_sent}
use Rattle.gaz_steps.proofs.Leading.{follows_itself, follows_on, standing_follows}
use Rattle.gaz_steps.proofs.Orders.{any_order_holds}
use Rattle.gaz_steps.proofs.Steps.{has_all_with}
use Rattle.gaz_steps.proofs.WorkedAnswers.{told_held}

on_door : WorkedDoor
on_door = record {
  no_volume_0 = refl;
  first_volume = refl;
  last_volume = refl;
  no_greater_volume = refl;
  unknown_first = refl;
  volume_next = refl;
  size_last = refl;
  greatest = refl;
  others_go_before_profile = refl;
  profile_at_last = refl;
  no_foreign_profile = refl;
  profile_turned_away = refl;
  volume_before_profile = refl;
  let_in = refl;
}

on_commands : WorkedCommands
on_commands = record {
  profile_not_early = refl;
  profile_at_door = refl;
  no_profile_asked = refl;
  no_volume_asked = refl;
  unknown_asked = refl;
  known_asked = refl;
  settling_let_in = refl;
}

-- ---- settling

from_first : Follows sample_register sent one_judged one_judged
from_first = follows_itself sample_register sent one_judged one_judged refl

pub gap_settled : Settles sample_door sent one_judged one_judged
gap_settled = record { follows = from_first; settled = closed_sent }

gap_filled : Settles sample_door all_sent one_judged three_judged
gap_filled =
    let on : Follows sample_register all_sent (standing sample_register sent) (standing sample_register all_sent) = standing_follows sample_register sent all_sent (has_all_with sent 1003 2 no_text (get_sent (1003, 2))) in
    record { follows = subst (λ B. Follows sample_register all_sent B three_judged) stands_sent (subst (Follows sample_register all_sent (standing sample_register sent)) stands_all on); settled = closed_all }

pub late_settled : Settles sample_door sent empty_board one_judged
late_settled = record { follows = partial_sent; settled = closed_sent }

never_late : (before : Board) → Settles sample_door sent before empty_board → ⊥
never_late before s = true≢false (sym (first_ready sent (get_sent (1003, 1))) ∙ s.settled 1003)

-- ---- outcomes

not_both : (o : Option Outcome) (p r c v : ℕ) → o ≡ Some (Rejected p r) → o ≡ Some (Held c v) → ⊥
not_both o p r c v e f = let no : Some (Rejected p r) ≡ Some (Held c v) = sym e ∙ f in cc

-- with volume 2 there, the board on which nothing is ready has all three judged
second_judged : (new : HubState) → new.received ≡ all_sent → Settles sample_door new.received one_judged new.board → outcome new.received new.board 1003 2 ≡ Some (Held 1003 2) → ⊥
second_judged new same settled told =
    let s = subst (λ F. Settles sample_door F one_judged new.board) same settled in
    let partial = follows_on sample_register all_sent empty_board one_judged new.board (partial_1 all_sent (get_all (1003, 1))) s.follows in
    let is : new.board ≡ three_judged = any_order_holds sample_register all_sent new.board partial s.settled ∙ stands_all in
    not_both _ 1 1 1003 2 refl (sym (λ i. outcome (same i) (is i) 1003 2) ∙ told)

pub on_submissions : WorkedSubmissions
on_submissions = record {
  new = record {
    let_in = refl;
    free = map.get-empty pair_cmp (1003, 1);
    received = refl;
    settled = record { follows = partial_first; settled = closed_first };
    answer = refl;
  };
  new_and_held = record { let_in = refl; free = get_first (1003, 3); received = refl; settled = gap_settled; answer = told_held };
  new_in_the_gap = record { let_in = refl; free = get_sent (1003, 2); received = refl; settled = gap_filled; answer = refl };
  never_held_for_good = λ B s. second_judged B s.received s.settled s.answer;
  never_unreceived = λ s. no_none _ _ (get_first (1003, 1)) (sym (ap (λ X. map.get X (1003, 1)) s.received) ∙ map.get-empty pair_cmp (1003, 1));
  never_unjudged = λ s. never_late _ s.settled;
  received_unjudged = record { let_in = refl; free = get_first (1003, 3); received = refl; board = follows_itself sample_register sent empty_board empty_board refl };
  never_twice = λ s. no_none _ _ (get_sent (1003, 3)) s.free;
}

same_bytes : (o : Option (List ℕ)) (a b : List ℕ) → o ≡ Some a → o ≡ Some b → a ≡ b
same_bytes o a b e f = let same : Some a ≡ Some b = sym e ∙ f in cc

pub on_repeats : WorkedRepeats
on_repeats = record {
  repeated = record { let_in = refl; there = get_sent (1003, 1); received = refl; settled = gap_settled; answer = refl };
  repeated_held = record { let_in = refl; there = get_sent (1003, 3); received = refl; settled = gap_settled; answer = told_held };
  never_the_first_outcome = λ s. not_both _ 1 1 1003 2 refl s.answer;
  never_new_again = λ s. no_none _ _ (get_sent (1003, 1)) s.free;
  never_lost = λ s. no_none _ _ (get_sent (1003, 1)) (sym (ap (λ X. map.get X (1003, 1)) s.received) ∙ map.get-empty pair_cmp (1003, 1));
  taken = record { let_in = refl; others = no_text; there = get_sent (1003, 1); differ = λ e. cc; digest_is = refl; received = refl; settled = gap_settled };
  no_other_digest = λ digest s. s.digest_is ∙ ap sha256 (same_bytes _ s.others no_text s.there (get_sent (1003, 1)));
  never_by_volume_alone = λ s. let e : Some no_text ≡ Some [] = sym (get_sent (1003, 1)) ∙ s.there in cc;
  never_taken_by_itself = λ s. let e : Some no_text ≡ Some s.others = sym (get_sent (1003, 1)) ∙ s.there in s.differ cc;
}

same_hub : (old new : HubState) (p : ℕ × ℕ) (bytes : List ℕ) → map.get old.received p ≡ Some bytes → map.get new.received p ≡ None → new.received ≡ old.received → ⊥
same_hub old new p bytes at none e = no_none _ bytes at (sym (ap (λ X. map.get X p) e) ∙ none)

on_refusals : WorkedRefusals
on_refusals = record {
  refused = record { refused = refl; same = refl };
  never_for_another_reason = λ s. let e : Some at_door.BadVolume ≡ Some at_door.TooLarge = s.refused in cc;
  never_with_a_change = λ s. same_hub gap_hub new_hub (1003, 1) no_text (get_sent (1003, 1)) (map.get-empty pair_cmp (1003, 1)) (ap (λ h. h.received) s.same);
  asked_in_vain = (refl, record { refused = refl; same = refl });
  stands_in_vain = (refl, record { refused = refl; same = refl });
  not_received = record { let_in = refl; received = refl; board = from_first };
  some_judged = record { let_in = refl; received = refl; board = partial_sent };
  never_received = λ s. same_hub whole_hub gap_hub (1003, 2) no_text (get_all (1003, 2)) (get_sent (1003, 2)) (sym s.received);
  never_received_by_asking = λ s. s.1;
}

standing_is : status sent one_judged 1003 ≡ record { custodian = 1003; held = 1; judged = 1; wants = Some (1003, 2) }
standing_is = rw (entries_sent, get_sent (1003, 2)) refl

told_first : told_of gap_hub 1003 1 ≡ Some (sha256 no_text, Rejected 1 1)
told_first = rw (get_sent (1003, 1)) refl

told_none : told_of gap_hub 1003 2 ≡ None
told_none = rw (get_sent (1003, 2)) refl

on_questions : WorkedQuestions
on_questions = record {
  told = (refl, record { let_in = refl; received = refl; settled = gap_settled; answer = sym told_first });
  told_of_nothing = (refl, record { let_in = refl; received = refl; settled = gap_settled; answer = sym told_none });
  never_nothing = λ s. let no : None ≡ Some (sha256 no_text, Rejected 1 1) = s.1.answer ∙ told_first in cc;
  never_another_outcome = λ s. let e : Some (Held 1003 2) ≡ Some (Rejected 1 1) = ap (option_map (λ (x : List ℕ × Outcome). x.1)) (s.1.answer ∙ told_first) in cc;
  stands = (refl, record { let_in = refl; received = refl; settled = gap_settled; answer = sym standing_is });
  never_judged_as_held = λ s. let e : 2 ≡ 1 = ap (λ (x : Standing). x.held) (s.1.answer ∙ standing_is) in cc;
  settled = (refl, record { let_in = refl; received = refl; settled = late_settled; answer = refl });
  never_half_settled = λ s. never_late _ s.1.settled;
  gives_up = (refl, record { let_in = refl; received = refl; board = follows_itself sample_register sent empty_board empty_board refl });
  never_answered_otherwise = λ s. let no = s.0 in cc;
  settles = late_settled;
  settles_too_little = λ s. never_late _ s;
}

pub worked_steps_hold : WorkedSteps
worked_steps_hold = record { on_door = on_door; on_commands = on_commands; on_submissions = on_submissions; on_repeats = on_repeats; on_refusals = on_refusals; on_questions = on_questions }
