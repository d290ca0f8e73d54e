-- The worked examples on what was received, on who is ready, and on boards.
use Rattle.std.proofs.Common.{◌≡◌, ◌≤◌, true, false, cond, [], ◌∷◌, refl, sym, ap, ◌∙◌, subst, arith, true≢false}
use Rattle.std.specs.Option.{option_map}
use Rattle.std.specs.Prelude.{Some, slice_get}
use Rattle.std.specs.FinMap as map
use Rattle.gaz_rules.specs.Judging.{judge}
use Rattle.gaz_end_rules.proofs.Worked.{views}
use Rattle.gaz_keeper.specs.Board.{Judgement, Board, empty_board}
use Rattle.gaz_views.specs.View.{empty_view}
use Rattle.gaz_views.specs.declared.verdict.Verdict.TheVariants.{Applied, Rejected}
use Rattle.gaz_keeper.specs.Received.{Received, with_file}
use Rattle.gaz_steps.specs.Standing.{Follows, IsPartial, Leads, judge_one, ready, round, rounds, with_next}
use Rattle.gaz_steps.specs.Sample.{sample_register}
use Rattle.gaz_steps.specs.Examples.{all_sent, first_sent, no_text, no_text_judged, of_1003, one_judged, sent, sent_by_two, three_judged}
use Rattle.gaz_steps.specs.WorkedBoards.{WorkedBoards, WorkedJudging, WorkedOrders, WorkedReadiness, WorkedReceived, WorkedStanding}
use Rattle.gaz_steps.proofs.Examples.{all_of_1003, closed_gap, closed_sent, empty_is, entries_sent, first_ready, get_all, get_by_two, get_first, get_sent, judge_1003, judge_first, next_0, next_1, next_2, no_none, partial_1, reads, ready_0, ready_1, ready_2, round_1003, stands_all, stands_empty, stands_sent, two_judged}
use Rattle.gaz_steps.proofs.Leading.{standing_is_settled}
use Rattle.gaz_steps.proofs.Orders.{any_order_holds, empty_lawful, leads_lawful}
use Rattle.gaz_keeper.proofs.Pairs.{pairs_total}
use Rattle.gaz_steps.proofs.Prefixes.{prefix_length}
use Rattle.gaz_steps.proofs.Runs.{follows_below}
use Rattle.gaz_steps.proofs.Steps.{has_all_with}

other_bytes : map.get (with_file map.empty 1003 1 []) (1003, 1) ≡ Some []
other_bytes = map.get-insert pairs_total map.empty (1003, 1) [] (1003, 1)

on_received : WorkedReceived
on_received = record {
  by_custodian = refl;
  then_by_volume = refl;
  alike = refl;
  there = get_sent (1003, 3);
  missing = get_sent (1003, 2);
  two_files = map.len-entries sent ∙ rw entries_sent refl;
  has_more = has_all_with first_sent 1003 3 no_text (get_first (1003, 3));
  has_fewer = λ h. no_none _ _ (h (1003, 3) no_text (get_sent (1003, 3))) (get_first (1003, 3));
  has_other_bytes = λ h. let e : Some [] ≡ Some no_text = sym other_bytes ∙ h (1003, 1) no_text (get_first (1003, 1)) in cc;
}

ready_other : ready sent empty_board 1002 ≡ false
ready_other = rw (get_sent (1002, 1)) refl

on_readiness : WorkedReadiness
on_readiness = record {
  without_basis = refl;
  is_reached = refl;
  is_not_reached = refl;
  next_reads = rw (get_sent (1003, 1), reads 1003 1) refl;
  next_is_missing = rw (get_sent (1003, 2)) refl;
  first_is_ready = first_ready sent (get_sent (1003, 1));
  gap_is_not = closed_sent 1003;
  others_are_not = ready_other;
  none_after_the_last = λ B e. rw e refl;
  nothing_is = closed_sent;
  something_is = λ h. true≢false (sym (first_ready sent (get_sent (1003, 1))) ∙ h 1003);
}

next_empty : (F : Received) → map.get F (1003, 1) ≡ Some no_text → with_next sample_register F empty_board 1003 ≡ no_text_judged ∷ []
unfolding judge
next_empty F at = rw (at, reads 1003 1) refl

next_by_1002 : with_next sample_register sent_by_two empty_board 1002 ≡ no_text_judged ∷ []
unfolding judge
next_by_1002 = rw (get_by_two (1002, 1), reads 1002 1) refl

ready_1002 : ready sent_by_two empty_board 1002 ≡ true
ready_1002 = rw (get_by_two (1002, 1), reads 1002 1) refl

round_1002 : round sample_register sent_by_two empty_board 1002 ≡ no_text_judged ∷ []
round_1002 = ap (λ b. cond b (with_next sample_register sent_by_two empty_board 1002) []) ready_1002 ∙ next_by_1002

in_a_round : round sample_register sent_by_two empty_board 1003 ≡ no_text_judged ∷ []
in_a_round = ap (λ b. cond b (with_next sample_register sent_by_two empty_board 1003) []) (first_ready sent_by_two (get_by_two (1003, 1))) ∙ next_empty sent_by_two (get_by_two (1003, 1))

on_judging : WorkedJudging
unfolding judge
on_judging = record {
  bases_seen = refl;
  judged_first = simp views;
  judged_later = simp views;
  next_added = next_empty sent (get_sent (1003, 1));
  none_added = rw (get_sent (1003, 2)) refl;
  one_at_a_time = judge_first sent_by_two (get_by_two (1003, 1));
  both_in_a_round = round_1002 ∙ sym in_a_round;
  in_a_round = in_a_round;
}

one_round : rounds sample_register all_sent 1 empty_board ≡ one_judged
one_round = ap (round sample_register all_sent) empty_is ∙ round_1003 all_sent [] _ all_of_1003 (ready_0 all_sent (get_all (1003, 1))) (next_0 all_sent (get_all (1003, 1)))

two_rounds : rounds sample_register all_sent 2 empty_board ≡ two_judged
two_rounds = ap (round sample_register all_sent) one_round ∙ round_1003 all_sent _ _ all_of_1003 (ready_1 all_sent (get_all (1003, 2))) (next_1 all_sent (get_all (1003, 2)))

three_rounds : rounds sample_register all_sent 3 empty_board ≡ three_judged
three_rounds = ap (round sample_register all_sent) two_rounds ∙ round_1003 all_sent _ _ all_of_1003 (ready_2 all_sent (get_all (1003, 3))) (next_2 all_sent (get_all (1003, 3)))

on_standing : WorkedStanding
on_standing = record {
  no_round = refl;
  one_round = one_round;
  three_rounds = three_rounds;
  without_files = stands_empty;
  up_to_the_gap = stands_sent;
  without_gap = stands_all;
  goes_on_with_more = (no_text_judged ∷ no_text_judged ∷ [], rw (stands_sent, stands_all) refl);
  is_settled = standing_is_settled sample_register sent;
}

-- ---- which boards lead to which

over_a_gap : (B : Board) → Leads sample_register sent empty_board (1003 ∷ 1003 ∷ []) B → ⊥
over_a_gap B l = true≢false (sym l.1.0 ∙ ap (λ X. ready sent X 1003) (judge_first sent (get_sent (1003, 1))) ∙ closed_sent 1003)

goes_on : Follows sample_register all_sent one_judged three_judged
goes_on =
    let second : judge_one sample_register all_sent one_judged 1003 ≡ two_judged = judge_1003 all_sent _ _ (next_1 all_sent (get_all (1003, 2))) in
    let third : judge_one sample_register all_sent two_judged 1003 ≡ three_judged = judge_1003 all_sent _ _ (next_2 all_sent (get_all (1003, 3))) in
    record {
      order = 1003 ∷ 1003 ∷ [];
      leads = (
        ready_1 all_sent (get_all (1003, 2)),
        subst (λ X. Leads sample_register all_sent X (1003 ∷ []) three_judged) (sym second) (ready_2 all_sent (get_all (1003, 3)), sym third),
      );
    }

unreceived : IsPartial sample_register sent three_judged → ⊥
unreceived p =
    let lawful = leads_lawful sample_register sent empty_board p.order three_judged p.leads (empty_lawful sample_register sent) in
    let entry = lawful.each 1003 1 (omega arith) in
    no_none _ _ entry.came (get_sent (1003, 2))

abbrev applied : Judgement
applied = record { verdict = Applied; view = empty_view }

otherwise : IsPartial sample_register sent (of_1003 (applied ∷ [])) → ⊥
otherwise p =
    let same = any_order_holds sample_register sent (of_1003 (applied ∷ [])) p (closed_gap applied) ∙ stands_sent in
    let at : Some Applied ≡ Some (Rejected 1 1) = ap (λ (B : Board). option_map (λ j. j.verdict) (slice_get (B 1003) 0)) same in
    cc

on_orders : WorkedOrders
on_orders = record {
  one_leads = (first_ready sent (get_sent (1003, 1)), sym (judge_first sent (get_sent (1003, 1))));
  none_leads = refl;
  never_over_a_gap = over_a_gap;
  never_of_another = λ B l. true≢false (sym l.0 ∙ ready_other);
  never_by_itself = λ e. let at : no_text_judged ∷ [] ≡ [] = ap (λ (B : Board). B 1003) e in cc;
  goes_on = goes_on;
  never_back = λ f. let h : 3 ≤ 1 = prefix_length (three_judged 1003) (one_judged 1003) (follows_below sample_register all_sent three_judged one_judged f 1003) in omega arith;
  partial = partial_1 all_sent (get_all (1003, 1));
  never_unreceived = unreceived;
  never_otherwise = otherwise;
  begins = (2 ∷ [], refl);
  begins_with_another = λ p. let e = p.1 in cc;
  is_longer = λ p. let h : 2 ≤ 1 = prefix_length (1 ∷ 2 ∷ []) (1 ∷ []) p in omega arith;
}

pub worked_boards_hold : WorkedBoards
worked_boards_hold = record { on_received = on_received; on_readiness = on_readiness; on_judging = on_judging; on_standing = on_standing; on_orders = on_orders }
