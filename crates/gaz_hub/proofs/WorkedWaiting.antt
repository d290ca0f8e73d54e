-- The worked examples on what a hub remembers of who waits for what.
use Rattle.std.proofs.Common.{◌≡◌, ℕ, Bool, true, cond, eqb, filter, not, List, [], ◌∷◌, ◌++◌, refl, sym, ap, ◌∙◌, subst, true≢false}
use Rattle.std.specs.Prelude.{Option, Some, None}
use Rattle.std.specs.Option.{option_map_or, unwrap_or}
use Rattle.std.specs.FinMap as finmap
use Rattle.gaz_keeper.proofs.Pairs.{pairs_total}
use Rattle.gaz_keeper.specs.Board.{empty_board}
use Rattle.gaz_keeper.specs.Keeper.{empty_content}
use Rattle.gaz_keeper.specs.Received.{pair_cmp}
use Rattle.gaz_waiters.specs.Remembered.{is_among, known_in, waiting_for, with_waiter}
use Rattle.gaz_steps.specs.Outcomes.{wants}
use Rattle.gaz_hub.specs.WorkedHubs.{upper_and_lower}
use Rattle.gaz_hub.specs.WorkedWaiting.{WorkedWaiting, nobody, two_wait, waits_for_itself}
use Rattle.gaz_steps.proofs.Examples.{closed_sent}
use Rattle.gaz_hub.proofs.Memory.{recalled}
use Rattle.gaz_hub.proofs.Waiting.{nothing_wanted, now_waits, now_wanted, still_wanted, waiting_with}
use Rattle.gaz_hub.proofs.WorkedHubs.{wanted_is}

-- nobody waits for anything
none_waits : (p : ℕ × ℕ) → waiting_for nobody p ≡ []
none_waits p = ap (λ o. unwrap_or o []) (finmap.get-empty pair_cmp p)

-- one of them waits for volume 1 of 1001, and nobody for volume 2
first : (c : ℕ) → waiting_for (with_waiter nobody (1001, 1) c) (1001, 1) ≡ c ∷ []
first c = waiting_with nobody (1001, 1) (1001, 1) c ∙ ap (λ xs. xs ++ c ∷ []) (none_waits (1001, 1))

two : (c d : ℕ) → waiting_for (with_waiter (with_waiter nobody (1001, 1) c) (1001, 1) d) (1001, 1) ≡ c ∷ d ∷ []
two c d = waiting_with (with_waiter nobody (1001, 1) c) (1001, 1) (1001, 1) d ∙ ap (λ xs. xs ++ d ∷ []) (first c)

none_for_the_next : waiting_for two_wait (1001, 2) ≡ []
none_for_the_next =
    waiting_with (with_waiter nobody (1001, 1) 1002) (1001, 1) (1001, 2) 1003
    ∙ waiting_with nobody (1001, 1) (1001, 2) 1002 ∙ none_waits (1001, 2)

itself_waits : waiting_for waits_for_itself (1003, 2) ≡ 1003 ∷ []
itself_waits = waiting_with nobody (1003, 2) (1003, 2) 1003 ∙ ap (λ xs. xs ++ 1003 ∷ []) (none_waits (1003, 2))

not_for_the_later : waiting_for waits_for_itself (1003, 3) ≡ []
not_for_the_later = waiting_with nobody (1003, 2) (1003, 3) 1003 ∙ none_waits (1003, 3)

-- the ahead after a judgement of 1001, of these that waited
looked_at : List ℕ → List ℕ
looked_at xs = 1001 ∷ filter (λ c. not (eqb c 1001)) xs

is_waiting : Option (ℕ × ℕ) → Bool
is_waiting None = true
is_waiting (Some q) = is_among (waiting_for waits_for_itself q) 1003

volume_of : Option (ℕ × ℕ) → ℕ
volume_of o = option_map_or (λ (p : ℕ × ℕ). p.1) o 0

wanted_at_first : wants finmap.empty empty_board 1001 ≡ Some (1001, 1)
wanted_at_first = rw (finmap.get-empty pair_cmp (1001, 1)) refl

pub worked_waiting_hold : WorkedWaiting
unfolding looked_at is_waiting volume_of
worked_waiting_hold = record {
  all_at_first = refl;
  one_is_among = refl;
  none_is_among = refl;
  in_turn = two 1002 1003;
  not_for_the_next = none_for_the_next;
  woken = ap looked_at (two 1002 1003);
  woken_once = ap looked_at (two 1001 1002);
  waits_no_more = ap (λ o. unwrap_or o []) (finmap.get-remove pairs_total two_wait.waiting (1001, 1) (1001, 1));
  not_woken = ap looked_at none_for_the_next;
  came = ap (λ xs. (cond (is_among xs 1003) (record waits_for_itself { ahead = 1003 ∷ [] }) waits_for_itself).ahead) itself_waits;
  wanted = still_wanted (with_waiter nobody (1001, 1) 1002) (1001, 1) 1003 1002 refl ∙ now_wanted nobody (1001, 1) 1002;
  wanted_later = now_wanted two_wait (1003, 2) 1002;
  wants_nothing = nothing_wanted two_wait 1002;
  known = now_wanted nobody (1003, 2) 1003;
  not_known_ahead = ap (λ xs. known_in (Some (cond (is_among xs 1003) (record waits_for_itself { ahead = 1003 ∷ [] }) waits_for_itself)) 1003) itself_waits;
  known_of_nothing = refl;
  is_so = λ p e. wanted_is ∙ e;
  never_so = λ so. let e : 2 ≡ 3 = ap volume_of (sym wanted_is ∙ so (1003, 3) refl) in cc;
  never_of_another = λ r. let e : 9 ≡ 2 = ap volume_of (sym (now_wanted waits_for_itself (1001, 9) 1003) ∙ r.wanted ∙ wanted_is) in cc;
  came_too_early = ap (λ xs. (cond (is_among xs 1003) (record waits_for_itself { ahead = 1003 ∷ [] }) waits_for_itself).ahead) not_for_the_later;
  came_for_others = ap (λ xs. (cond (is_among xs 1001) (record two_wait { ahead = 1001 ∷ [] }) two_wait).ahead) (two 1002 1003);
  rests = record {
    unready = closed_sent 1003;
    waits = λ q w. subst (λ o. is_waiting o ≡ true) (sym wanted_is ∙ w) (now_waits nobody (1003, 2) 1003);
    wanted = now_wanted nobody (1003, 2) 1003 ∙ sym wanted_is;
  };
  never_forgotten = λ r. true≢false (sym (r.waits (1003, 2) wanted_is) ∙ ap (λ xs. is_among xs 1003) (none_waits (1003, 2)));
  right_of_nothing = λ k. tt;
  right_at_first = recalled upper_and_lower None empty_content tt;
  never_right_of_nobody = λ h. true≢false (sym ((h 1001 refl refl refl).waits (1001, 1) wanted_at_first) ∙ ap (λ xs. is_among xs 1001) (none_waits (1001, 1)));
}
