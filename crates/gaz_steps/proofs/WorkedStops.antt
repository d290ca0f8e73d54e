-- The worked examples on what a stop may leave of a hub.
use Rattle.std.proofs.Common.{◌≡◌, ◌∙◌, ap, inl, inr, refl, sym, true≢false}
use Rattle.std.specs.FinMap as map
use Rattle.gaz_keeper.specs.Board.{empty_board}
use Rattle.gaz_keeper.specs.Received.{Received, pair_cmp}
use Rattle.gaz_steps.specs.Examples.{first_sent, no_text}
use Rattle.gaz_steps.specs.Sample.{sample_register}
use Rattle.gaz_steps.specs.WorkedStops.{WorkedStops}
use Rattle.gaz_steps.proofs.Examples.{get_first, no_none, partial_first}
use Rattle.gaz_steps.proofs.Leading.{follows_itself}

pub not_empty : first_sent ≡ map.empty → ⊥
not_empty e = no_none (map.get first_sent (1003, 1)) no_text (get_first (1003, 1)) (ap (λ (F : Received). map.get F (1003, 1)) e ∙ map.get-empty pair_cmp (1003, 1))

pub worked_stops_hold : WorkedStops
worked_stops_hold = record {
  not_there = inl (record { working = refl; files = refl; board = follows_itself sample_register map.empty empty_board empty_board refl });
  there = inr (record {
    let_in = refl;
    free = map.get-empty pair_cmp (1003, 1);
    later = record { working = refl; files = refl; board = follows_itself sample_register first_sent empty_board empty_board refl };
  });
  there_and_judged = inr (record {
    let_in = refl;
    free = map.get-empty pair_cmp (1003, 1);
    later = record { working = refl; files = refl; board = partial_first };
  });
  never_lost = λ l. not_empty (sym l.later.files);
  never_forgotten = λ l. elim l [
    | inl same ↦ not_empty (sym same.files)
    | inr more ↦ no_none (map.get first_sent (1003, 1)) no_text (get_first (1003, 1)) more.free
  ];
  never_by_asking = λ l. not_empty l.files;
  never_twice = λ l. no_none (map.get first_sent (1003, 1)) no_text (get_first (1003, 1)) l.free;
  new_is_taken_in = refl;
  unsettled_is_taken_in = refl;
  not_received_is_not = refl;
  repeat_is_not = refl;
  received_stays = (λ is. get_first (1003, 1), tt);
  received_is_not_lost = λ has. no_none (map.get map.empty (1003, 1)) no_text (has.0 refl) (map.get-empty pair_cmp (1003, 1));
  unreceived_may_lack = (λ is. absurd (true≢false (sym is)), tt);
}
