-- Worked examples on what a hub remembers of who waits for what.
use Rattle.std.specs.Prelude.{◌≡◌, true, false, [], ◌∷◌, None, Some}
use Rattle.std.specs.FinMap as map
use Rattle.gaz_keeper.specs.Keeper.{Content, empty_content}
use Rattle.gaz_waiters.specs.Remembered.{Remembered, all_ahead, is_among, known_in, waiting_for}
use Rattle.gaz_waiters.specs.Remembered.{wanted_by, with_coming, with_judged, with_nothing_wanted}
use Rattle.gaz_waiters.specs.Remembered.{with_waiter}
use Rattle.gaz_steps.specs.Examples.{one_judged, sent}
use Rattle.gaz_hub.specs.Waiting.{IsRight, IsSo, Rests}
use Rattle.gaz_hub.specs.WorkedHubs.{upper_and_lower}

-- nobody is to be looked at, and nobody waits
abbrev pub nobody : Remembered
nobody = record { ahead = []; waiting = map.empty; wanted = map.empty }

-- custodian 1003 waits for its own volume 2, and 1002 for volume 1 of 1001 before 1003 does
abbrev pub waits_for_itself : Remembered
waits_for_itself = with_waiter nobody (1003, 2) 1003

abbrev pub two_wait : Remembered
two_wait = with_waiter (with_waiter nobody (1001, 1) 1002) (1001, 1) 1003

-- a custodian waits for its own volume, and another one too
abbrev pub both_wait : Remembered
both_wait = with_waiter (with_waiter nobody (1001, 1) 1001) (1001, 1) 1002

pub record WorkedWaiting : Type 0 where
  pub all_at_first : (all_ahead upper_and_lower).ahead ≡ 1001 ∷ 1002 ∷ []
  pub one_is_among : is_among (1001 ∷ 1002 ∷ []) 1002 ≡ true
  pub none_is_among : is_among (1001 ∷ 1002 ∷ []) 1003 ≡ false
  pub in_turn : waiting_for two_wait (1001, 1) ≡ 1002 ∷ 1003 ∷ []
  pub not_for_the_next : waiting_for two_wait (1001, 2) ≡ []
  -- the judged custodian and who waited are looked at, each once, and nobody waits any more
  pub woken : (with_judged two_wait (1001, 1)).ahead ≡ 1001 ∷ 1002 ∷ 1003 ∷ []
  pub woken_once : (with_judged both_wait (1001, 1)).ahead ≡ 1001 ∷ 1002 ∷ []
  pub waits_no_more : waiting_for (with_judged two_wait (1001, 1)) (1001, 1) ≡ []
  pub not_woken : (with_judged two_wait (1001, 2)).ahead ≡ 1001 ∷ []
  -- a file that came is looked at where it was waited for by its own custodian
  pub came : (with_coming waits_for_itself (1003, 2)).ahead ≡ 1003 ∷ []
  pub came_too_early : (with_coming waits_for_itself (1003, 3)).ahead ≡ []
  pub came_for_others : (with_coming two_wait (1001, 1)).ahead ≡ []
  -- what each waits for is known, but of who is to be looked at, or waits for nothing
  pub wanted : wanted_by two_wait 1002 ≡ Some (1001, 1)
  pub wanted_later : wanted_by (with_waiter two_wait (1003, 2) 1002) 1002 ≡ Some (1003, 2)
  pub wants_nothing : wanted_by (with_nothing_wanted two_wait 1002) 1002 ≡ None
  pub known : known_in (Some waits_for_itself) 1003 ≡ Some (1003, 2)
  pub not_known_ahead : known_in (Some (with_coming waits_for_itself (1003, 2))) 1003 ≡ None
  pub known_of_nothing : known_in None 1003 ≡ None
  pub is_so : IsSo sent one_judged 1003 (Some (1003, 2))
  pub never_so : IsSo sent one_judged 1003 (Some (1003, 3)) → ⊥
  -- volume 1 of 1003 is judged, volume 2 is missing and volume 3 was received
  pub rests : Rests waits_for_itself sent one_judged 1003
  pub never_forgotten : Rests nobody sent one_judged 1003 → ⊥
  pub never_of_another : Rests (with_waiter waits_for_itself (1001, 9) 1003) sent one_judged 1003
      → ⊥
  pub right_of_nothing : (k : Content) → IsRight upper_and_lower None k
  pub right_at_first : IsRight upper_and_lower (Some (all_ahead upper_and_lower)) empty_content
  pub never_right_of_nobody : IsRight upper_and_lower (Some nobody) empty_content → ⊥
