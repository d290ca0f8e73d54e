-- Calls of a hub over a keeper, one after another.
use Rattle.std.proofs.Common.{◌≡◌, inl, Bool, true, false, ◌&&◌, true≢false, List, [], ◌∷◌, ◌++◌, refl, sym, ◌∙◌, append-nil, arith}
use Rattle.gaz_keeper.specs.Keeper.{Seen}
use Rattle.gaz_steps.specs.Hubs.{ReachesAll, Runs, StandsFor, Steps, all_declined, is_declined, state_of}
use Rattle.gaz_steps.specs.Laws.{CallsMakeRuns}
use Rattle.gaz_steps.specs.Step.{Command, Door, Response}
use Rattle.gaz_steps.proofs.Prefixes.{both_parts}
use Rattle.gaz_steps.proofs.RunStops.{run_stops_one, run_stops_then}
use Rattle.gaz_steps.proofs.Runs.{run_then}

-- no call
pub runs_none : (d : Door) (s : Seen) → Runs d s s [] []
runs_none d s = record {
  harm = λ u. u;
  stands = λ st u. st;
  run = λ st u. refl;
  idle = λ i. i;
  failures = omega arith;
  trust = λ t. t;
  stays = λ all hub. refl;
  was_open = λ no t. absurd (true≢false no);
  reaches = λ stood t. (state_of s.content, refl);
  stops = λ sound. record { ever = λ k l. inl l; now = λ fine k l. inl (l, refl); answered = refl; received = λ k l. tt; whole = λ all. all };
}

and_true : (b : Bool) → (b && true) ≡ b
and_true true = refl
and_true false = refl

-- all are declined where those of both parts are
declined_both : (rs ss : List Response) → all_declined (rs ++ ss) ≡ (all_declined rs && all_declined ss)
declined_both [] ss = refl
declined_both (r ∷ rs) ss = by_first (is_declined r) (declined_both rs ss)
  where
    by_first : (b : Bool) → all_declined (rs ++ ss) ≡ (all_declined rs && all_declined ss) → (b && all_declined (rs ++ ss)) ≡ ((b && all_declined rs) && all_declined ss)
    by_first true rest = rest
    by_first false rest = refl

-- one call
pub runs_one : (d : Door) (old new : Seen) (command : Command) (response : Response) → Steps d old new command response
    → Runs d old new (command ∷ []) (response ∷ [])
runs_one d old new command response s = record {
  harm = s.harm;
  stands = s.stands;
  run = λ st u. (_, s.step st u, refl);
  idle = λ i. s.idle;
  failures = s.failures;
  trust = s.trust;
  stays = λ all hub. (hub, s.stays (both_parts (is_declined response) true all).0 hub, refl);
  was_open = λ no. s.was_open (sym (and_true (is_declined response)) ∙ no);
  reaches = λ stood t. let reached = s.reaches stood t in (reached.0, (reached.0, reached.1, refl));
  stops = λ sound. run_stops_one d old new command response (λ fine. s.step (sound (s.harm fine)) fine) (s.stops sound);
}

-- calls, and then more of them
pub runs_then : (d : Door) (old mid new : Seen) (cs ds : List Command) (rs ss : List Response) → Runs d old mid cs rs → Runs d mid new ds ss
    → Runs d old new (cs ++ ds) (rs ++ ss)
runs_then d old mid new cs ds rs ss x y =
    let first = x.failures in
    let second = y.failures in
    record {
      harm = λ u. x.harm (y.harm u);
      stands = λ st u. y.stands (x.stands st (y.harm u)) u;
      run = λ st u. run_then d _ _ _ cs ds rs ss (x.run st (y.harm u)) (y.run (x.stands st (y.harm u)) u);
      idle = λ i. y.idle (x.idle i);
      failures = omega (arith, first, second);
      trust = λ t. x.trust (y.trust t);
      stays = λ all hub.
          let parts = both_parts (all_declined rs) (all_declined ss) (sym (declined_both rs ss) ∙ all) in
          run_then d hub hub hub cs ds rs ss (x.stays parts.0 hub) (y.stays parts.1 hub);
      was_open = λ no t. open_before t (all_declined rs) (all_declined ss) refl refl (sym (declined_both rs ss) ∙ no);
      reaches = λ stood t. reached stood t (all_declined ss) refl;
      stops = λ sound.
          run_stops_then d old mid new cs ds rs ss x.harm y.harm (λ fine. x.run (sound (x.harm fine)) fine)
          (λ fine. let was = y.harm fine in y.run (x.stands (sound (x.harm was)) was) fine) (x.stops sound)
          (y.stops (λ fine. x.stands (sound (x.harm fine)) fine));
    }
  where
    open_before : new.trusted → (a b : Bool) → all_declined rs ≡ a → all_declined ss ≡ b → (a && b) ≡ false → old.unharmed
    open_before t false b is js e = x.was_open is (y.trust t)
    open_before t true false is js e = x.harm (y.was_open js t)
    open_before t true true is js e = absurd (true≢false e)

    reached : StandsFor d old → new.trusted → (b : Bool) → all_declined ss ≡ b → ReachesAll d (state_of old.content) (cs ++ ds) (rs ++ ss)
    reached stood t true is =
        let first = x.reaches stood (y.trust t) in
        (first.0, run_then d _ _ _ cs ds rs ss first.1 (y.stays is first.0))
    reached stood t false is =
        let mid_fine = y.was_open is t in
        let last = y.reaches (x.stands stood mid_fine) t in
        (last.0, run_then d _ _ _ cs ds rs ss (x.run stood mid_fine) last.1)

-- calls, and then none
pub runs_still : (d : Door) (old mid new : Seen) (cs : List Command) (rs : List Response) → Runs d old mid cs rs → Runs d mid new [] []
    → Runs d old new cs rs
runs_still d old mid new cs rs x y = rw (append-nil cs, append-nil rs) at (runs_then d old mid new cs [] rs [] x y)

pub calls_make_runs : {K : Type 0} (seen : K → Seen) → CallsMakeRuns seen
calls_make_runs seen =
    record {
      none = λ d a. runs_none d (seen a);
      one = λ d a b command response s. runs_one d (seen a) (seen b) command response s;
      joined = λ d a b c commands others responses replies x y. runs_then d (seen a) (seen b) (seen c) commands others responses replies x y;
    }
