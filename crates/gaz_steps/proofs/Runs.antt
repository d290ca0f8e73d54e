-- What a run of steps keeps.
use Rattle.std.proofs.Common.{◌≡◌, ℕ, true, false, true≢false, List, [], ◌∷◌, ◌++◌, refl, sym, ap, ◌∙◌, subst}
use Rattle.std.specs.Prelude.{Option, Some, None}
use Rattle.std.specs.List.{last_or}
use Rattle.std.specs.Option.{option_map_or, option_or}
use Rattle.std.specs.FinMap as map
use Rattle.gaz_register.specs.Registers.{Owners}
use Rattle.gaz_chains.specs.Chains.{IsPrefixOf}
use Rattle.gaz_keeper.specs.Board.{Board, empty_board}
use Rattle.gaz_keeper.specs.Received.{Received, pair_cmp}
use Rattle.gaz_steps.specs.Standing.{Follows, IsPartial, NothingReady, standing, Leads, judge_one}
use Rattle.gaz_steps.specs.Outcomes.{outcome}
use Rattle.gaz_steps.specs.Step.{Command, Door, HubState, Response, Step, blocks, new_hub}
use Rattle.gaz_steps.specs.Runs.{Run, is_settled, first_received, Abides, AbidesFrom, EveryRun, EveryRunFrom, EveryRepeat, JudgementsStay, EqualReceived, SettledRun}
use Rattle.gaz_steps.proofs.Orders.{any_order_holds, judge_one_moved, moved_below}
use Rattle.gaz_steps.proofs.Prefixes.{prefix_refl, prefix_trans}
use Rattle.gaz_steps.proofs.Leading.{follows_itself, follows_more, follows_on}
use Rattle.gaz_steps.proofs.Steps.{goes, or_none}

-- ---- whole runs

-- one run after another
pub run_then : (d : Door) (a b c : HubState) (cs ds : List Command) (rs ss : List Response) → Run d a cs rs b → Run d b ds ss c → Run d a (cs ++ ds) (rs ++ ss) c
run_then d a b c [] ds [] ss x y = rw (← x) y
run_then d a b c [] ds (r ∷ rs) ss x y = absurd x
run_then d a b c (k ∷ cs) ds [] ss x y = absurd x
run_then d a b c (k ∷ cs) ds (r ∷ rs) ss x y = (x.0, x.1, run_then d x.0 b c cs ds rs ss x.2 y)

or_assoc : {T : Type 0} (a b c : Option T) → option_or (option_or a b) c ≡ option_or a (option_or b c)
or_assoc None b c = refl
or_assoc (Some x) b c = refl

-- a step leaves a partial board partial
pub partial_next : (d : Door) (old : HubState) (command : Command) (response : Response) (new : HubState) → IsPartial (blocks d) old.received old.board → Step d old command response new
    → IsPartial (blocks d) new.received new.board
partial_next d old command response new partial s =
    let g = goes d old command response new s in
    follows_on (blocks d) new.received empty_board old.board new.board (follows_more (blocks d) old.received new.received g.all empty_board old.board partial) g.board

-- what a run receives, and that the board stays partial
record Kept (d : Door) (old : HubState) (commands : List Command) (responses : List Response) (new : HubState) : Type 0 where
  first : (p : ℕ × ℕ) → map.get new.received p ≡ option_or (map.get old.received p) (first_received d p commands responses)
  partial : IsPartial (blocks d) new.received new.board

run_kept : (d : Door) (old : HubState) (commands : List Command) (responses : List Response) (new : HubState) → IsPartial (blocks d) old.received old.board → Run d old commands responses new → Kept d old commands responses new
run_kept d old [] [] new partial e =
    record {
      first = λ p. ap (λ h. map.get h.received p) e ∙ or_none _;
      partial = subst (λ h. IsPartial (blocks d) h.received h.board) (sym e) partial;
    }
run_kept d old (command ∷ commands) (response ∷ responses) new partial r =
    let g = goes d old command response r.0 r.1 in
    let rest = run_kept d r.0 commands responses new (partial_next d old command response r.0 partial r.1) r.2 in
    record {
      first = λ p. rest.first p ∙ ap (λ o. option_or o (first_received d p commands responses)) (g.first p) ∙ or_assoc (map.get old.received p) _ _;
      partial = rest.partial;
    }
run_kept d old [] (response ∷ responses) new partial r = absurd r
run_kept d old (command ∷ commands) [] new partial r = absurd r

-- a response settles, if there is one
abbrev pub Settles : Option Response → Type 0
Settles response = option_map_or is_settled response false ≡ true

-- where the last response settles, or else one before, nothing is ready
pub settled_after : (o : Option Response) (d : Door) (old : HubState) (commands : List Command) (responses : List Response) (new : HubState) → (Settles o → NothingReady old.received old.board) → Run d old commands responses new
    → Settles (last_or o responses) → NothingReady new.received new.board
settled_after o d old [] [] new was e y = subst (λ h. NothingReady h.received h.board) (sym e) (was y)
settled_after o d old (command ∷ commands) (response ∷ responses) new was r y =
    settled_after (Some response) d r.0 commands responses new (goes d old command response r.0 r.1).settled r.2 y
settled_after o d old [] (response ∷ responses) new was r y = absurd r
settled_after o d old (command ∷ commands) [] new was r y = absurd r

pub every_run_from_holds : EveryRunFrom
every_run_from_holds d old hub commands responses partial r =
    let k = run_kept d old commands responses hub partial r in
    record {
      first = k.first;
      partial = k.partial;
      settled = λ y. any_order_holds (blocks d) hub.received hub.board k.partial (settled_after None d old commands responses hub (λ no. absurd (true≢false (sym no))) r y);
    }

-- what began with nothing
pub nothing_partial : (d : Door) → IsPartial (blocks d) new_hub.received new_hub.board
nothing_partial d = follows_itself (blocks d) map.empty empty_board empty_board refl

pub abides_after : (d : Door) (old : HubState) (commands : List Command) (responses : List Response) (hub : HubState) → old ≡ new_hub → AbidesFrom d old commands responses hub
    → Abides d commands responses hub
abides_after d old commands responses hub e k =
    record {
      first = λ p. k.first p ∙ ap (λ o. option_or o (first_received d p commands responses)) (ap (λ (h : HubState). map.get h.received p) e ∙ map.get-empty pair_cmp p);
      partial = k.partial;
      settled = k.settled;
    }

pub every_run_holds : EveryRun
every_run_holds d commands responses hub r =
    abides_after d new_hub commands responses hub refl (every_run_from_holds d new_hub hub commands responses (nothing_partial d) r)

-- ---- one step more

leads_below : (G : Owners) (F : Received) (B : Board) (order : List ℕ) (C : Board) → Leads G F B order C → (c : ℕ) → IsPrefixOf (B c) (C c)
leads_below G F B [] C e c = subst (λ X. IsPrefixOf (B c) (X c)) (sym e) (prefix_refl (B c))
leads_below G F B (d ∷ order) C l c =
    prefix_trans (B c) (judge_one G F B d c) (C c) (moved_below G F B (judge_one G F B d) (judge_one_moved G F B d l.0) c) (leads_below G F (judge_one G F B d) order C l.1 c)

pub follows_below : (G : Owners) (F : Received) (B C : Board) → Follows G F B C → (c : ℕ) → IsPrefixOf (B c) (C c)
follows_below G F B C f = leads_below G F B f.order C f.leads

pub judgements_stay_holds : JudgementsStay
judgements_stay_holds d old new command response s c =
    let g = goes d old command response new s in
    follows_below (blocks d) new.received old.board new.board g.board c

pub same_state : (one other : HubState) → other.received ≡ one.received → other.board ≡ one.board → other ≡ one
same_state one other e f = λ i. record { received = e i; board = f i }

stands_after : (d : Door) (hub : HubState) → SettledRun d hub → hub.board ≡ standing (blocks d) hub.received
stands_after d hub s = (every_run_from_holds d s.old hub s.commands s.responses s.partial s.run).settled s.settles

pub equal_received_holds : EqualReceived
equal_received_holds d one other x y e = same_state one other e (stands_after d other y ∙ ap (standing (blocks d)) e ∙ sym (stands_after d one x))

pub every_repeat_holds : EveryRepeat
every_repeat_holds d old new c volume bytes told partial closed s =
    let on = follows_on (blocks d) old.received empty_board old.board new.board partial s.settled.follows in
    let was = any_order_holds (blocks d) old.received old.board partial closed in
    let now = any_order_holds (blocks d) old.received new.board on s.settled.settled in
    record {
      same = same_state old new s.received (now ∙ sym was);
      outcome_is = sym ((λ i. outcome (s.received i) (now i) c volume)) ∙ s.answer;
    }
