-- What stays of a hub where its register grows.
use Rattle.std.proofs.Common.{◌≡◌, ◌+◌, ℕ, true, false, true≢false, cond, List, [], ◌∷◌, ◌++◌, eqb, eqb-true, refl, sym, ap, ◌∙◌, subst}
use Rattle.std.proofs.Math.Path.{fun_ext}
use Rattle.std.specs.Prelude.{is_some, Option, Some, None}
use Rattle.std.specs.FinMap as map
use Rattle.std.specs.List.{last_or}
use Rattle.std.specs.Option.{option_map_or, option_or}
use Rattle.gaz_register.specs.Growing.{Extends}
use Rattle.gaz_register.specs.Registers.{Blocks, Owners, RegisterValue, blocks_of}
use Rattle.gaz_rules.specs.Judging.{judged_on}
use Rattle.gaz_chains.specs.Chains.{IsPrefixOf}
use Rattle.gaz_keeper.specs.Board.{Board, empty_board, reached}
use Rattle.gaz_keeper.specs.Keeper.{Seen}
use Rattle.gaz_keeper.specs.Received.{Received}
use Rattle.gaz_steps.specs.Growth.{AllReadOffGrown, EqualGrown, EveryGrownRun, GrowthKeeps, GrowthStands, GrownRun, Period, PeriodsAreOneRun, SettledGrownRun, asked_in, first_ever, last_register, said_in}
use Rattle.gaz_steps.specs.Hubs.{AreKnown, door_of}
use Rattle.gaz_steps.specs.Runs.{Run, first_received}
use Rattle.gaz_steps.specs.Standing.{IsPartial, Leads, NothingReady, judge_one, next_reading, ready, standing, with_next}
use Rattle.gaz_steps.specs.Step.{HubState, Response}
use Rattle.gaz_steps.proofs.Answers.{every_answer_holds}
use Rattle.gaz_steps.proofs.Finding.{run_known}
use Rattle.gaz_steps.proofs.Leading.{standing_is_settled}
use Rattle.gaz_steps.proofs.Orders.{any_order_holds, more_files_hold, ready_gives}
use Rattle.gaz_steps.proofs.Runs.{Settles, every_run_from_holds, run_then, same_state, settled_after}

-- ---- one judgement after another

-- a custodian with the same blocks is judged the same
same_one : (G H : Owners) (F : Received) (B : Board) (c : ℕ) → H c ≡ G c → judge_one H F B c ≡ judge_one G F B c
same_one G H F B c same =
    fun_ext (λ d. elim (eqb d c) as (λ b. eqb d c ≡ b → cond b (with_next H F B d) (B d) ≡ cond b (with_next G F B d) (B d)) [
      | true ↦ λ t.
          let own : H d ≡ G d = subst (λ k. H k ≡ G k) (sym (eqb-true d c t)) same in
          ap (λ (o : Blocks). option_map_or (λ r. B d ++ judged_on o B d r ∷ []) (next_reading F B d) (B d)) own
      | false ↦ λ _. refl
    ] refl)

-- where each that is ready has the same blocks
leads_same : (G H : Owners) (F : Received) → ((B : Board) (c : ℕ) → ready F B c ≡ true → H c ≡ G c) → (B : Board) (order : List ℕ) (C : Board) → Leads G F B order C → Leads H F B order C
leads_same G H F same B [] C e = e
leads_same G H F same B (c ∷ order) C l =
    let one = same_one G H F B c (same B c l.0) in
    (l.0, subst (λ X. Leads H F X order C) (sym one) (leads_same G H F same (judge_one G F B c) order C l.1))

module _ (old grown : RegisterValue) (F : Received) (more : Extends old grown) (known : AreKnown (door_of old) F) where
  -- who is ready sent a file, and so is known
  same_blocks : (B : Board) (c : ℕ) → ready F B c ≡ true → blocks_of grown c ≡ blocks_of old c
  same_blocks B c is_ready = more.blocks c (known (c, reached B c + 1) (ap is_some (ready_gives F B c is_ready).came))

  pub known_grown : AreKnown (door_of grown) F
  known_grown p there = more.custodians p.0 (known p there)

  pub partial_grown : (B : Board) → IsPartial (blocks_of old) F B → IsPartial (blocks_of grown) F B
  partial_grown B partial = record { order = partial.order; leads = leads_same (blocks_of old) (blocks_of grown) F same_blocks empty_board partial.order B partial.leads }

  pub standing_grown : standing (blocks_of grown) F ≡ standing (blocks_of old) F
  standing_grown =
      let is = standing_is_settled (blocks_of old) F in
      sym (any_order_holds (blocks_of grown) F (standing (blocks_of old) F) (partial_grown (standing (blocks_of old) F) is.partial) is.settled)

pub growth_keeps_holds : GrowthKeeps
growth_keeps_holds = record {
  known = λ old grown F more known. known_grown old grown F more known;
  partial = λ old grown F B more known partial. partial_grown old grown F more known B partial;
  standing = λ old grown F more known. standing_grown old grown F more known;
  more = λ old grown F bigger more known all c.
      subst (λ B. IsPrefixOf (B c) (standing (blocks_of grown) bigger c)) (standing_grown old grown F more known) (more_files_hold (blocks_of grown) F bigger all c);
}

pub growth_stands_holds : {K : Type 0} (seen : K → Seen) → GrowthStands seen
growth_stands_holds seen old grown k more run =
    let F = (seen k).content.files in
    let B = (seen k).content.board in
    let known = run.1.known in
    (run.0, record { known = known_grown old grown F more known; partial = partial_grown old grown F more known B run.1.partial })

-- ---- one period after another

or_apart : {X : Type 0} (a b c : Option X) → option_or (option_or a b) c ≡ option_or a (option_or b c)
or_apart None b c = refl
or_apart (Some x) b c = refl

or_none : {X : Type 0} (a : Option X) → a ≡ option_or a None
or_none None = refl
or_none (Some x) = refl

last_of_both : {X : Type 0} (o : Option X) (xs ys : List X) → last_or o (xs ++ ys) ≡ last_or (last_or o xs) ys
last_of_both o [] ys = refl
last_of_both o (x ∷ xs) ys = last_of_both (Some x) xs ys

settled_after_all : (o : Option Response) (register : RegisterValue) (old new : HubState) (periods : List Period) → (Settles o → NothingReady old.received old.board) → GrownRun register old periods new
    → Settles (last_or o (said_in periods)) → NothingReady new.received new.board
settled_after_all o register old new [] was e y = subst (λ (h : HubState). NothingReady h.received h.board) (sym e) (was y)
settled_after_all o register old new (period ∷ periods) was r y =
    settled_after_all (last_or o period.responses) period.register r.0 new periods
    (settled_after o (door_of period.register) old period.commands period.responses r.0 was r.2) r.3
    (subst Settles (last_of_both o period.responses (said_in periods)) y)

-- what is kept of a run over periods, but for what the last response settles
record Kept (register : RegisterValue) (old : HubState) (periods : List Period) (new : HubState) : Type 0 where
  first : (p : ℕ × ℕ) → map.get new.received p ≡ option_or (map.get old.received p) (first_ever p periods)
  known : AreKnown (door_of (last_register register periods)) new.received
  partial : IsPartial (blocks_of (last_register register periods)) new.received new.board
  answers : AllReadOffGrown old.received periods

all_kept : (register : RegisterValue) (old new : HubState) (periods : List Period) → AreKnown (door_of register) old.received → IsPartial (blocks_of register) old.received old.board → GrownRun register old periods new
    → Kept register old periods new
all_kept register old new [] known partial e = record {
  first = λ p. ap (λ (h : HubState). map.get h.received p) e ∙ or_none (map.get old.received p);
  known = subst (λ (h : HubState). AreKnown (door_of register) h.received) (sym e) known;
  partial = subst (λ (h : HubState). IsPartial (blocks_of register) h.received h.board) (sym e) partial;
  answers = tt;
}
all_kept register old new (period ∷ periods) known partial r =
    let here = period.register in
    let d = door_of here in
    let mid = r.0 in
    let run = r.2 in
    let now = partial_grown register here old.received r.1 known old.board partial in
    let abides = every_run_from_holds d old mid period.commands period.responses now run in
    let still = run_known d old mid period.commands period.responses run (known_grown register here old.received r.1 known) in
    let answered = every_answer_holds d old mid period.commands period.responses now run in
    let later = all_kept here mid new periods still abides.partial r.3 in
    record {
      first = λ p.
          later.first p ∙ ap (λ o. option_or o (first_ever p periods)) (abides.first p)
          ∙ or_apart (map.get old.received p) (first_received d p period.commands period.responses) (first_ever p periods);
      known = later.known;
      partial = later.partial;
      answers = (answered.read_off, subst (λ files. AllReadOffGrown files periods) answered.received later.answers);
    }

pub every_grown_run_holds : EveryGrownRun
every_grown_run_holds register old new periods known partial r =
    let k = all_kept register old new periods known partial r in
    record {
      first = k.first;
      known = k.known;
      partial = k.partial;
      settled = λ y. any_order_holds (blocks_of (last_register register periods)) new.received new.board k.partial (settled_after_all None register old new periods (λ no. absurd (true≢false (sym no))) r y);
      answers = k.answers;
    }

stands_after : (last : RegisterValue) (hub : HubState) → SettledGrownRun last hub → hub.board ≡ standing (blocks_of last) hub.received
stands_after last hub s =
    subst (λ x. hub.board ≡ standing (blocks_of x) hub.received) s.last_is ((every_grown_run_holds s.register s.old hub s.periods s.known s.partial s.run).settled s.settles)

pub equal_grown_holds : EqualGrown
equal_grown_holds last one other x y e = same_state one other e (stands_after last other y ∙ ap (standing (blocks_of last)) e ∙ sym (stands_after last one x))

-- ---- periods under one register

pub periods_are_one_run_holds : PeriodsAreOneRun
periods_are_one_run_holds register before old new [] under e = e
periods_are_one_run_holds register before old new (period ∷ periods) under r =
    let here : Run (door_of register) old period.commands period.responses r.0 =
    subst (λ x. Run (door_of x) old period.commands period.responses r.0) under.0 r.2 in
    run_then (door_of register) old r.0 new period.commands (asked_in periods) period.responses (said_in periods) here
    (periods_are_one_run_holds register period.register r.0 new periods under.1 r.3)
