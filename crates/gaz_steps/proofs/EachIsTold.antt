-- Each received file has an outcome, and nothing is told of nothing alone.
use Rattle.std.proofs.Common.{◌≡◌, ◌≤◌, ℕ, true, false, true≢false, cond, not, refl, sym, ap, ◌∙◌, subst, arith, leb-true}
use Rattle.std.proofs.lemmas.Bool.{and_parts}
use Rattle.std.specs.Prelude.{nat_le, Bool, IsSome, Option, Some, None, is_some}
use Rattle.std.specs.Option.{option_and_then, option_map, option_map_or}
use Rattle.std.specs.FinMap as map
use Rattle.sha2.specs.Sha256.{sha256}
use Rattle.gaz_keeper.specs.Board.{Board, verdict_on}
use Rattle.gaz_keeper.specs.Received.{Received}
use Rattle.gaz_register.specs.Registers.{knows}
use Rattle.gaz_steps.specs.Laws.{EachIsTold, HasOutcome, NothingOfNothing}
use Rattle.gaz_steps.specs.Outcomes.{outcome, outcome_of, wants}
use Rattle.gaz_steps.specs.Standing.{NothingReady}
use Rattle.gaz_steps.specs.Step.{is_volume}
use Rattle.gaz_steps.specs.declared.outcome.Outcome.TheVariants.{Held}
use Rattle.gaz_steps.specs.declared.refusal.DoorRefusal.{DoorRefusal}
use Rattle.gaz_steps.specs.declared.refusal.DoorRefusal.TheVariants as at_door
use Rattle.gaz_steps.proofs.Waits.{not_reached, waits, was_none}

-- ---- each has an outcome

outcome_there : (F : Received) (B : Board) (c volume : ℕ) → NothingReady F B → 1 ≤ volume → volume ≤ 999999 → IsSome (outcome F B c volume)
outcome_there F B c volume closed one most =
    elim (verdict_on B c volume)
    as (λ o. o ≡ verdict_on B c volume → is_some (option_map_or (λ v. Some (outcome_of v)) o (option_map (λ w. Held w.0 w.1) (wants F B c))) ≡ true) [
      | Some v ↦ λ _. refl
      | None ↦ λ e.
          let (w, is) = waits F B c closed (omega (arith, not_reached B c volume one e, most)) in
          ap (λ o. is_some (option_map (λ (v : ℕ × ℕ). Held v.0 v.1) o)) is
    ] refl

has_outcome : HasOutcome
has_outcome F B c volume closed e there =
    let (one, most) = and_parts (nat_le 1 volume) (nat_le volume 999999) e in
    outcome_there F B c volume closed (leb-true _ _ one) (leb-true _ _ most)

-- ---- nothing is told of nothing

-- what the door lets in is a volume
volume_in : (known volume : Bool) (o : Option DoorRefusal) → cond (not known) (Some at_door.UnknownCustodian) (cond (not volume) (Some at_door.BadVolume) o) ≡ None → volume ≡ true
volume_in known true o e = refl
volume_in true false o e = cc
volume_in false false o e = cc

none_there : {X Y Z : Type 0} (o : Option X) (p : Option Y) (f : X → Y → Z) → (IsSome o → IsSome p) → None ≡ option_and_then (λ x. option_map (f x) p) o → o ≡ None
none_there None p f h e = refl
none_there (Some x) p f h e = absurd (true≢false (sym (h refl) ∙ ap is_some (was_none (f x) p e)))

nothing_of_nothing : NothingOfNothing
nothing_of_nothing d old new c volume step =
    let w = step.1 in
    none_there (map.get new.received (c, volume)) (outcome new.received new.board c volume) (λ bytes o. (sha256 bytes, o))
    (has_outcome new.received new.board c volume (subst (λ F. NothingReady F new.board) (sym w.received) w.settled.settled) (volume_in (knows d.register c) (is_volume volume) _ w.let_in))
    w.answer

pub each_is_told_holds : EachIsTold
each_is_told_holds = record { on_a_board = has_outcome; when_asked = nothing_of_nothing }
