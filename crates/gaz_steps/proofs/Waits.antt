-- What the next volume waits for, where nothing is ready.
use Rattle.std.proofs.Common.{◌≡◌, ◌≤◌, ◌+◌, ℕ, zero, suc, true, false, cond, not, ◌&&◌, List, [], ◌∷◌, length, refl, sym, ap, ◌∙◌, arith, le-leb}
use Rattle.std.specs.Prelude.{nat_le, slice_get, Option, Some, None}
use Rattle.std.specs.Option.{option_map}
use Rattle.std.specs.FinMap as map
use Rattle.gaz_changefile.specs.Reading.{reading}
use Rattle.gaz_changefile.specs.declared.change.Basis.{Basis}
use Rattle.gaz_keeper.specs.Board.{Board, Judgement, reached, verdict_on}
use Rattle.gaz_keeper.specs.Received.{Received}
use Rattle.gaz_end_rules.specs.Bases.{are_reached}
use Rattle.gaz_steps.specs.Outcomes.{first_unreached, wants, wants_as}
use Rattle.gaz_steps.specs.Standing.{NothingReady}
use Rattle.gaz_steps.proofs.Looks.{IsFile, ready_as, wants_for}

pub was_none : {X Y : Type 0} (f : X → Y) (o : Option X) → None ≡ option_map f o → o ≡ None
was_none f None e = refl
was_none f (Some x) e = cc

at_most_there : {X : Type 0} (xs : List X) (n : ℕ) → slice_get xs n ≡ None → length xs ≤ n
at_most_there [] n e = omega arith
at_most_there (x ∷ xs) zero e = cc
at_most_there (x ∷ xs) (suc n) e = let h = at_most_there xs n e in omega arith

-- a volume without a verdict isn't reached
pub not_reached : (B : Board) (c volume : ℕ) → 1 ≤ volume → None ≡ verdict_on B c volume → reached B c + 1 ≤ volume
not_reached B c zero one e = absurd (omega arith)
not_reached B c (suc n) one e = let h = at_most_there (B c) n (was_none (λ (j : Judgement). j.verdict) (slice_get (B c) n) e) in omega arith

-- where nothing is ready, the next volume waits for something
some_unreached : (B : Board) (bases : List Basis) → are_reached B bases ≡ false → (x : Basis) × (first_unreached B bases ≡ Some x)
some_unreached B [] e = cc
some_unreached B (d ∷ bases) e =
    elim (nat_le d.volume (reached B d.custodian))
    as (λ b. (b && are_reached B bases) ≡ false → (x : Basis) × (cond (not b) (Some d) (first_unreached B bases) ≡ Some x)) [
      | true ↦ λ t. some_unreached B bases t
      | false ↦ λ t. (d, refl)
    ] e

pub waits : (F : Received) (B : Board) (c : ℕ) → NothingReady F B → reached B c + 1 ≤ 999999 → (w : ℕ × ℕ) × (wants F B c ≡ Some w)
waits F B c closed within =
    elim (map.get F (c, reached B c + 1)) as (λ o. map.get F (c, reached B c + 1) ≡ o → (w : ℕ × ℕ) × (wants F B c ≡ Some w)) [
      | None ↦ λ e. ((c, reached B c + 1), missing e)
      | Some bytes ↦ λ e.
          let file : IsFile F B c (reading bytes c (reached B c + 1)) = record { in_range = within; reads = ap (option_map (λ b. reading b c (reached B c + 1))) e } in
          let un = some_unreached B _ (sym (ready_as F B c _ file) ∙ closed c) in
          ((un.0.custodian, un.0.volume), wants_for F B c _ file ∙ ap (option_map (λ (x : Basis). (x.custodian, x.volume))) un.1)
    ] refl
  where
    missing : map.get F (c, reached B c + 1) ≡ None → wants F B c ≡ Some (c, reached B c + 1)
    missing e = λ i. cond (le-leb (reached B c + 1) 999999 within i)
        (wants_as B c (option_map (λ b. reading b c (reached B c + 1)) (e i))) None
