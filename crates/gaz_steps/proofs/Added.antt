-- The judgement that is added is the one that the board gets.
use Rattle.std.proofs.Common.{◌≡◌, ℕ, true, false, cond, eqb, eqb-true, [], ◌∷◌, ◌++◌, refl, sym, ap, subst}
use Rattle.std.proofs.Math.Path.{fun_ext}
use Rattle.std.specs.Prelude.{Some}
use Rattle.std.specs.Option.{option_map_or}
use Rattle.gaz_changefile.specs.Reading.{Reading}
use Rattle.gaz_register.specs.Registers.{Owners}
use Rattle.gaz_keeper.specs.Board.{Board, adds}
use Rattle.gaz_keeper.specs.Received.{Received}
use Rattle.gaz_rules.specs.Judging.{judged_on}
use Rattle.gaz_steps.specs.Standing.{judge_one, next_reading, with_next}

-- it is the judgement that the board gets
pub added_is : (G : Owners) (F : Received) (B : Board) (c : ℕ) (r : Reading) → next_reading F B c ≡ Some r → adds B c (judged_on (G c) B c r) ≡ judge_one G F B c
added_is G F B c r e =
    fun_ext (λ d. elim (eqb d c) as (λ b. eqb d c ≡ b → cond b (B d ++ judged_on (G c) B c r ∷ []) (B d) ≡ cond b (with_next G F B d) (B d)) [
      | true ↦ λ t.
          let is : d ≡ c = eqb-true d c t in
          subst (λ x. B x ++ judged_on (G c) B c r ∷ [] ≡ with_next G F B x) (sym is)
          (sym (ap (λ o. option_map_or (λ (x : Reading). B c ++ judged_on (G c) B c x ∷ []) o (B c)) e))
      | false ↦ λ _. refl
    ] refl)
