-- Whom the door lets in is known, and so are the files that were received.
use Rattle.std.proofs.Common.{◌≡◌, ℕ, Bool, true, false, cond, not, List, length, refl, sym, ap, ◌∙◌}
use Rattle.std.specs.Prelude.{Option, Some, None, is_some}
use Rattle.std.specs.FinMap as map
use Rattle.gaz_keeper.proofs.Pairs.{pairs_total}
use Rattle.gaz_keeper.specs.Received.{Received, with_file}
use Rattle.gaz_register.specs.Registers.{knows}
use Rattle.gaz_steps.specs.Hubs.{AreKnown}
use Rattle.gaz_steps.specs.Step.{Door, file_refusal, or_foreign, turned_away}
use Rattle.gaz_steps.specs.Runs.{same_pair}
use Rattle.gaz_steps.specs.declared.refusal.DoorRefusal.{DoorRefusal}
use Rattle.gaz_steps.specs.declared.refusal.DoorRefusal.TheVariants as at_door
use Rattle.gaz_steps.proofs.Steps.{pairs_same}

-- ---- the door

or_none : (foreign : Bool) (o : Option DoorRefusal) → or_foreign foreign o ≡ None → o ≡ None
or_none foreign None e = refl
or_none foreign (Some r) e = cc

-- a file that the door lets in passed its first steps
pub early_let_in : (d : Door) (c volume : ℕ) (bytes : List ℕ) → file_refusal d c volume bytes ≡ None → turned_away d c volume (length bytes) ≡ None
early_let_in d c volume bytes e = or_none (d.is_foreign bytes) (turned_away d c volume (length bytes)) e

pub known_at : (b : Bool) (o : Option DoorRefusal) → cond (not b) (Some at_door.UnknownCustodian) o ≡ None → b ≡ true
known_at true o e = refl
known_at false o e = cc

pub is_known : (d : Door) (c volume : ℕ) (bytes : List ℕ) → file_refusal d c volume bytes ≡ None → knows d.register c ≡ true
is_known d c volume bytes e = known_at (knows d.register c) _ (early_let_in d c volume bytes e)

-- ---- what is there

pub known_with : (d : Door) (F : Received) (c volume : ℕ) (bytes : List ℕ) → knows d.register c ≡ true → AreKnown d F → AreKnown d (with_file F c volume bytes)
known_with d F c volume bytes e known p h =
    elim (same_pair p (c, volume)) as (λ b. same_pair p (c, volume) ≡ b → is_some (cond b (Some bytes) (map.get F p)) ≡ true → knows d.register p.0 ≡ true) [
      | true ↦ λ t _. ap (λ (q : ℕ × ℕ). knows d.register q.0) (pairs_same p (c, volume) t) ∙ e
      | false ↦ λ _ there. known p there
    ] refl (ap is_some (sym (map.get-insert pairs_total F (c, volume) bytes p)) ∙ h)
