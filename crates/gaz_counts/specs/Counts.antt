-- What is at hand of custodians, and what becomes of it.
use Rattle.std.specs.Prelude.{◌≡◌, ◌≢◌, ◌+◌, ℕ, Option, Some, IfSome, option_map}
use Rattle.std.specs.BTreeMap.{get}
use Rattle.std.specs.Ordering.{nat_cmp}
use Rattle.gaz_counts.specs.declared.at_hand.AtHand.{AtHand}
use Rattle.gaz_counts.specs.declared.counts.Counts.{Counts}

-- what is at hand of a custodian
abbrev pub noted : Counts → ℕ → Option AtHand
noted counts c = get nat_cmp counts.by_code c

-- what is at hand of the other custodians, was
abbrev pub KeepsOthers : ℕ → Counts → Counts → Type 0
KeepsOthers c old new = (d : ℕ) → d ≢ c → IfSome (noted new d) (λ h. noted old d ≡ Some h)

-- what is at hand of a custodian, if anything, is this
pub record Notes (c : ℕ) (at_hand : AtHand) (old new : Counts) : Type 0 where
  pub own : IfSome (noted new c) (λ h. h ≡ at_hand)
  pub others : KeepsOthers c old new

-- one more file of a custodian waits; how many do may be forgotten
pub record OneMore (old new : AtHand) : Type 0 where
  pub reached : new.reached ≡ old.reached
  pub held : IfSome new.held (λ n. Some n ≡ option_map (λ m. m + 1) old.held)

-- one that waited is judged; how many wait may be forgotten
pub record OneJudged (old new : AtHand) : Type 0 where
  pub reached : new.reached ≡ old.reached + 1
  pub held : IfSome new.held (λ n. old.held ≡ Some (n + 1))

-- what is at hand of a custodian, if anything, came of what was
pub record Recounts (c : ℕ) (Becomes : AtHand → AtHand → Type 0) (old new : Counts) : Type 0 where
  pub own : IfSome (noted new c) (λ h. (was : AtHand) × (noted old c ≡ Some was) × Becomes was h)
  pub others : KeepsOthers c old new
