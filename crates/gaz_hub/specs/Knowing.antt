-- A reading that is given what a custodian is known to wait for.
use Rattle.std.specs.Prelude.{◌≡◌, ℕ, Option, Result}
use denote.Ref.{MutBor}
use Rattle.std.specs.Fn.{Once}
use Rattle.gaz_keeper.specs.Keeper.{IsNotOpen, Seen}
use Rattle.gaz_keeper.specs.declared.fault.ShelfFault.{ShelfFault}
use Rattle.gaz_waiters.specs.Remembered.{Remembered, known_in}
use Rattle.gaz_hub.specs.Seen.{CallsKeeper}

-- a call of a keeper of type K, and of what is known, that tells a T
abbrev pub Reading : Type 0 → Type 0 → Type 0 → Type 1
Reading K T F =
    Once F (MutBor K × (Option (ℕ × ℕ) × Unit {0})) (Result T ShelfFault × (MutBor K × Unit {0}))

-- the call may be made on a keeper, with this known
abbrev pub TakesKnowing : {K T F : Type 0} → Reading K T F → F → K → Option (ℕ × ℕ) → Type 0
TakesKnowing {K} g read k known = (p : MutBor K) → p.now ≡ k → g.pre read (p, (known, tt))

-- the call may be made on each keeper in which no judgement is open, whatever is known
abbrev pub TakesIdleKnowing : {K T F : Type 0} → (K → Seen) → Reading K T F → F → Type 0
TakesIdleKnowing {K} seen g read =
    (mid : K) (known : Option (ℕ × ℕ)) → IsNotOpen (seen mid).progress
    → TakesKnowing g read mid known

-- on a keeper, with this known, the call may tell r and leave the keeper so
pub record ReturnsKnowing {K T F : Type 0} (g : Reading K T F) (read : F) (k : K)
    (known : Option (ℕ × ℕ)) (r : Result T ShelfFault) (after : K) : Type 0 where
  pub shown : MutBor K
  pub shows : shown.now ≡ k
  pub left : MutBor K
  pub met : g.post read (shown, (known, tt)) (r, (left, tt))
  pub leaves : left.now ≡ after

-- the reading of a keeper, with what is remembered of what a custodian waits for
abbrev pub CallsKnowing : {K T F : Type 0} → (K → Seen) → Reading K T F → F → ℕ
    → K × Option Remembered → Result T ShelfFault → K × Option Remembered → Type 0
CallsKnowing seen g read c old result new =
    CallsKeeper seen (λ mid told after. ReturnsKnowing g read mid (known_in old.1 c) told after)
    old result new
