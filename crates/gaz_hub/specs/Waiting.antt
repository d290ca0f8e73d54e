-- When what a hub remembers of who waits for which volume is right.
use Rattle.std.specs.Prelude.{◌≡◌, ⊤, ℕ, true, false, List, [], ◌++◌, Option, Some, None}
use Rattle.gaz_register.specs.Registers.{RegisterValue, knows}
use Rattle.gaz_keeper.specs.Board.{Board}
use Rattle.gaz_keeper.specs.Keeper.{Content, Seen}
use Rattle.gaz_keeper.specs.Received.{Received}
use Rattle.gaz_waiters.specs.Remembered.{Remembered, is_among, waiting_for, wanted_by}
use Rattle.gaz_steps.specs.Hubs.{StandsFor}
use Rattle.gaz_steps.specs.Outcomes.{wants}
use Rattle.gaz_steps.specs.Standing.{ready}
use Rattle.gaz_steps.specs.Step.{Door}

-- a custodian's next volume isn't ready, it is among those who wait for what it waits for, and that
-- is what is remembered of it
pub record Rests (m : Remembered) (files : Received) (board : Board) (c : ℕ) : Type 0 where
  pub unready : ready files board c ≡ false
  pub waits : (p : ℕ × ℕ) → wants files board c ≡ Some p → is_among (waiting_for m p) c ≡ true
  pub wanted : wanted_by m c ≡ wants files board c

-- each custodian of the register that is neither to be looked at nor among these others rests
abbrev pub RestBut : List ℕ → RegisterValue → Remembered → Content → Type 0
RestBut others register m k =
    (c : ℕ) → knows register c ≡ true → is_among m.ahead c ≡ false → is_among others c ≡ false
    → Rests m k.files k.board c

-- what is remembered is right of what is kept; where nothing is, everyone is to be looked at
abbrev pub IsRight : RegisterValue → Option Remembered → Content → Type 0
IsRight register None k = ⊤
IsRight register (Some m) k = RestBut [] register m k

-- what is known of it is so
abbrev pub IsSo : Received → Board → ℕ → Option (ℕ × ℕ) → Type 0
IsSo files board c known = (p : ℕ × ℕ) → known ≡ Some p → wants files board c ≡ Some p

-- who rested, but for these, rests afterwards too, also with others left out
abbrev pub RestAfter : List ℕ → Door → Remembered → Seen → Remembered → Seen → Type 0
RestAfter these door before old after new =
    StandsFor door old → new.unharmed → (others : List ℕ)
    → RestBut (these ++ others) door.register before old.content
    → RestBut others door.register after new.content

-- ---- a hub as it is seen

-- a keeper with what is remembered of it: it stands for a content where the keeper does and what is
-- remembered is right
abbrev pub remembering : RegisterValue → Option Remembered → Seen → Seen
remembering register waiters s = record {
  content = s.content;
  stands = s.stands × IsRight register waiters s.content;
  lawful = λ stood. s.lawful stood.0;
  trusted = s.trusted;
  unharmed = s.unharmed;
  progress = s.progress;
  failures = s.failures;
  is_full = s.is_full;
  full = s.full;
  leaves = s.leaves;
  whole = s.whole;
  left_lawful = s.left_lawful;
}
