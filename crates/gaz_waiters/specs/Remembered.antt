-- Whom a hub remembers to wait for which volume, and whose next volume it is to look at.
use Rattle.std.specs.Prelude.{ℕ, ◌==◌, not, Bool, if◌then◌else◌, List, [], ◌∷◌, ◌++◌, filter, map}
use Rattle.std.specs.Prelude.{Option, Some, None}
use Rattle.std.specs.List.{list_any}
use Rattle.std.specs.Option.{unwrap_or}
use Rattle.std.specs.FinMap as finmap
use Rattle.std.specs.Ordering.{nat_cmp}
use Rattle.gaz_register.specs.Registers.{RegisterValue}
use Rattle.gaz_keeper.specs.Received.{pair_cmp}

-- what a hub remembers: the custodians whose next volume is to be looked at, for each volume those
-- who wait for it, and for each custodian the volume that its next one waits for
pub record Remembered : Type 0 where
  pub ahead : List ℕ
  pub waiting : finmap.FinMap pair_cmp (List ℕ)
  pub wanted : finmap.FinMap nat_cmp (ℕ × ℕ)

abbrev pub is_among : List ℕ → ℕ → Bool
is_among codes c = list_any (λ x. x == c) codes

-- those who wait for a volume of a custodian
abbrev pub waiting_for : Remembered → ℕ × ℕ → List ℕ
waiting_for m p = unwrap_or (finmap.get m.waiting p) []

-- what a custodian's next volume is remembered to wait for
abbrev pub wanted_by : Remembered → ℕ → Option (ℕ × ℕ)
wanted_by m c = finmap.get m.wanted c

-- what is known of what a custodian waits for; nothing while it is to be looked at
abbrev pub known_in : Option Remembered → ℕ → Option (ℕ × ℕ)
known_in None c = None
known_in (Some m) c = if is_among m.ahead c then None else wanted_by m c

-- ---- what becomes of it

-- all custodians of a register are to be looked at, and nobody is known to wait
abbrev pub all_ahead : RegisterValue → Remembered
all_ahead register = record {
  ahead = map (λ k. k.code) register;
  waiting = finmap.empty;
  wanted = finmap.empty;
}

-- nobody is to be looked at any more
abbrev pub nobody_ahead : Remembered → Remembered
nobody_ahead m = record m { ahead = [] }

-- nobody waits for a volume any more
abbrev pub without_waiters : Remembered → ℕ × ℕ → Remembered
without_waiters m p = record m { waiting = finmap.remove m.waiting p }

-- a custodian waits for a volume
abbrev pub with_waiter : Remembered → ℕ × ℕ → ℕ → Remembered
with_waiter m p c = record m {
  waiting = finmap.insert m.waiting p (waiting_for m p ++ c ∷ []);
  wanted = finmap.insert m.wanted c p;
}

-- a custodian waits for nothing
abbrev pub with_nothing_wanted : Remembered → ℕ → Remembered
with_nothing_wanted m c = record m { wanted = finmap.remove m.wanted c }

-- a volume was judged: its custodian is to be looked at, and so are the others who waited for it
abbrev pub with_judged : Remembered → ℕ × ℕ → Remembered
with_judged m p = record m {
  ahead = m.ahead ++ p.0 ∷ filter (λ c. not (c == p.0)) (waiting_for m p);
  waiting = finmap.remove m.waiting p;
}

-- a file came: its custodian is to be looked at, where it waited for it
abbrev pub with_coming : Remembered → ℕ × ℕ → Remembered
with_coming m p =
    if is_among (waiting_for m p) p.0 then record m { ahead = m.ahead ++ p.0 ∷ [] } else m
