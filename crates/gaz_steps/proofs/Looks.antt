-- What two looks after each other tell.
use Rattle.std.proofs.Common.{◌≡◌, ◌≤◌, ◌<◌, ◌+◌, ℕ, false, cond, ◌&&◌, refl, sym, subst, arith, le-leb}
use Rattle.std.specs.Prelude.{Some, None, Result, Ok, Err, IfErr}
use Rattle.std.specs.Option.{option_map, option_map_or}
use Rattle.gaz_changefile.specs.Reading.{Reading}
use Rattle.gaz_keeper.specs.Board.{Board, reached}
use Rattle.gaz_keeper.specs.Keeper.{Counts, IsLeft, IsNotOpen, Progress, Idle, Open, Broken, Seen}
use Rattle.gaz_keeper.specs.Received.{Received}
use Rattle.gaz_keeper.specs.declared.fault.ShelfFault.{ShelfFault}
use Rattle.gaz_keeper.specs.declared.fault.ShelfFault.TheVariants.{Store}
use Rattle.gaz_keeper.proofs.Keeping.{keeps_itself, keeps_then}
use Rattle.gaz_end_rules.specs.Bases.{are_reached}
use Rattle.gaz_rules.specs.Judging.{bases_of}
use Rattle.gaz_extract.specs.Readings.{Looks}
use Rattle.gaz_extract.proofs.Readings.{if_ok}
use Rattle.gaz_steps.specs.Outcomes.{first_unreached, wants, wants_as}
use Rattle.gaz_steps.specs.Standing.{next_reading, ready}

pub left_not_open : (p q : Progress) → IsLeft p q → IsNotOpen p → IsNotOpen q
left_not_open Idle q e h = subst IsNotOpen (sym e) h
left_not_open (Open c) q e h = absurd (h c refl)
left_not_open Broken q e h = e

-- an answer without a call
pub looks_nowhere : {T : Type 0} (a : Seen) (x : T) (P : T → Type 0) → P x → Looks a a (Ok x) P
looks_nowhere a x P h = record { keeps = keeps_itself a; right = λ _ _. h; counts = record { kept = omega arith; store = tt; trust = λ t. t } }

-- the same of a keeper that is as it was
pub looks_still : {T : Type 0} (a b : Seen) (r : Result T ShelfFault) (x : T) (P : T → Type 0) → b ≡ a → r ≡ Ok x → P x → Looks a b r P
looks_still a b r x P still is h = rw (still, is) (looks_nowhere a x P h)

if_err : {T : Type 0} (r : Result T ShelfFault) (m n k : ℕ) → m ≤ n → IfErr r (λ e. e ≡ Store → n < k) → IfErr r (λ e. e ≡ Store → m < k)
if_err (Ok x) m n k h g = tt
if_err (Err e) m n k h g = λ is. let more = g is in omega arith

pub counts_then : {T : Type 0} (a b c : Seen) (r : Result T ShelfFault) → a.failures ≤ b.failures → (b.trusted → a.trusted) → Counts b c r → Counts a c r
counts_then a b c r h trust g = record { kept = let more = g.kept in omega arith; store = if_err r a.failures b.failures c.failures h g.store; trust = λ t. trust (g.trust t) }

-- a look after one that went well
pub looks_then : {T U : Type 0} (a b c : Seen) (x : T) (r : Result U ShelfFault) (P : T → Type 0) (Q R : U → Type 0)
    → Looks a b (Ok x) P → Looks b c r Q → (b.content ≡ a.content → P x → (u : U) → Q u → R u) → Looks a c r R
looks_then a b c x r P Q R first second both =
    record {
      keeps = keeps_then a b c first.keeps second.keeps;
      right = λ stood fine.
          let mid = second.keeps.harm fine in
          if_ok r Q R (both (first.keeps.content stood mid) (first.right stood mid)) (second.right (first.keeps.stands stood mid) fine);
      counts = counts_then a b c r first.counts.kept first.counts.trust second.counts;
    }

-- an answer that is made of what was read
pub looks_to : {T U : Type 0} (a b : Seen) (x : T) (y : U) (P : T → Type 0) (Q : U → Type 0) → Looks a b (Ok x) P → (P x → Q y) → Looks a b (Ok y) Q
looks_to a b x y P Q l f = record { keeps = l.keeps; right = λ stood fine. f (l.right stood fine); counts = record { kept = l.counts.kept; store = tt; trust = l.counts.trust } }

-- ---- the next volume

-- a file in the range that was received and reads so
pub record IsFile (F : Received) (B : Board) (c : ℕ) (r : Reading) : Type 0 where
  pub in_range : reached B c + 1 ≤ 999999
  pub reads : next_reading F B c ≡ Some r

pub ready_as : (F : Received) (B : Board) (c : ℕ) (r : Reading) → IsFile F B c r → ready F B c ≡ are_reached B (bases_of r)
ready_as F B c r is =
    λ i. le-leb (reached B c + 1) 999999 is.in_range i && option_map_or (λ x. are_reached B (bases_of x)) (is.reads i) false

pub wants_for : (F : Received) (B : Board) (c : ℕ) (r : Reading) → IsFile F B c r → wants F B c ≡ option_map (λ d. (d.custodian, d.volume)) (first_unreached B (bases_of r))
wants_for F B c r is =
    λ i. cond (le-leb (reached B c + 1) 999999 is.in_range i) (wants_as B c (is.reads i)) None
