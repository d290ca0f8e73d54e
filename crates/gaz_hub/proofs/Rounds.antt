-- Rounds of judging, one after another, and how they end.
use Rattle.std.proofs.Common.{◌≡◌, ◌+◌, ◌*◌, ℕ, true, false, [], length, refl, sym, ap, ◌∙◌, arith}
use Rattle.std.specs.Prelude.{⊤, Option, Some, Ok, Err, is_some}
use Rattle.gaz_register.specs.Registers.{RegisterValue, knows}
use Rattle.gaz_keeper.specs.Board.{Board, reached}
use Rattle.gaz_keeper.specs.Keeper.{Content, Seen}
use Rattle.gaz_keeper.specs.Received.{Received}
use Rattle.gaz_keeper.specs.declared.fault.ShelfFault.{ShelfFault}
use Rattle.gaz_waiters.specs.Remembered.{Remembered, is_among}
use Rattle.gaz_steps.specs.Hubs.{AreKnown, door_of}
use Rattle.gaz_hub.specs.Settling.{Advances, Tells, Tries}
use Rattle.gaz_steps.specs.Standing.{NothingReady, ready}
use Rattle.gaz_steps.specs.Step.{Door, HubState}
use Rattle.gaz_steps.specs.Stops.{Stops}
use Rattle.gaz_hub.specs.Waiting.{RestAfter, remembering}
use Rattle.gaz_hub.proofs.Bounds.{all_then}
use Rattle.gaz_steps.proofs.Orders.{ready_gives}
use Rattle.gaz_hub.proofs.Advancing.{advances_less, advances_then}

-- with what is remembered of a keeper
pub stops_of_remembering : {P : HubState → Content → Type 0} {before after : HubState} (register : RegisterValue) (was : Option Remembered) (a c : Seen) → Stops a c before after P → Stops (remembering register was a) c before after P
stops_of_remembering register was a c s = record { ever = s.ever; now = s.now; whole = s.whole }

-- nothing is ready where no custodian of the register is
nothing_ready : (d : Door) (F : Received) (B : Board) → AreKnown d F → ((c : ℕ) → knows d.register c ≡ true → ready F B c ≡ false) → NothingReady F B
nothing_ready d F B known rest c =
    elim (ready F B c) as (λ b. ready F B c ≡ b → b ≡ false) [
      | true ↦ λ e. let is = ready_gives F B c e in sym e ∙ rest c (known (c, reached B c + 1) (ap is_some is.came))
      | false ↦ λ _. refl
    ] refl

-- a round that judged nothing, after which all rest, ends it
pub settled_now : (register : RegisterValue) (m left : ℕ) (w v : Remembered) (a b c : Seen) (P : ℕ → Type 0) → Advances (door_of register) m a b → Tries (door_of register) left b c (Ok 0) P
    → RestAfter [] (door_of register) w a v c → v.ahead ≡ [] → Tells {T = Unit {0}} (door_of register) (remembering register (Some w) a) c (Ok tt) (λ _. ⊤)
settled_now register m left w v a b c P first second rest nobody =
    let d = door_of register in
    let l = advances_less d _ 0 a c (omega arith) (advances_then d m 0 a b c first second.advances) in
    record {
      advances = record {
        harm = l.harm;
        stands = λ stood fine. l.stands (stood.0.0, stood.1) fine;
        files = λ stood fine. l.files (stood.0.0, stood.1) fine;
        board = λ stood fine. l.board (stood.0.0, stood.1) fine;
        many = λ stood fine. l.many (stood.0.0, stood.1) fine;
        idle = l.idle;
        kept = l.kept;
        trust = l.trust;
        stops = λ sound. stops_of_remembering register (Some w) a c (l.stops (λ fine. let stood = sound fine in (stood.0.0, stood.1)));
      };
      settled = λ stood fine.
          let now = l.stands (stood.0.0, stood.1) fine in
          let all = rest (stood.0.0, stood.1) fine [] stood.0.1 in
          nothing_ready d c.content.files c.content.board now.1.known (λ k known. (all k known (ap (λ xs. is_among xs k) nobody) refl).unready);
      right = λ stood fine. tt;
      cause = λ stood fine. tt;
    }

-- of as many judgements as a lawful content has, some were made and the others are left
pub settling_stopped : {T : Type 0} (reg : RegisterValue) (m left : ℕ) (a b c : Seen) (e : ShelfFault) (P : ℕ → Type 0) (Q : T → Type 0) → m + left ≡ 999999 * length reg
    → Advances (door_of reg) m a b → Tries (door_of reg) left b c (Err e) P → Tells (door_of reg) a c (Err e) Q
settling_stopped reg m left a b c e P Q sum first second =
    record {
      advances = advances_less (door_of reg) _ 0 a c (omega arith) (advances_then (door_of reg) m 0 a b c first second.advances);
      settled = λ stood fine. tt;
      right = λ stood fine. tt;
      cause = λ stood fine is.
          let mid = second.advances.harm fine in
          let left_then = all_then reg m (m + left) left a b refl first stood mid (omega (arith, sum)) in
          let more = second.cause (first.stands stood mid) fine left_then is in
          let kept = first.kept in
          omega arith;
    }
