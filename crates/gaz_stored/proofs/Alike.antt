-- Of whom files were received and judged, on a partial board.
use Rattle.std.proofs.Common.{◌≡◌, ◌∙◌, ◌≤◌, ◌<◌, ◌+◌, ◌-◌, inl, inr, ℕ, zero, suc, Bool, true, false, true≢false, cond, eqb, [], ◌∷◌, refl, sym, ap, arith, is_some, eqb-true, Some}
use Rattle.std.specs.List.{find}
use Rattle.std.specs.FinMap as finite
use Rattle.sqlite_rules.specs.Lists.{Has}
use Rattle.gaz_register.specs.Registers.{CustodianValue, Owners, RegisterValue, knows}
use Rattle.gaz_keeper.specs.Board.{Board, empty_board, reached}
use Rattle.gaz_keeper.specs.Keeper.{Seen}
use Rattle.gaz_keeper.specs.Received.{Received}
use Rattle.gaz_steps.specs.Hubs.{AreKnown, door_of}
use Rattle.gaz_steps.specs.Standing.{IsPartial}
use Rattle.gaz_steps.specs.Step.{Door, blocks}
use Rattle.gaz_steps.proofs.Orders.{empty_lawful, leads_lawful}
use Rattle.gaz_loaded.specs.Loading.{IsOfThese}
use Rattle.gaz_stored.specs.Filling.{CanBeMirrored, codes_of}

-- a volume that is judged was received
judged_came : (G : Owners) (F : Received) (B : Board) (c volume : ℕ) → IsPartial G F B → 1 ≤ volume → volume ≤ reached B c → is_some (finite.get F (c, volume)) ≡ true
judged_came G F B c volume partial low high =
    let lawful = leads_lawful G F empty_board partial.order B partial.leads (empty_lawful G F) in
    let below : volume - 1 < reached B c = omega arith in
    let entry = lawful.each c (volume - 1) below in
    let same : volume - 1 + 1 ≡ volume = omega arith in
    ap (λ v. is_some (finite.get F (c, v))) (sym same) ∙ ap is_some entry.came

-- nobody whom the door doesn't know has a judged volume
none_judged : (d : Door) (F : Received) (B : Board) (c : ℕ) → AreKnown d F → IsPartial (blocks d) F B → knows d.register c ≡ false → reached B c ≡ 0
none_judged d F B c known partial unknown = by_height (reached B c) refl
  where
    by_height : (n : ℕ) → reached B c ≡ n → reached B c ≡ 0
    by_height zero e = e
    by_height (suc n) e =
        let there = judged_came (blocks d) F B c 1 partial (omega arith) (omega (arith, e)) in
        absurd (true≢false (sym (known (c, 1) there) ∙ unknown))

-- a custodian that a register knows is among its custodians
known_there : (register : RegisterValue) (c : ℕ) → knows register c ≡ true → Has (codes_of register) c
known_there [] c known = absurd (true≢false (sym known))
known_there (x ∷ register) c known = by_first (eqb x.code c) refl (known_there register c) known
  where
    by_first : (b : Bool) → eqb x.code c ≡ b → (knows register c ≡ true → Has (codes_of register) c) → is_some (cond b (Some x) (find (λ (y : CustodianValue). eqb y.code c) register)) ≡ true → Has (codes_of (x ∷ register)) c
    by_first true is later is_there = inl (sym (eqb-true x.code c is))
    by_first false is later is_there = inr (later is_there)

-- what is kept of a partial run is of a register's custodians
pub of_these : (register : RegisterValue) (s : Seen) → CanBeMirrored (door_of register) s → IsOfThese (codes_of register) s.content
of_these register s can = record {
  known = λ c v there. known_there register c (can.run.1.known (c, v) there);
  volumes = λ c v there. can.volumes (c, v) there;
  judged = λ c gone. by_known c gone (knows register c) refl;
}
  where
    by_known : (c : ℕ) → ¬ Has (codes_of register) c → (b : Bool) → knows register c ≡ b → reached s.content.board c ≡ 0
    by_known c gone true known = absurd (gone (known_there register c known))
    by_known c gone false unknown = none_judged (door_of register) s.content.files s.content.board c can.run.1.known can.run.1.partial unknown
