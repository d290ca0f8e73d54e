-- What is told of a file, read off a board.
use Rattle.std.proofs.Common.{◌≡◌, ◌≤◌, ◌<◌, ℕ, sym, ap, ◌∙◌, subst, arith, inl, inr}
use Rattle.std.specs.Prelude.{Option, Some, None, Result, Ok, Err, IfErr, IfOk, OnOk}
use Rattle.std.specs.Option.{option_map, option_map_or}
use Rattle.gaz_keeper.specs.Board.{Board, verdict_on}
use Rattle.gaz_keeper.specs.Keeper.{Content, Reads, Seen}
use Rattle.gaz_keeper.specs.Received.{Received}
use Rattle.gaz_keeper.specs.declared.fault.ShelfFault.{ShelfFault}
use Rattle.gaz_keeper.specs.declared.fault.ShelfFault.TheVariants.{Store}
use Rattle.gaz_extract.specs.Readings.{Looks}
use Rattle.gaz_extract.proofs.Readings.{if_ok}
use Rattle.gaz_hub.specs.Asked.{IsHeld, IsOutcome}
use Rattle.gaz_steps.specs.Outcomes.{outcome_of, wants}
use Rattle.gaz_hub.specs.Settling.{SettlesAndCalls, Tells}
use Rattle.gaz_steps.specs.Standing.{NothingReady}
use Rattle.gaz_steps.specs.Step.{Door}
use Rattle.gaz_hub.specs.Waiting.{IsSo}
use Rattle.gaz_steps.specs.declared.outcome.Outcome.{Outcome}
use Rattle.gaz_steps.specs.declared.outcome.Outcome.TheVariants.{Held}
use Rattle.gaz_hub.proofs.Advancing.{advances_looking, advances_then}
use Rattle.gaz_steps.proofs.Looks.{looks_then}
use Rattle.gaz_steps.proofs.Waits.{not_reached, waits}

-- ---- outcomes

pub told_held : (F : Received) (B : Board) (c volume : ℕ) (told : Outcome) → 1 ≤ volume → volume ≤ 999999 → None ≡ verdict_on B c volume → IsHeld F B c told → IsOutcome F B c volume told
told_held F B c volume told one most e held there closed =
    let (w, is) = waits F B c closed (omega (arith, not_reached B c volume one e, most)) in
    ap (λ o. option_map_or (λ v. Some (outcome_of v)) o (option_map (λ v. Held v.0 v.1) (wants F B c))) (sym e)
    ∙ ap (option_map (λ v. Held v.0 v.1)) is ∙ ap Some (sym (held w.0 w.1 is))

-- ---- settling and then reading

pub tells_looks : {T U : Type 0} (d : Door) (a b c : Seen) (x : U) (r : Result T ShelfFault) (P : U → Type 0) (Q : Content → T → Type 0)
    → Tells d a b (Ok x) P → Looks b c r (Q b.content) → Tells d a c r (Q c.content)
tells_looks d a b c x r P Q first second =
    let looked = advances_looking d b c r (Q b.content) second first.advances.idle in
    record {
      advances = advances_then d 0 0 a b c first.advances looked;
      settled = λ stood fine.
          let mid = second.keeps.harm fine in
          let now = first.advances.stands stood mid in
          on_ok r (subst (λ (k : Content). NothingReady k.files k.board) (sym (second.keeps.content now.0 fine)) (first.settled stood mid));
      right = λ stood fine.
          let mid = second.keeps.harm fine in
          let now = first.advances.stands stood mid in
          if_ok r (Q b.content) (Q c.content) (λ y. subst (λ (k : Content). Q k y) (sym (second.keeps.content now.0 fine))) (second.right now.0 fine);
      cause = λ stood fine. later r a.failures b.failures c.failures first.advances.kept second.counts.store;
    }
  where
    on_ok : {V : Type 0} (r : Result V ShelfFault) → {S : Type 0} → S → OnOk r S
    on_ok (Ok x) h = h
    on_ok (Err e) h = tt

    later : {V : Type 0} (r : Result V ShelfFault) (m n k : ℕ) → m ≤ n → IfErr r (λ e. e ≡ Store → n < k) → IfErr r (λ e. e ≡ Store → m < k)
    later (Ok x) m n k h g = tt
    later (Err e) m n k h g = λ is. let more = g is in omega arith

-- the same where both were one call
pub tells_settled : {K T : Type 0} (d : Door) (seen : K → Seen) (Calls : K → Result T ShelfFault → K → Type 0) (old new : K) (r : Result T ShelfFault) (Q : Content → T → Type 0)
    → SettlesAndCalls d seen Calls old new r → ((mid : K) → Calls mid r new → Looks (seen mid) (seen new) r (Q (seen mid).content)) → Tells d (seen old) (seen new) r (Q (seen new).content)
tells_settled d seen Calls old new r Q (inl x) looks = tells_looks d (seen old) (seen x.mid) (seen new) tt r _ Q x.settled (looks x.mid x.called)
tells_settled d seen Calls old new r Q (inr x) looks =
    subst (λ k. Tells d (seen old) (seen new) k (Q (seen new).content)) (sym x.told)
    (record { advances = x.failed.advances; settled = λ stood fine. tt; right = λ stood fine. tt; cause = x.failed.cause })

-- where settling failed nothing is told, so that what a call tells is right of each answer
pub calls_tell : {K T : Type 0} (d : Door) (seen : K → Seen) (Calls : K → Result T ShelfFault → K → Type 0) (old new : K) (r : Result T ShelfFault) (P : T → Type 0)
    → SettlesAndCalls d seen Calls old new r → ((mid : K) → Calls mid r new → IfOk r P) → IfOk r P
calls_tell d seen Calls old new r P (inl x) tells = tells x.mid x.called
calls_tell d seen Calls old new r P (inr x) tells = subst (λ k. IfOk k P) (sym x.told) tt

-- what isn't judged is held
pub looks_held : (a b c : Seen) (code volume : ℕ) (known : Option (ℕ × ℕ)) (r : Result Outcome ShelfFault) → 1 ≤ volume → volume ≤ 999999
    → Reads a b (Ok None) (λ v. v ≡ verdict_on a.content.board code volume)
    → Looks b c r (λ told. IsSo b.content.files b.content.board code known → IsHeld b.content.files b.content.board code told)
    → Looks a c r (λ told. IsSo a.content.files a.content.board code known → IsOutcome a.content.files a.content.board code volume told)
looks_held a b c code volume known r one most first second =
    looks_then a b c None r (λ v. v ≡ verdict_on a.content.board code volume) _ _
    (record { keeps = first.keeps; right = first.right; counts = first.counts }) second
    (λ same none told held so. told_held a.content.files a.content.board code volume told one most none
    (subst (λ (k : Content). IsHeld k.files k.board code told) same (held (subst (λ (k : Content). IsSo k.files k.board code known) (sym same) so))))
