-- A verdict that is brought to hand.
use Rattle.std.proofs.Common.{◌≡◌, ◌∙◌, ◌≤◌, ◌+◌, ◌-◌, ℕ, sym, ap, subst, arith}
use Rattle.std.specs.Prelude.{Result, Ok, Err, OnOk, IsSome}
use Rattle.std.specs.FinMap as map
use Rattle.gaz_views.specs.declared.verdict.Verdict.{Verdict}
use Rattle.gaz_views.specs.declared.verdict.Verdict.TheVariants.{Applied, Rejected}
use Rattle.gaz_keeper.specs.Board.{last_view, reached}
use Rattle.gaz_keeper.specs.Keeper.{Content, IsAtHand, Open, Progress, after_begin, after_keep, after_skip, with_judgement}
use Rattle.gaz_loaded.specs.Files.{IsEntered}

pub on_ok : {T E P Q : Type 0} (r : Result T E) → (P → Q) → OnOk r P → OnOk r Q
on_ok (Ok x) f p = f p
on_ok (Err e) f p = tt

-- the volume that is next is at hand
pub at_hand_next : (k m : Content) (c v v_read n : ℕ) → m ≡ k → n ≡ reached k.board c → n ≡ v_read - 1 → v_read ≡ v → 1 ≤ v_read → IsSome (map.get k.files (c, v)) → IsAtHand m c
at_hand_next k m c v v_read n same is at read low there =
    let next : v ≡ reached k.board c + 1 = omega (arith, is, at, read, low) in
    subst (λ (x : Content). IsAtHand x c) (sym same) (subst (λ w. IsSome (map.get k.files (c, w))) next there)

entered_as : (k n : Content) (c v v_read got : ℕ) (verdict told : Verdict) → got ≡ reached k.board c → got ≡ v_read - 1 → v_read ≡ v → 1 ≤ v_read → verdict ≡ told
    → n ≡ with_judgement k c (record { verdict = told; view = last_view k.board c }) → IsEntered c v verdict k n
entered_as k n c v v_read got verdict told is this read low same becomes = record {
  next = omega (arith, is, this, read, low);
  becomes = becomes ∙ ap (λ d. with_judgement k c (record { verdict = d; view = last_view k.board c })) (sym same);
}

pub applied : (k l m n : Content) (p : Progress) (c v v_read got : ℕ) (verdict : Verdict) → l ≡ k → got ≡ reached k.board c → got ≡ v_read - 1 → v_read ≡ v → 1 ≤ v_read → verdict ≡ Applied
    → m ≡ after_begin l c → p ≡ Open c → n ≡ after_keep p m → IsEntered c v verdict k n
applied k l m n p c v v_read got verdict same is this read low told begun opened kept =
    entered_as k n c v v_read got verdict Applied is this read low told
    (kept ∙ (λ i. after_keep (opened i) (begun i)) ∙ ap (λ (x : Content). with_judgement x c (record { verdict = Applied; view = last_view x.board c })) same)

pub rejected : (k l n : Content) (c v v_read got place rule : ℕ) (verdict : Verdict) → l ≡ k → got ≡ reached k.board c → got ≡ v_read - 1 → v_read ≡ v → 1 ≤ v_read → verdict ≡ Rejected place rule
    → n ≡ after_skip l c place rule → IsEntered c v verdict k n
rejected k l n c v v_read got place rule verdict same is this read low told skipped =
    entered_as k n c v v_read got verdict (Rejected place rule) is this read low told (skipped ∙ ap (λ (x : Content). after_skip x c place rule) same)
