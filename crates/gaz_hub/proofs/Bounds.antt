-- How many judgements there can be.
use Rattle.std.proofs.Common.{◌≡◌, ◌≤◌, ◌+◌, ◌*◌, ℕ, true, false, cond, eqb, eqb-true, eq-eqb, inl, inr, List, [], ◌∷◌, length, refl, sym, ap, ◌∙◌, arith, leb, leb-true, true≢false}
use Rattle.std.proofs.lemmas.Bool.Decides.{leb_tells}
use Rattle.std.proofs.lemmas.List.{length_push}
use Rattle.std.specs.Prelude.{is_some, Some}
use Rattle.std.specs.List.{find}
use Rattle.gaz_register.specs.Registers.{CustodianValue, Owners, RegisterValue, knows}
use Rattle.gaz_keeper.specs.Board.{Board, reached}
use Rattle.gaz_keeper.specs.Received.{Received}
use Rattle.gaz_steps.specs.Step.{blocks}
use Rattle.gaz_steps.specs.Hubs.{AreKnown, StandsFor, door_of}
use Rattle.gaz_hub.specs.Settling.{Advances, IsAll, capped, judged_by}
use Rattle.gaz_steps.specs.Standing.{Leads, judge_one, ready, with_next}
use Rattle.gaz_keeper.specs.Keeper.{Seen}
use Rattle.gaz_steps.proofs.Orders.{judge_one_moved, moved_below, next, ready_gives, with_next_is}
use Rattle.gaz_steps.proofs.Prefixes.{prefix_length}

cap_most : (n : ℕ) → capped n ≤ 999999
cap_most n = elim (leb n 999999) as (λ b. leb n 999999 ≡ b → cond b n 999999 ≤ 999999) [ true ↦ λ e. leb-true n 999999 e | false ↦ λ e. omega arith ] refl

cap_within : (n : ℕ) → n ≤ 999999 → capped n ≡ n
cap_within n h = elim (leb_tells n 999999) [ inl t ↦ ap (λ b. cond b n 999999) t.0 | inr t ↦ absurd (omega (arith, t.1)) ]

cap_grows : (m n : ℕ) → m ≤ n → capped m ≤ capped n
cap_grows m n h =
    elim (leb_tells n 999999) [
      | inl t ↦ let a = cap_within n t.1 in let b = cap_within m (omega (arith, t.1)) in omega arith
      | inr t ↦ let a : capped n ≡ 999999 = ap (λ b. cond b n 999999) t.0 in omega (arith, cap_most m)
    ]

total_most : (reg : RegisterValue) (B : Board) → judged_by reg B ≤ 999999 * length reg
total_most [] B = omega arith
total_most (k ∷ reg) B = omega (arith, cap_most (reached B k.code), total_most reg B)

total_grows : (reg : RegisterValue) (B C : Board) → ((c : ℕ) → reached B c ≤ reached C c) → judged_by reg B ≤ judged_by reg C
total_grows [] B C up = omega arith
total_grows (k ∷ reg) B C up = omega (arith, cap_grows _ _ (up k.code), total_grows reg B C up)

total_one : (reg : RegisterValue) (B C : Board) (c : ℕ) → ((d : ℕ) → reached B d ≤ reached C d) → reached C c ≡ reached B c + 1 → reached B c + 1 ≤ 999999
    → knows reg c ≡ true → judged_by reg B + 1 ≤ judged_by reg C
total_one [] B C c up more within e = absurd (true≢false (sym e))
total_one (k ∷ reg) B C c up more within e =
    elim (eqb k.code c) as (λ b. eqb k.code c ≡ b → is_some (cond b (Some k) (find (λ (x : CustodianValue). eqb x.code c) reg)) ≡ true → judged_by (k ∷ reg) B + 1 ≤ judged_by (k ∷ reg) C) [
      | true ↦ λ t _.
          let is : k.code ≡ c = eqb-true k.code c t in
          let b : capped (reached B k.code) ≡ reached B c = ap (λ x. capped (reached B x)) is ∙ cap_within (reached B c) (omega arith) in
          let d : capped (reached C k.code) ≡ reached B c + 1 = ap (λ x. capped (reached C x)) is ∙ ap capped more ∙ cap_within (reached B c + 1) within in
          omega (arith, total_grows reg B C up)
      | false ↦ λ _ rest. omega (arith, cap_grows _ _ (up k.code), total_one reg B C c up more within rest)
    ] refl e

-- each judgement of a ready file is one more
leads_total : (reg : RegisterValue) (G : Owners) (F : Received) → AreKnown (door_of reg) F → (B : Board) (order : List ℕ) (C : Board) → Leads G F B order C
    → judged_by reg B + length order ≤ judged_by reg C
leads_total reg G F known B [] C e = let same : judged_by reg C ≡ judged_by reg B = ap (judged_by reg) e in omega arith
leads_total reg G F known B (c ∷ order) C l =
    let is = ready_gives F B c l.0 in
    let D = judge_one G F B c in
    let below = moved_below G F B D (judge_one_moved G F B c l.0) in
    let after : reached D c ≡ reached B c + 1 = ap (λ b. length (cond b (with_next G F B c) (B c))) (eq-eqb c c refl) ∙ ap length (with_next_is G F B c is) ∙ length_push (B c) (next G F B c is) in
    let one = total_one reg B D c (λ d. prefix_length (B d) (D d) (below d)) after is.in_range (known (c, reached B c + 1) (ap is_some is.came)) in
    omega (arith, one, leads_total reg G F known D order C l.1)

-- where one more is ready, not all volumes are judged
pub not_all : (reg : RegisterValue) (F : Received) (B : Board) (c : ℕ) → AreKnown (door_of reg) F → ready F B c ≡ true → IsAll (door_of reg) B 0 → ⊥
not_all reg F B c known h all =
    let G = blocks (door_of reg) in
    let one = leads_total reg G F known B (c ∷ []) (judge_one G F B c) (h, refl) in
    omega (arith, one, total_most reg (judge_one G F B c), all)

-- after some judgements as many less are left
pub all_then : (reg : RegisterValue) (n left rest : ℕ) (a b : Seen) → n + rest ≡ left → Advances (door_of reg) n a b → StandsFor (door_of reg) a → b.unharmed
    → IsAll (door_of reg) a.content.board left → IsAll (door_of reg) b.content.board rest
all_then reg n left rest a b sum l stood fine all =
    let f = l.board stood fine in
    let up = leads_total reg _ a.content.files stood.1.known a.content.board f.order b.content.board f.leads in
    omega (arith, sum, up, l.many stood fine, all)
