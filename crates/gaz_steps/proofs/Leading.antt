-- Boards that follow one another.
use Rattle.std.proofs.Common.{◌≡◌, ◌≤◌, ◌+◌, ℕ, zero, suc, true, false, cond, eqb, List, [], ◌∷◌, ◌++◌, ◌⊎◌, inl, inr, refl, sym, ◌∙◌, subst, arith, eqb-true}
use Rattle.std.proofs.Math.Path.{fun_ext}
use Rattle.std.specs.List.{list_any}
use Rattle.std.specs.FinMap as map
use Rattle.gaz_register.specs.Registers.{Owners}
use Rattle.gaz_keeper.specs.Board.{Board, empty_board}
use Rattle.gaz_keeper.specs.Received.{HasAllOf, Received}
use Rattle.gaz_steps.specs.Standing.{ready, with_next, judge_one, standing, Leads, Follows, IsPartial, NothingReady, StandingIsSettled}
use Rattle.gaz_steps.proofs.Prefixes.{some_of_any}
use Rattle.gaz_steps.proofs.Orders.{IsReady, ready_gives, ready_from, with_next_is, any_order_holds, one_counts, done_at_most, done_count, none_ready, standing_closed}

-- ---- more files

more_ready : (F bigger : Received) → HasAllOf bigger F → (B : Board) (c : ℕ) → ready F B c ≡ true → ready bigger B c ≡ true
more_ready F bigger all B c h =
    let is = ready_gives F B c h in
    ready_from bigger B c (record { bytes = is.bytes; in_range = is.in_range; came = all _ _ is.came; rests = is.rests })

same_next : (G : Owners) (F bigger : Received) → HasAllOf bigger F → (B : Board) (c : ℕ) → ready F B c ≡ true → with_next G F B c ≡ with_next G bigger B c
same_next G F bigger all B c h =
    let is = ready_gives F B c h in
    let also : IsReady bigger B c = record { bytes = is.bytes; in_range = is.in_range; came = all _ _ is.came; rests = is.rests } in
    with_next_is G F B c is ∙ sym (with_next_is G bigger B c also)

same_judged : (G : Owners) (F bigger : Received) → HasAllOf bigger F → (B : Board) (c : ℕ) → ready F B c ≡ true → judge_one G F B c ≡ judge_one G bigger B c
same_judged G F bigger all B c h =
    fun_ext (λ d. elim (eqb d c) as (λ b. eqb d c ≡ b → cond b (with_next G F B d) (B d) ≡ cond b (with_next G bigger B d) (B d)) [
      | true ↦ λ e. same_next G F bigger all B d (subst (λ k. ready F B k ≡ true) (sym (eqb-true d c e)) h)
      | false ↦ λ _. refl
    ] refl)

leads_more : (G : Owners) (F bigger : Received) → HasAllOf bigger F → (B : Board) (order : List ℕ) (C : Board) → Leads G F B order C → Leads G bigger B order C
leads_more G F bigger all B [] C e = e
leads_more G F bigger all B (c ∷ order) C l = (
  more_ready F bigger all B c l.0,
  subst (λ X. Leads G bigger X order C) (same_judged G F bigger all B c l.0) (leads_more G F bigger all (judge_one G F B c) order C l.1),
)

pub follows_more : (G : Owners) (F bigger : Received) → HasAllOf bigger F → (B C : Board) → Follows G F B C → Follows G bigger B C
follows_more G F bigger all B C f = record { order = f.order; leads = leads_more G F bigger all B f.order C f.leads }

pub leads_on : (G : Owners) (F : Received) (A : Board) (first : List ℕ) (B : Board) (second : List ℕ) (C : Board) → Leads G F A first B → Leads G F B second C → Leads G F A (first ++ second) C
leads_on G F A [] B second C e l = subst (λ X. Leads G F X second C) e l
leads_on G F A (c ∷ first) B second C k l = (k.0, leads_on G F (judge_one G F A c) first B second C k.1 l)

pub follows_on : (G : Owners) (F : Received) (A B C : Board) → Follows G F A B → Follows G F B C → Follows G F A C
follows_on G F A B C f g = record { order = f.order ++ g.order; leads = leads_on G F A f.order B g.order C f.leads g.leads }

pub follows_itself : (G : Owners) (F : Received) (B C : Board) → C ≡ B → Follows G F B C
follows_itself G F B C e = record { order = []; leads = e }

-- one judgement more
pub partial_one : (G : Owners) (F : Received) (B : Board) (c : ℕ) → ready F B c ≡ true → IsPartial G F B → IsPartial G F (judge_one G F B c)
partial_one G F B c h partial = follows_on G F empty_board B (judge_one G F B c) partial (record { order = c ∷ []; leads = (h, refl) })

-- ---- a partial board leads to the standing one

first_then : (G : Owners) (F : Received) (B C : Board) (c : ℕ) → ready F B c ≡ true → Follows G F (judge_one G F B c) C → Follows G F B C
first_then G F B C c h f = record { order = c ∷ f.order; leads = (h, f.leads) }

-- a custodian that is ready, or none is
some_ready : (F : Received) (B : Board) → NothingReady F B ⊎ ((c : ℕ) × (ready F B c ≡ true))
some_ready F B =
    elim (list_any (λ (e : (ℕ × ℕ) × List ℕ). ready F B e.0.0) (map.entries F))
    as (λ b. list_any (λ (e : (ℕ × ℕ) × List ℕ). ready F B e.0.0) (map.entries F) ≡ b → NothingReady F B ⊎ ((c : ℕ) × (ready F B c ≡ true))) [
      | true ↦ λ some. let one = some_of_any (λ (e : (ℕ × ℕ) × List ℕ). ready F B e.0.0) (map.entries F) some in inr (one.0.0.0, one.1)
      | false ↦ λ none. inl (none_ready F B none)
    ] refl

at_top : (G : Owners) (F : Received) (B : Board) → IsPartial G F B → NothingReady F B → Follows G F B (standing G F)
at_top G F B partial closed = follows_itself G F B (standing G F) (sym (any_order_holds G F B partial closed))

climbs : (G : Owners) (F : Received) (n : ℕ) (B : Board) → IsPartial G F B → map.len F ≤ done_count F B + n → Follows G F B (standing G F)
climbs G F zero B partial few = elim (some_ready F B) [
  | inl closed ↦ at_top G F B partial closed
  | inr s ↦
      let more = one_counts G F B s.0 s.1 in
      let most = done_at_most F (judge_one G F B s.0) in
      absurd (omega arith)
]
climbs G F (suc n) B partial few = elim (some_ready F B) [
  | inl closed ↦ at_top G F B partial closed
  | inr s ↦
      let more = one_counts G F B s.0 s.1 in
      first_then G F B (standing G F) s.0 s.1 (climbs G F n (judge_one G F B s.0) (partial_one G F B s.0 s.1 partial) (omega arith))
]

pub to_standing : (G : Owners) (F : Received) (B : Board) → IsPartial G F B → Follows G F B (standing G F)
to_standing G F B partial = climbs G F (map.len F) B partial (omega arith)

pub standing_partial : (G : Owners) (F : Received) → IsPartial G F (standing G F)
standing_partial G F = to_standing G F empty_board (follows_itself G F empty_board empty_board refl)

pub standing_is_settled : StandingIsSettled
standing_is_settled G F = record { partial = standing_partial G F; settled = standing_closed G F }

-- the standing board of more files follows that of fewer
pub standing_follows : (G : Owners) (F bigger : Received) → HasAllOf bigger F → Follows G bigger (standing G F) (standing G bigger)
standing_follows G F bigger all =
    to_standing G bigger (standing G F) (follows_more G F bigger all empty_board (standing G F) (standing_partial G F))
