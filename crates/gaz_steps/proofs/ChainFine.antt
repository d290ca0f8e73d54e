-- The chain on every partial board.
use Rattle.std.proofs.Common.{◌≡◌, inl, inr, ℕ, zero, suc, true, false, cond, eqb, eqb-true, List, [], ◌∷◌, ◌++◌, map, length, refl, sym, ap, ◌∙◌, subst}
use Rattle.std.specs.Prelude.{Some, None, slice_get, unwrap_or}
use Rattle.std.specs.Option.{option_map}
use Rattle.std.specs.List.{find}
use Rattle.std.specs.Ordering.{nat_cmp}
use Rattle.std.specs.FinMap as fin
use Rattle.std.proofs.lemmas.Option.{none-some, same_Some}
use Rattle.gaz_chains.specs.Chains.{IsHop}
use Rattle.gaz_chains.specs.Events.{Events, Has, appended, newest}
use Rattle.gaz_chains.specs.Laws.{HasChain, IsAllotted}
use Rattle.gaz_chains.proofs.Lists.{has_kept}
use Rattle.gaz_chains.proofs.Rising.{has_newest}
use Rattle.gaz_chains.proofs.Steps.{IsKept, kept_chain, none_kept}
use Rattle.gaz_chains.proofs.Unique.{one_chain_at_most_holds}
use Rattle.gaz_changefile.specs.declared.change.Basis.{Basis}
use Rattle.gaz_keeper.specs.Board.{Board, Judgement, adds, empty_board, last_view, view_after}
use Rattle.gaz_keeper.specs.Received.{Received}
use Rattle.gaz_register.proofs.Ownership.{one-owner}
use Rattle.gaz_register.specs.Registers.{IsRegister, Owners, RegisterValue, blocks_of, owner_of_uprn, within}
use Rattle.gaz_end_rules.specs.Bases.{basis_views}
use Rattle.gaz_rules.specs.CustodyRules.{basis_of}
use Rattle.gaz_rules.specs.Judging.{bases_of, judged_on}
use Rattle.gaz_views.specs.Custody.{is_holding}
use Rattle.gaz_views.specs.View.{View, custody_at, empty_view}
use Rattle.gaz_views.specs.declared.custody.Custody.{Custody}
use Rattle.gaz_steps.specs.Became.{became, made_in}
use Rattle.gaz_steps.specs.Chains.{OneChain}
use Rattle.gaz_steps.specs.Standing.{IsPartial, Leads, judge_one, ready}
use Rattle.gaz_steps.proofs.ChainBoards.{became_more, has_file, judged_is, read_now, view_last, view_split}
use Rattle.gaz_steps.proofs.ChainFiles.{file_kept}

-- nothing is in the custody of the empty view
pub none_at_first : (uprn : ℕ) → custody_at empty_view uprn ≡ None
unfolding empty_view
none_at_first uprn = fin.get-empty nat_cmp uprn

-- the view of a basis line is one on the board
pub basis_found : (B : Board) (bases : List Basis) (from : ℕ) (w : View) → basis_of (basis_views B bases) from ≡ Some w → (volume : ℕ) × (w ≡ view_after B from volume)
basis_found B [] from w e = absurd (none-some w e)
basis_found B (d ∷ bases) from w e =
    elim (eqb d.custodian from) as (λ b. eqb d.custodian from ≡ b → option_map (λ (x : ℕ × View). x.1) (cond b (Some (d.custodian, view_after B d.custodian d.volume)) (find (λ x. eqb x.0 from) (basis_views B bases))) ≡ Some w → (volume : ℕ) × (w ≡ view_after B from volume)) [
      | true ↦ λ t is. (d.volume, sym (same_Some (view_after B d.custodian d.volume) w is) ∙ ap (λ x. view_after B x d.volume) (eqb-true d.custodian from t))
      | false ↦ λ _ rest. basis_found B bases from w rest
    ] refl e

-- the chain is kept, each last view shows the newest event, and no view on the board shows anything
-- else than one of the events
pub record IsFine (F : Received) (a uprn : ℕ) (B : Board) : Type 0 where
  pub kept : IsKept a (became F B uprn)
  pub shown : (c : ℕ) → custody_at (last_view B c) uprn ≡ newest (became F B uprn c)
  pub known : (c volume : ℕ) (e : Custody) → custody_at (view_after B c volume) uprn ≡ Some e → Has (became F B uprn c) e

-- ---- one judgement more

shown_more : (B : Board) (c : ℕ) (j : Judgement) (uprn : ℕ) (ev : Events) (made : List Custody) → ((d : ℕ) → custody_at (last_view B d) uprn ≡ newest (ev d)) → newest (ev c ++ made) ≡ custody_at j.view uprn
    → (d : ℕ) → custody_at (last_view (adds B c j) d) uprn ≡ newest (appended ev c made d)
shown_more B c j uprn ev made was now d =
    elim (eqb d c) as (λ b. eqb d c ≡ b → custody_at (unwrap_or (slice_get (empty_view ∷ map (λ (x : Judgement). x.view) (cond b (B d ++ j ∷ []) (B d))) (length (cond b (B d ++ j ∷ []) (B d)))) empty_view) uprn ≡ newest (cond b (ev d ++ made) (ev d))) [
      | true ↦ λ t. ap (λ v. custody_at v uprn) (view_last (B d) j) ∙ sym (subst (λ x. newest (ev x ++ made) ≡ custody_at j.view uprn) (sym (eqb-true d c t)) now)
      | false ↦ λ _. was d
    ] refl

known_more : (B : Board) (c : ℕ) (j : Judgement) (uprn : ℕ) (ev : Events) (made : List Custody) → ((d volume : ℕ) (e : Custody) → custody_at (view_after B d volume) uprn ≡ Some e → Has (ev d) e) → newest (ev c ++ made) ≡ custody_at j.view uprn
    → (d volume : ℕ) (e : Custody) → custody_at (view_after (adds B c j) d volume) uprn ≡ Some e → Has (appended ev c made d) e
known_more B c j uprn ev made was now d volume e there =
    elim (eqb d c) as (λ b. eqb d c ≡ b → custody_at (unwrap_or (slice_get (empty_view ∷ map (λ (x : Judgement). x.view) (cond b (B d ++ j ∷ []) (B d))) volume) empty_view) uprn ≡ Some e → Has (cond b (ev d ++ made) (ev d)) e) [
      | true ↦ λ t there. elim (view_split (B d) j volume) [
        | inl old ↦ has_kept (ev d) made e (was d volume e (sym (ap (λ v. custody_at v uprn) old) ∙ there))
        | inr new ↦ has_newest (ev d ++ made) e (subst (λ x. newest (ev x ++ made) ≡ custody_at j.view uprn) (sym (eqb-true d c t)) now ∙ sym (ap (λ v. custody_at v uprn) new) ∙ there)
      ]
      | false ↦ λ _ there. was d volume e there
    ] refl there

module _ (G : Owners) (F : Received) (a uprn : ℕ) (is : IsAllotted (λ d. within (G d).uprn uprn) a) where
  empty_fine : IsFine F a uprn empty_board
  empty_fine = record {
    kept = none_kept a;
    shown = λ c. none_at_first uprn;
    known = λ c volume e there. absurd (none-some e (sym (nothing volume) ∙ there));
  }
    where
      nothing : (volume : ℕ) → custody_at (view_after empty_board 0 volume) uprn ≡ None
      nothing zero = none_at_first uprn
      nothing (suc n) = none_at_first uprn

  one_fine : (B : Board) (c : ℕ) → IsFine F a uprn B → ready F B c ≡ true → IsFine F a uprn (judge_one G F B c)
  one_fine B c fine h =
      let file = has_file F B c h in
      let r = read_now F B c file in
      let ev = became F B uprn in
      let others = basis_views B (bases_of r) in
      let j = judged_on (G c) B c r in
      let made = made_in uprn (Some r) j.verdict in
      let on = file_kept a uprn c G is others r (last_view B c) ev fine.kept (sym (fine.shown c))
      (λ from w e found there.
      let at = basis_found B (bases_of r) from w found in
      fine.known from at.0 e (sym (ap (λ v. custody_at v uprn) at.1) ∙ there)) in
      let becomes : became F (adds B c j) uprn ≡ appended ev c made = became_more F uprn B c j ∙ ap (λ o. appended (became F B uprn) c (made_in uprn o j.verdict)) file.came in
      subst (IsFine F a uprn) (sym (judged_is G F B c file)) (record {
        kept = subst (IsKept a) (sym becomes) on.kept;
        shown = λ d. shown_more B c j uprn ev made fine.shown on.shown d ∙ ap (λ (l : Events). newest (l d)) (sym becomes);
        known = λ d volume e there. subst (λ (l : Events). Has (l d) e) (sym becomes) (known_more B c j uprn ev made fine.known on.shown d volume e there);
      })

  leads_fine : (B : Board) (order : List ℕ) (C : Board) → IsFine F a uprn B → Leads G F B order C → IsFine F a uprn C
  leads_fine B [] C fine e = subst (IsFine F a uprn) (sym e) fine
  leads_fine B (c ∷ order) C fine l = leads_fine (judge_one G F B c) order C (one_fine B c fine l.0) l.1

  pub partial_fine : (B : Board) → IsPartial G F B → IsFine F a uprn B
  partial_fine B partial = leads_fine empty_board partial.order B empty_fine partial.leads

pub allotted_is : (register : RegisterValue) (a uprn : ℕ) → IsRegister register → owner_of_uprn register uprn ≡ Some a → IsAllotted (λ d. within (blocks_of register d).uprn uprn) a
allotted_is register a uprn is own = record {
  own_number = (one-owner register is a uprn).0.1 own;
  of_nobody_else = λ c its. same_Some c a (sym ((one-owner register is c uprn).0.0 its) ∙ own);
}

-- at one hop one custodian took the number, from one
adopted_once : (chain : List ℕ) (c d from other hop : ℕ) → IsHop chain from c hop → IsHop chain other d hop → (c ≡ d) × (from ≡ other)
adopted_once chain c d from other zero k l = absurd k
adopted_once chain c d from other (suc n) k l = (same_Some c d (sym k.1 ∙ l.1), same_Some from other (sym k.0 ∙ l.0))

pub chain_of : (register : RegisterValue) (F : Received) (B : Board) (a uprn : ℕ) → IsRegister register → owner_of_uprn register uprn ≡ Some a → IsPartial (blocks_of register) F B
    → HasChain (λ d. within (blocks_of register d).uprn uprn) a (became F B uprn)
chain_of register F B a uprn is own partial =
    let at = allotted_is register a uprn is own in
    kept_chain (λ d. within (blocks_of register d).uprn uprn) a at (became F B uprn) (partial_fine (blocks_of register) F a uprn at B partial).kept

pub one_chain_holds : OneChain
one_chain_holds register F B a uprn is own partial =
    let at = allotted_is register a uprn is own in
    let fine = partial_fine (blocks_of register) F a uprn at B partial in
    let chain = chain_of register F B a uprn is own partial in
    record {
      chain = chain.chain;
      offered = chain.offered;
      is = chain.is;
      alone = λ other others k. one_chain_at_most_holds a (became F B uprn) chain.chain other chain.offered others chain.is k;
      holds = λ c. (
        λ h. (chain.holds c).0 (ap (is_holding (within (blocks_of register c).uprn uprn)) (sym (fine.shown c)) ∙ h),
        λ h. ap (is_holding (within (blocks_of register c).uprn uprn)) (fine.shown c) ∙ (chain.holds c).1 h,
      );
      adopted_once = λ c d from other hop mine its.
          adopted_once chain.chain c d from other hop ((chain.is.adoptions c from hop).0 mine) ((chain.is.adoptions d other hop).0 its);
    }
