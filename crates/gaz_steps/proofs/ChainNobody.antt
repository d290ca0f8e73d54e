-- Numbers that are in nobody's blocks.
use Rattle.std.proofs.Common.{◌≡◌, inl, inr, ℕ, zero, suc, true, false, cond, true≢false, eqb, List, [], ◌∷◌, ◌++◌, map, refl, sym, ap, ◌∙◌, subst, append-nil}
use Rattle.std.specs.Prelude.{Some, None, fold, slice_get, unwrap_or}
use Rattle.std.specs.Option.{option_or}
use Rattle.std.specs.List.{cons_option}
use Rattle.std.proofs.lemmas.Option.{none-some}
use Rattle.gaz_chains.specs.Events.{Events, appended}
use Rattle.gaz_changefile.specs.Reading.{Reading, Good, Bad}
use Rattle.gaz_changefile.specs.declared.change.Change.{Change}
use Rattle.gaz_keeper.specs.Board.{Board, Judgement, adds, empty_board, last_view, reached, view_after}
use Rattle.gaz_keeper.specs.Received.{Received}
use Rattle.gaz_register.proofs.Ownership.{one-owner}
use Rattle.gaz_register.specs.Registers.{Blocks, IsRegister, Owners, RegisterValue, blocks_of, owner_of_uprn, within}
use Rattle.gaz_end_rules.specs.Bases.{basis_views}
use Rattle.gaz_rules.proofs.Passing.{passes_as_asked_holds}
use Rattle.gaz_rules.specs.CustodyRules.{basis_of}
use Rattle.gaz_rules.specs.Judging.{Fault, bases_of, end_faults, fault_at, judge, judged_by_faults, judged_on, record_faults}
use Rattle.gaz_rules.specs.Passing.{IsAsked, made_of}
use Rattle.gaz_rules.specs.Rules.{effect, record_rules}
use Rattle.gaz_changefile.specs.Rules.{first_broken}
use Rattle.gaz_views.specs.Custody.{is_holding}
use Rattle.gaz_views.specs.View.{View, custody_at, empty_view}
use Rattle.gaz_views.specs.declared.custody.Custody.{Custody}
use Rattle.gaz_views.specs.declared.custody.Custody.TheVariants.{Adopted, Released}
use Rattle.gaz_steps.specs.Became.{became, made_by, made_in}
use Rattle.gaz_steps.specs.Chains.{UnallottedStay}
use Rattle.gaz_steps.specs.Standing.{IsPartial, Leads, judge_one, ready}
use Rattle.gaz_steps.proofs.ChainBoards.{became_more, has_file, judged_is, read_now, view_split}
use Rattle.gaz_steps.proofs.ChainFine.{basis_found, none_at_first}
use Rattle.gaz_steps.proofs.ChainTests.{both_empty, first_none, no_fault}

-- nothing is made of the number, and its custody stays nothing
pub record StaysNone (uprn : ℕ) (made : List Custody) (w : View) : Type 0 where
  pub made_none : made ≡ []
  pub shows_none : custody_at w uprn ≡ None

module _ (c uprn : ℕ) (own : Blocks) (others : List (ℕ × View)) (outside : within own.uprn uprn ≡ false) (unseen : (from : ℕ) (w : View) → basis_of others from ≡ Some w → custody_at w uprn ≡ None) where
  unfit : (v : View) (e : Custody) → custody_at v uprn ≡ None → IsAsked c own others v uprn e → ⊥
  unfit v (Released to hop) none fits = true≢false (sym fits.0 ∙ ap (is_holding (within own.uprn uprn)) none ∙ outside)
  unfit v (Adopted from hop) none fits = none-some (Released c hop) (sym (unseen from fits.0 fits.1) ∙ fits.2)

  records_none : (cs : List Change) (v : View) → custody_at v uprn ≡ None → record_faults c own others v cs ≡ [] → StaysNone uprn (made_by uprn cs) (fold effect v cs)
  records_none [] v none faults = record { made_none = refl; shows_none = none }
  records_none (x ∷ cs) v none faults =
      let parts = first_none (λ (s : View × Change). fault_at s.1.place (first_broken (record_rules c own others s.0 s.1.action s.1.item))) (v, x) _ faults in
      elim (made_of uprn x.item) as (λ o. made_of uprn x.item ≡ o → StaysNone uprn (cons_option o (made_by uprn cs)) (fold effect (effect v x) cs)) [
        | None ↦ λ made. records_none cs (effect v x) (passes_as_asked_holds.after uprn v x.action x.item ∙ ap (λ o. option_or o (custody_at v uprn)) made ∙ none) parts.1
        | Some e ↦ λ made. absurd (unfit v e none (passes_as_asked_holds.asked c own others v x.action x.item uprn e (no_fault x.place _ parts.0) made))
      ] refl

  file_none : (r : Reading) (v : View) → custody_at v uprn ≡ None → StaysNone uprn (made_in uprn (Some r) (judge c own v others r).verdict) (judge c own v others r).view
  unfolding judge
  file_none (Bad place rule) v none = record { made_none = refl; shows_none = none }
  file_none (Good file) v none = go (record_faults c own others v file.changes ++ end_faults (fold effect v file.changes) others file.changes) refl
    where
      go : (fs : List Fault) → record_faults c own others v file.changes ++ end_faults (fold effect v file.changes) others file.changes ≡ fs
          → StaysNone uprn (made_in uprn (Some (Good file)) (judged_by_faults v (fold effect v file.changes) fs).verdict) (judged_by_faults v (fold effect v file.changes) fs).view
      go [] faults = records_none file.changes v none (both_empty (record_faults c own others v file.changes) _ faults).0
      go (f ∷ fs) some = record { made_none = refl; shows_none = none }

pub record IsNobodys (F : Received) (uprn : ℕ) (B : Board) : Type 0 where
  pub became_none : (d : ℕ) → became F B uprn d ≡ []
  pub shows_none : (d volume : ℕ) → custody_at (view_after B d volume) uprn ≡ None

view_more : (uprn : ℕ) (B : Board) (c : ℕ) (j : Judgement) → ((d volume : ℕ) → custody_at (view_after B d volume) uprn ≡ None) → custody_at j.view uprn ≡ None → (d volume : ℕ) → custody_at (view_after (adds B c j) d volume) uprn ≡ None
view_more uprn B c j was now d volume =
    elim (eqb d c) as (λ b. custody_at (unwrap_or (slice_get (empty_view ∷ map (λ (x : Judgement). x.view) (cond b (B d ++ j ∷ []) (B d))) volume) empty_view) uprn ≡ None) [
      | true ↦ elim (view_split (B d) j volume) [ inl old ↦ ap (λ v. custody_at v uprn) old ∙ was d volume | inr new ↦ ap (λ v. custody_at v uprn) new ∙ now ]
      | false ↦ was d volume
    ]

module _ (G : Owners) (F : Received) (uprn : ℕ) (outside : (c : ℕ) → within (G c).uprn uprn ≡ false) where
  empty_none : IsNobodys F uprn empty_board
  empty_none = record { became_none = λ d. refl; shows_none = λ d volume. nothing volume }
    where
      nothing : (volume : ℕ) → custody_at (view_after empty_board 0 volume) uprn ≡ None
      nothing zero = none_at_first uprn
      nothing (suc n) = none_at_first uprn

  one_none : (B : Board) (c : ℕ) → IsNobodys F uprn B → ready F B c ≡ true → IsNobodys F uprn (judge_one G F B c)
  one_none B c was h =
      let file = has_file F B c h in
      let r = read_now F B c file in
      let j = judged_on (G c) B c r in
      let still = file_none c uprn (G c) (basis_views B (bases_of r)) (outside c)
      (λ from w found. let at = basis_found B (bases_of r) from w found in ap (λ v. custody_at v uprn) at.1 ∙ was.shows_none from at.0)
      r (last_view B c) (was.shows_none c (reached B c)) in
      let becomes : became F (adds B c j) uprn ≡ appended (became F B uprn) c (made_in uprn (Some r) j.verdict) = became_more F uprn B c j ∙ ap (λ o. appended (became F B uprn) c (made_in uprn o j.verdict)) file.came in
      subst (IsNobodys F uprn) (sym (judged_is G F B c file)) (record {
        became_none = λ d. ap (λ (l : Events). l d) becomes ∙ ap (λ l. appended (became F B uprn) c l d) still.made_none ∙ nothing_more (became F B uprn) c d ∙ was.became_none d;
        shows_none = view_more uprn B c j was.shows_none still.shows_none;
      })
    where
      nothing_more : (ev : Events) (c d : ℕ) → appended ev c [] d ≡ ev d
      nothing_more ev c d = elim (eqb d c) as (λ b. cond b (ev d ++ []) (ev d) ≡ ev d) [ true ↦ append-nil (ev d) | false ↦ refl ]

  leads_none : (B : Board) (order : List ℕ) (C : Board) → IsNobodys F uprn B → Leads G F B order C → IsNobodys F uprn C
  leads_none B [] C was e = subst (IsNobodys F uprn) (sym e) was
  leads_none B (c ∷ order) C was l = leads_none (judge_one G F B c) order C (one_none B c was l.0) l.1

  pub partial_none : (B : Board) → IsPartial G F B → IsNobodys F uprn B
  partial_none B partial = leads_none empty_board partial.order B empty_none partial.leads

outside_all : (register : RegisterValue) (uprn : ℕ) → IsRegister register → owner_of_uprn register uprn ≡ None → (c : ℕ) → within (blocks_of register c).uprn uprn ≡ false
outside_all register uprn is nobody c =
    elim (within (blocks_of register c).uprn uprn) as (λ b. within (blocks_of register c).uprn uprn ≡ b → b ≡ false) [
      | true ↦ λ t. absurd (none-some c (sym nobody ∙ (one-owner register is c uprn).0.0 t))
      | false ↦ λ _. refl
    ] refl

pub unallotted_stay_holds : UnallottedStay
unallotted_stay_holds = record {
  never_became = λ register F B uprn is nobody partial. (partial_none (blocks_of register) F uprn (outside_all register uprn is nobody) B partial).became_none;
  never_held = λ register F B uprn is nobody partial c.
      let outside = outside_all register uprn is nobody in
      ap (is_holding (within (blocks_of register c).uprn uprn)) ((partial_none (blocks_of register) F uprn outside B partial).shows_none c (reached B c)) ∙ outside c;
}
