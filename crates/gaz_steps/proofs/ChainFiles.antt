-- What a file does to the custody of a number.
use Rattle.std.proofs.Common.{◌≡◌, ℕ, ◌+◌, ◌<◌, true, false, cond, eqb, eq-eqb, List, [], ◌∷◌, ◌++◌, refl, sym, ap, ◌∙◌, subst, append-nil, append_assoc}
use Rattle.std.proofs.Math.Path.{fun_ext}
use Rattle.std.specs.Prelude.{Some, None, fold}
use Rattle.std.specs.Option.{option_or}
use Rattle.std.specs.List.{cons_option}
use Rattle.gaz_chains.specs.Events.{Events, Has, appended, newest}
use Rattle.gaz_chains.specs.Laws.{IsAllotted, IsAllowed}
use Rattle.gaz_chains.proofs.Lists.{last_pushed}
use Rattle.gaz_chains.proofs.Steps.{IsKept, one_kept, pushed_old}
use Rattle.gaz_changefile.specs.Reading.{Reading, Good, Bad}
use Rattle.gaz_changefile.specs.declared.change.Change.{Change}
use Rattle.gaz_register.specs.Registers.{Blocks, within}
use Rattle.gaz_rules.proofs.Passing.{passes_as_asked_holds}
use Rattle.gaz_rules.specs.CustodyRules.{basis_of}
use Rattle.gaz_rules.specs.Judging.{Fault, end_faults, fault_at, judge, judged_by_faults, record_faults}
use Rattle.gaz_rules.specs.Passing.{IsAsked, made_of}
use Rattle.gaz_rules.specs.Rules.{effect, record_rules}
use Rattle.gaz_changefile.specs.Rules.{first_broken}
use Rattle.gaz_views.specs.Custody.{hop_of, is_holding}
use Rattle.gaz_views.specs.View.{View, custody_at}
use Rattle.gaz_views.specs.declared.custody.Custody.{Custody}
use Rattle.gaz_views.specs.declared.custody.Custody.TheVariants.{Adopted, Released}
use Rattle.gaz_steps.specs.Became.{made_by, made_in}
use Rattle.gaz_steps.proofs.ChainTests.{both_empty, first_none, no_fault}

-- ---- events that come one after another

pub none_appended : (ev : Events) (c : ℕ) → appended ev c [] ≡ ev
none_appended ev c = fun_ext (λ d. elim (eqb d c) as (λ b. cond b (ev d ++ []) (ev d) ≡ ev d) [ true ↦ append-nil (ev d) | false ↦ refl ])

pub appended_twice : (ev : Events) (c : ℕ) (xs ys : List Custody) → appended (appended ev c xs) c ys ≡ appended ev c (xs ++ ys)
appended_twice ev c xs ys =
    fun_ext (λ d. elim (eqb d c) as (λ b. cond b (cond b (ev d ++ xs) (ev d) ++ ys) (cond b (ev d ++ xs) (ev d)) ≡ cond b (ev d ++ (xs ++ ys)) (ev d)) [ true ↦ append_assoc (ev d) xs ys | false ↦ refl ])

pub appended_here : (ev : Events) (c : ℕ) (xs : List Custody) → appended ev c xs c ≡ ev c ++ xs
appended_here ev c xs = ap (λ b. cond b (ev c ++ xs) (ev c)) (eq-eqb c c refl)

-- ---- record after record

-- each basis view shows only what became of the number by now
abbrev pub IsKnown : ℕ → Events → List (ℕ × View) → Type 0
IsKnown uprn ev others = (from : ℕ) (w : View) (e : Custody) → basis_of others from ≡ Some w → custody_at w uprn ≡ Some e → Has (ev from) e

-- the chain is kept, and the custodian's newest event is what its view shows
pub record KeepsOn (a uprn c : ℕ) (ev : Events) (made : List Custody) (w : View) : Type 0 where
  pub kept : IsKept a (appended ev c made)
  pub shown : newest (ev c ++ made) ≡ custody_at w uprn

module _ (a uprn c : ℕ) (blocks : ℕ → Blocks) (is : IsAllotted (λ d. within (blocks d).uprn uprn) a) (others : List (ℕ × View)) where
  abbrev own : Blocks
  own = blocks c

  allowed : (ev : Events) (v : View) (e : Custody) → newest (ev c) ≡ custody_at v uprn → IsKnown uprn ev others → IsAsked c own others v uprn e → IsAllowed (λ d. within (blocks d).uprn uprn) ev c e
  allowed ev v (Released to hop) shown known fits = (ap (is_holding (within own.uprn uprn)) shown ∙ fits.0, fits.1 ∙ ap (λ o. hop_of o + 1) (sym shown))
  allowed ev v (Adopted from hop) shown known fits = (known from fits.0 (Released c hop) fits.1 fits.2, subst (λ o. hop_of o < hop) (sym shown) fits.3)

  pub records_kept : (cs : List Change) (v : View) (ev : Events) → IsKept a ev → newest (ev c) ≡ custody_at v uprn → IsKnown uprn ev others → record_faults c own others v cs ≡ []
      → KeepsOn a uprn c ev (made_by uprn cs) (fold effect v cs)
  records_kept [] v ev k shown known none = record {
    kept = subst (IsKept a) (sym (none_appended ev c)) k;
    shown = ap newest (append-nil (ev c)) ∙ shown;
  }
  records_kept (x ∷ cs) v ev k shown known none =
      let parts = first_none (λ (s : View × Change). fault_at s.1.place (first_broken (record_rules c own others s.0 s.1.action s.1.item))) (v, x) _ none in
      let unbroken = no_fault x.place _ parts.0 in
      let w = effect v x in
      elim (made_of uprn x.item) as (λ o. made_of uprn x.item ≡ o → KeepsOn a uprn c ev (cons_option o (made_by uprn cs)) (fold effect w cs)) [
        | None ↦ λ made. records_kept cs w ev k (shown ∙ sym (passes_as_asked_holds.after uprn v x.action x.item ∙ ap (λ o. option_or o (custody_at v uprn)) made)) known parts.1
        | Some e ↦ λ made.
            let next = appended ev c (e ∷ []) in
            let k' = one_kept (λ d. within (blocks d).uprn uprn) a is ev k c e (allowed ev v e shown known (passes_as_asked_holds.asked c own others v x.action x.item uprn e unbroken made)) in
            let shown' : newest (next c) ≡ custody_at w uprn = ap newest (appended_here ev c (e ∷ [])) ∙ last_pushed None (ev c) e ∙ sym (passes_as_asked_holds.after uprn v x.action x.item ∙ ap (λ o. option_or o (custody_at v uprn)) made) in
            let known' : IsKnown uprn next others = λ from u f found there. pushed_old ev c e from f (known from u f found there) in
            let rest = records_kept cs w next k' shown' known' parts.1 in
            record {
              kept = subst (IsKept a) (appended_twice ev c (e ∷ []) (made_by uprn cs)) rest.kept;
              shown = sym (ap (λ l. newest (l ++ made_by uprn cs)) (appended_here ev c (e ∷ [])) ∙ ap newest (append_assoc (ev c) (e ∷ []) (made_by uprn cs))) ∙ rest.shown;
            }
      ] refl

  -- ---- a whole file

  as_before : (v : View) (ev : Events) → IsKept a ev → newest (ev c) ≡ custody_at v uprn → KeepsOn a uprn c ev [] v
  as_before v ev k shown = record { kept = subst (IsKept a) (sym (none_appended ev c)) k; shown = ap newest (append-nil (ev c)) ∙ shown }

  pub file_kept : (r : Reading) (v : View) (ev : Events) → IsKept a ev → newest (ev c) ≡ custody_at v uprn → IsKnown uprn ev others
      → KeepsOn a uprn c ev (made_in uprn (Some r) (judge c own v others r).verdict) (judge c own v others r).view
  unfolding judge
  file_kept (Bad place rule) v ev k shown known = as_before v ev k shown
  file_kept (Good file) v ev k shown known = go (record_faults c own others v file.changes ++ end_faults (fold effect v file.changes) others file.changes) refl
    where
      go : (fs : List Fault) → record_faults c own others v file.changes ++ end_faults (fold effect v file.changes) others file.changes ≡ fs
          → KeepsOn a uprn c ev (made_in uprn (Some (Good file)) (judged_by_faults v (fold effect v file.changes) fs).verdict) (judged_by_faults v (fold effect v file.changes) fs).view
      go [] none = records_kept file.changes v ev k shown known (both_empty (record_faults c own others v file.changes) _ none).0
      go (f ∷ fs) some = as_before v ev k shown
