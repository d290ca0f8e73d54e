-- A board with one more judgement, whose view is the empty one.
use Rattle.std.proofs.Common.{◌≡◌, ◌∙◌, ◌≤◌, ◌<◌, ◌+◌, ◌++◌, ◌==◌, ◌⊎◌, inl, inr, ℕ, zero, suc, Bool, true, false, cond, List, [], ◌∷◌, map, length, slice_get, refl, sym, ap, subst, arith, eqb-true}
use Rattle.std.proofs.lemmas.Bool.{cases_lt}
use Rattle.std.proofs.lemmas.List.{length-append}
use Rattle.std.specs.Prelude.{Option, Some, option_map, unwrap_or}
use Rattle.gaz_views.specs.Judgements.{Judgement, views}
use Rattle.gaz_views.specs.View.{empty_view}
use Rattle.gaz_views.specs.declared.verdict.Verdict.{Verdict}
use Rattle.gaz_keeper.specs.Board.{Board, adds, reached, verdict_on, view_after}

get_before : (js : List Judgement) (j : Judgement) (n : ℕ) → n < length js → slice_get (js ++ j ∷ []) n ≡ slice_get js n
get_before [] j n below = absurd (omega arith)
get_before (k ∷ js) j zero below = refl
get_before (k ∷ js) j (suc n) below = get_before js j n (omega arith)

get_last : (js : List Judgement) (j : Judgement) → slice_get (js ++ j ∷ []) (length js) ≡ Some j
get_last [] j = refl
get_last (k ∷ js) j = get_last js j

-- ---- views

abbrev AreBare : List Judgement → Type 0
AreBare js = (n : ℕ) → unwrap_or (slice_get (map (λ (j : Judgement). j.view) js) n) empty_view ≡ empty_view

one_more : (js : List Judgement) (j : Judgement) → AreBare js → j.view ≡ empty_view → AreBare (js ++ j ∷ [])
one_more [] j all is zero = is
one_more [] j all is (suc n) = refl
one_more (k ∷ js) j all is zero = all zero
one_more (k ∷ js) j all is (suc n) = one_more js j (λ m. all (suc m)) is n

pub added_bare : (board : Board) (c : ℕ) (j : Judgement) → ((d t : ℕ) → view_after board d t ≡ empty_view) → j.view ≡ empty_view → (d t : ℕ) → view_after (adds board c j) d t ≡ empty_view
added_bare board c j all is d zero = refl
added_bare board c j all is d (suc t) = by_custodian (d == c)
  where
    by_custodian : (b : Bool) → unwrap_or (slice_get (views (cond b (board d ++ j ∷ []) (board d))) (suc t)) empty_view ≡ empty_view
    by_custodian true = one_more (board d) j (λ n. all d (suc n)) is t
    by_custodian false = all d (suc t)

-- ---- verdicts

abbrev told : List Judgement → ℕ → Option Verdict
told js n = option_map (λ (j : Judgement). j.verdict) (slice_get js n)

pub added_verdicts : (board kept : Board) (c : ℕ) (j : Judgement) → ((d v : ℕ) → v ≤ reached board d → verdict_on board d v ≡ verdict_on kept d v) → Some j.verdict ≡ verdict_on kept c (reached board c + 1)
    → (d v : ℕ) → v ≤ reached (adds board c j) d → verdict_on (adds board c j) d v ≡ verdict_on kept d v
added_verdicts board kept c j all is d zero le = refl
added_verdicts board kept c j all is d (suc n) le = by_custodian (d == c) refl le
  where
    last : (e : ℕ) → e ≡ c → n ≡ length (board e) → told (board e ++ j ∷ []) n ≡ verdict_on kept e (suc n)
    last e same at =
        let next : reached board e + 1 ≡ suc n = omega (arith, at) in
        ap (told (board e ++ j ∷ [])) at
        ∙ ap (option_map (λ (k : Judgement). k.verdict)) (get_last (board e) j)
        ∙ subst (λ x. Some j.verdict ≡ verdict_on kept x (reached board x + 1)) (sym same) is
        ∙ ap (verdict_on kept e) next

    by_place : (d == c) ≡ true → (n < length (board d)) ⊎ (length (board d) ≤ n) → suc n ≤ length (board d ++ j ∷ []) → told (board d ++ j ∷ []) n ≡ verdict_on kept d (suc n)
    by_place same (inl below) high = ap (option_map (λ (k : Judgement). k.verdict)) (get_before (board d) j n below) ∙ all d (suc n) (omega arith)
    by_place same (inr ge) high = last d (eqb-true d c same) (omega (arith, length-append (board d) (j ∷ []), high))

    by_custodian : (b : Bool) → (d == c) ≡ b → suc n ≤ length (cond b (board d ++ j ∷ []) (board d)) → told (cond b (board d ++ j ∷ []) (board d)) n ≡ verdict_on kept d (suc n)
    by_custodian true same high = by_place same (cases_lt n (length (board d))) high
    by_custodian false same high = all d (suc n) high
