-- The board that the rows make.
use Rattle.std.proofs.Common.{◌≡◌, ◌≢◌, ◌∙◌, ◌≤◌, ◌<◌, ◌+◌, ◌++◌, ◌==◌, ℕ, zero, suc, Bool, true, false, cond, List, [], ◌∷◌, map, length, slice_get, refl, sym, ap, subst, arith, eqb-true}
use Rattle.std.proofs.lemmas.Bool.{eqb-false}
use Rattle.std.specs.Prelude.{Some, None, unwrap_or}
use Rattle.std.specs.Cmp.{nat_cmp_is}
use Rattle.std.specs.FinMap as finite
use Rattle.std.specs.FinMap.{find}
use Rattle.std.specs.List.{range_with_len}
use Rattle.std.specs.Ordering.{is_eq, nat_cmp}
use Rattle.std.specs.declared.cmp.Ordering.TheVariants.{Equal}
use Rattle.sqlite.specs.Order.{Row}
use Rattle.gaz_fields.proofs.LabelOrder.{greater, less}
use Rattle.gaz_views.proofs.Judgements.{append_judged, count_judged, same_judged, verdict_at, view_judged}
use Rattle.gaz_views.specs.Judgements.{Judgement, judgements}
use Rattle.gaz_views.specs.View.{empty_view}
use Rattle.gaz_views.specs.declared.verdict.Verdict.{Verdict}
use Rattle.gaz_keeper.specs.Board.{reached, verdict_on, view_after}
use Rattle.gaz_row_items.specs.Versions.{histories_in, passages_in, view_in}
use Rattle.gaz_kept.specs.Contents.{board_in}
use Rattle.gaz_kept.specs.Files.{judged_volumes, reached_in, verdicts_in}
use Rattle.gaz_kept.specs.Judging.{AreBornLater, ArePassedLater, BoardAdds, BoardChanges, BoardReads}
use Rattle.gaz_kept.specs.Kept.{AreFirst}
use Rattle.gaz_kept.proofs.PassageViews.{nothing_at_first, views_stay}

-- ---- one more judgement

pub board_adds : BoardAdds
board_adds files new_files rows new_rows c v verdicts others past elsewhere = λ i d. by_custodian d (d == c) refl i
  where
    js : ℕ → List Judgement
    js d = board_in files rows d

    next : Judgement
    next = record { verdict = v; view = view_in new_rows c (reached_in files c + 1) }

    here : judgements (verdicts_in new_files c) (view_in new_rows c) ≡ judgements (verdicts_in files c) (view_in rows c) ++ record { verdict = v; view = view_in new_rows c (reached_in files c + 1) } ∷ []
    here =
        let count : 1 + reached_in files c ≡ reached_in files c + 1 = omega arith in
        ap (λ vs. judgements vs (view_in new_rows c)) verdicts
        ∙ append_judged (verdicts_in files c) v (view_in new_rows c)
        ∙ (λ i. same_judged (verdicts_in files c) (view_in rows c) (view_in new_rows c) past i ++ record { verdict = v; view = view_in new_rows c (count i) } ∷ [])

    there : (d : ℕ) → d ≢ c → judgements (verdicts_in new_files d) (view_in new_rows d) ≡ judgements (verdicts_in files d) (view_in rows d)
    there d other = ap (λ vs. judgements vs (view_in new_rows d)) (others d other) ∙ same_judged (verdicts_in files d) (view_in rows d) (view_in new_rows d) (λ t le. elsewhere d other t)

    by_custodian : (d : ℕ) (b : Bool) → (d == c) ≡ b
        → judgements (verdicts_in new_files d) (view_in new_rows d) ≡ cond (d == c) (judgements (verdicts_in files d) (view_in rows d) ++ record { verdict = v; view = view_in new_rows c (reached_in files c + 1) } ∷ []) (judgements (verdicts_in files d) (view_in rows d))
    by_custodian d true t =
        let same : d ≡ c = eqb-true d c t in
        subst (λ e. judgements (verdicts_in new_files e) (view_in new_rows e) ≡ judgements (verdicts_in files e) (view_in rows e) ++ record { verdict = v; view = view_in new_rows c (reached_in files c + 1) } ∷ []) (sym same) here
        ∙ sym (ap (λ b. cond b (judgements (verdicts_in files d) (view_in rows d) ++ record { verdict = v; view = view_in new_rows c (reached_in files c + 1) } ∷ []) (judgements (verdicts_in files d) (view_in rows d))) t)
    by_custodian d false t =
        there d (eqb-false d c t)
        ∙ sym (ap (λ b. cond b (judgements (verdicts_in files d) (view_in rows d) ++ record { verdict = v; view = view_in new_rows c (reached_in files c + 1) } ∷ []) (judgements (verdicts_in files d) (view_in rows d))) t)

-- ---- what is read

module _ (files rows : List Row) (c : ℕ) where
  reached_is : reached (board_in files rows) c ≡ reached_in files c
  reached_is = count_judged (verdicts_in files c) (view_in rows c)

  view_is : AreBornLater (histories_in rows c) → ArePassedLater (passages_in rows c) → (t : ℕ) → t ≤ reached_in files c → view_after (board_in files rows) c t ≡ view_in rows c t
  view_is later passed zero le = sym (nothing_at_first (histories_in rows c) (passages_in rows c) later passed)
  view_is later passed (suc t) le =
      let less : t < length (verdicts_in files c) = omega arith in
      let one : 1 + t ≡ suc t = omega arith in
      ap (λ o. unwrap_or o empty_view) (view_judged (verdicts_in files c) (view_in rows c) t less) ∙ ap (view_in rows c) one

equal : (x y : ℕ) → x ≡ y → nat_cmp x y ≡ Equal
equal x y e = sym (nat_cmp_is x y Equal e)

-- numbers from a on, found at their places
find_at : (a n : ℕ) (es : List (ℕ × Verdict)) → map (λ e. e.0) es ≡ range_with_len a n → (k : ℕ) → find nat_cmp (a + k) es ≡ slice_get (map (λ e. e.1) es) k
find_at a n [] is k = refl
find_at a zero (e ∷ es) is k = let clash : e.0 ∷ map (λ e. e.0) es ≡ [] = is in absurd (cc)
find_at a (suc n) (e ∷ es) is zero =
    let lists : e.0 ∷ map (λ e. e.0) es ≡ a ∷ range_with_len (a + 1) n = is in
    let here : e.0 ≡ a = cc in
    let same : a + 0 ≡ e.0 = omega arith in
    ap (λ o. cond (is_eq o) (Some e.1) (find nat_cmp (a + 0) es)) (equal (a + 0) e.0 same)
find_at a (suc n) (e ∷ es) is (suc k) =
    let lists : e.0 ∷ map (λ e. e.0) es ≡ a ∷ range_with_len (a + 1) n = is in
    let here : e.0 ≡ a = cc in
    let rest : map (λ e. e.0) es ≡ range_with_len (a + 1) n = cc in
    let less : e.0 < a + suc k = omega arith in
    let more : a + suc k ≡ (a + 1) + k = omega arith in
    ap (λ o. cond (is_eq o) (Some e.1) (find nat_cmp (a + suc k) es)) (greater (a + suc k) e.0 less)
    ∙ ap (λ m. find nat_cmp m es) more
    ∙ find_at (a + 1) n es rest k

find_below : (q a n : ℕ) (es : List (ℕ × Verdict)) → q < a → map (λ e. e.0) es ≡ range_with_len a n → find nat_cmp q es ≡ None
find_below q a n [] below is = refl
find_below q a zero (e ∷ es) below is = let clash : e.0 ∷ map (λ e. e.0) es ≡ [] = is in absurd (cc)
find_below q a (suc n) (e ∷ es) below is =
    let lists : e.0 ∷ map (λ e. e.0) es ≡ a ∷ range_with_len (a + 1) n = is in
    let here : e.0 ≡ a = cc in
    let rest : map (λ e. e.0) es ≡ range_with_len (a + 1) n = cc in
    let before : q < e.0 = omega arith in
    let still : q < a + 1 = omega arith in
    ap (λ o. cond (is_eq o) (Some e.1) (find nat_cmp q es)) (less q e.0 before) ∙ find_below q (a + 1) n es still rest

module _ (files rows : List Row) (c : ℕ) (first : AreFirst files c) where
  abbrev entries : List (ℕ × Verdict)
  entries = finite.entries (judged_volumes files c)

  verdict_is : (volume : ℕ) → verdict_on (board_in files rows) c volume ≡ finite.get (judged_volumes files c) volume
  verdict_is zero =
      let below : 0 < 1 = omega arith in
      sym (finite.get-entries (judged_volumes files c) 0 ∙ find_below 0 1 (reached_in files c) entries below first)
  verdict_is (suc t) =
      let one : 1 + t ≡ suc t = omega arith in
      verdict_at (verdicts_in files c) (view_in rows c) t
      ∙ sym (find_at 1 (reached_in files c) entries first t)
      ∙ ap (λ m. find nat_cmp m entries) one
      ∙ sym (finite.get-entries (judged_volumes files c) (suc t))

pub board_reads : (files rows : List Row) (c : ℕ) → BoardReads files rows c
board_reads files rows c = record { reached = reached_is files rows c; verdict = verdict_is files rows c; view = view_is files rows c }

pub board_changes : BoardChanges
board_changes = record { reads = board_reads; adds = board_adds; stays = views_stay }
