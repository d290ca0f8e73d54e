-- What stands at a key, among rows in the order of their keys.
use Rattle.std.proofs.Common.{◌≡◌, ◌&&◌, ℕ, Bool, true, false, cond, T, List, [], ◌∷◌, refl, sym, ap, ◌∙◌, unwrap_or}
use Rattle.std.specs.Prelude.{Option, Some, None, option_map}
use Rattle.std.specs.FinMap.{find, is_sorted}
use Rattle.std.specs.FinMap.Entries.{below_all}
use Rattle.std.specs.List.{cons_option}
use Rattle.std.specs.Ordering.{eq_by_cmp, is_eq, is_lt}
use Rattle.std.specs.declared.cmp.Ordering.{Ordering}
use Rattle.std.specs.declared.cmp.Ordering.TheVariants.{Less, Equal, Greater}
use Rattle.gaz_histories.specs.Histories.{Versions, standing_at}
use Rattle.gaz_standing.specs.KeyHistories.{rows_at}

pub both_hold : (a b : Bool) → T (a && b) → T a × T b
both_hold true b h = (tt, h)
both_hold false b h = absurd h

pub is_less : (o : Ordering) → T (is_lt o) → o ≡ Less
is_less Less h = refl
is_less Equal h = absurd h
is_less Greater h = absurd h

module _ {K X : Type 0} (R : K → K → Ordering) (exact : (q k : K) → eq_by_cmp R q k ≡ true → q ≡ k) where
  -- a key that is below all of them is none of them
  pub below_none : (k : K) (es : List (K × Versions X)) → T (below_all R k es) → find R k es ≡ None
  below_none k [] h = refl
  below_none k (e ∷ es) h =
      let two = both_hold (is_lt (R k e.0)) (below_all R k es) h in
      ap (λ r. cond (is_eq r) (Some e.1) (find R k es)) (is_less _ two.0) ∙ below_none k es two.1

  pub same_rows : (es : List (K × Versions X)) → T (is_sorted R es) → (v : ℕ) (q : K) → find R q (rows_at es v) ≡ standing_at (unwrap_or (find R q es) []) v
  same_rows [] h v q = refl
  same_rows (e ∷ es) h v q = by_item (same_rows es (both_hold (below_all R e.0 es) (is_sorted R es) h).1 v q) (standing_at e.1 v) refl (eq_by_cmp R q e.0) refl
    where
      two : T (below_all R e.0 es) × T (is_sorted R es)
      two = both_hold _ _ h

      by_item : find R q (rows_at es v) ≡ standing_at (unwrap_or (find R q es) []) v → (o : Option X) → standing_at e.1 v ≡ o → (b : Bool) → eq_by_cmp R q e.0 ≡ b
          → find R q (cons_option (option_map (λ i. (e.0, i)) o) (rows_at es v)) ≡ standing_at (unwrap_or (cond b (Some e.1) (find R q es)) []) v
      by_item behind None is true at = behind ∙ ap (λ k. standing_at (unwrap_or (find R k es) []) v) (exact q e.0 at) ∙ ap (λ o. standing_at (unwrap_or o []) v) (below_none e.0 es two.0) ∙ sym is
      by_item behind None is false at = behind
      by_item behind (Some i) is true at = ap (λ b. cond b (Some i) (find R q (rows_at es v))) at ∙ sym is
      by_item behind (Some i) is false at = ap (λ b. cond b (Some i) (find R q (rows_at es v))) at ∙ behind
