-- What is so of what is shown of each row that fits is so of the rows of an answer.
use Rattle.std.proofs.Common.{◌≡◌, ◌∙◌, inl, inr, ℕ, List, [], ◌∷◌, map, take, sym, subst}
use Rattle.sqlite.specs.Order.{Row}
use Rattle.sqlite_rules.specs.Lists.{Has}
use Rattle.sqlite_rules.proofs.ListLemmas.{has_filtered}
use Rattle.sqlite_rules.proofs.ProbeLemmas.{has_mapped}
use Rattle.gaz_sql_facts.proofs.Lists.{has_permuted}
use Rattle.gaz_tables.specs.Shows.{Picks, ShowsAll, ShowsGreatest, ShowsPage}
use Rattle.gaz_row_items.specs.Decoding.{Each}
use Rattle.gaz_answers.proofs.Taken.{taken}

module _ (IsSo Fits : Row → Type 0) (show : Row → Row) (rows : List Row) (so : (r : Row) → Has rows r → Fits r → IsSo (show r)) (answer : List Row) where
  some_shown : (chosen : List Row) → Picks Fits rows chosen → (some : List Row) → ((r : Row) → Has some r → Has chosen r) → answer ≡ map show some → Each IsSo answer
  some_shown chosen picks some among shown a here =
      let m = has_mapped show some a (subst (λ l. Has l a) shown here) in
      let f = has_filtered picks.test rows m.0 (has_permuted _ chosen m.0 picks.same (among m.0 m.1)) in
      subst IsSo (sym m.2) (so m.0 f.0 (picks.sound m.0 f.0 f.1))

  pub all_shown : ShowsAll Fits show rows answer → Each IsSo answer
  all_shown h = some_shown h.chosen h.picks h.chosen (λ r here. here) h.shown

  pub first_shown : (most : ℕ) (chosen : List Row) → Picks Fits rows chosen → answer ≡ map show (take most chosen) → Each IsSo answer
  first_shown most chosen picks shown = some_shown chosen picks (take most chosen) (taken most chosen) shown

  pub page_shown : (place most : ℕ) → ShowsPage Fits place most show rows answer → Each IsSo answer
  page_shown place most h = first_shown most h.chosen h.picks h.shown

-- so it is of the one with the greatest number
pub greatest_shown : (IsSo Fits : Row → Type 0) (place : ℕ) (show : Row → Row) (rows : List Row) → ((r : Row) → Has rows r → Fits r → IsSo (show r)) → (answer : List Row)
    → ShowsGreatest Fits place show rows answer → Each IsSo answer
greatest_shown IsSo Fits place show rows so [] none a here = absurd here
greatest_shown IsSo Fits place show rows so (x ∷ []) g a (inl same) = subst IsSo (sym (same ∙ g.3)) (so g.0 g.2.there g.2.fits)
greatest_shown IsSo Fits place show rows so (x ∷ []) g a (inr none) = absurd none
greatest_shown IsSo Fits place show rows so (x ∷ y ∷ more) g a here = absurd g
