-- What a unique index says of a table's rows.
use Rattle.std.proofs.Common.{◌≡◌, ℕ, ◌+◌, suc, ◌≤◌, Bool, true, false, not, ◌&&◌, List, [], ◌∷◌, length, arith, inl, inr, refl, sym, ap, subst, ◌∙◌}
use Rattle.std.specs.Prelude.{IsTrue}
use Rattle.std.specs.List.{IsDistinct}
use Rattle.std.specs.List.Sorted.{IsSorted}
use Rattle.std.specs.Ordering.{on, is_eq, is_lt, is_ne, int_cmp, ordering_reverse}
use Rattle.std.specs.declared.cmp.Ordering.{Ordering}
use Rattle.std.specs.declared.cmp.Ordering.TheVariants.{Less, Equal, Greater}
use Rattle.std.proofs.lemmas.Bool.{and_from, cases_Bool}
use Rattle.std.proofs.lemmas.Cmp.{tied_itself}
use Rattle.std.proofs.lemmas.List.{length-map}
use Rattle.std.proofs.lemmas.List.MinMax.{ranks_by}
use Rattle.std.proofs.lemmas.Map.Keys.{IsDistinct-IsPermutation}
use Rattle.sqlite_value.specs.Order.{Row, column, value_cmp}
use Rattle.sqlite_value.proofs.OrderLemmas.{value_cmp-Int, value_cmp_total}
use Rattle.sqlite_sql.specs.declared.ops.CompareOp.TheVariants.{Ne}
use Rattle.sqlite_schema.specs.declared.schema.Constraint.TheVariants.{Unique}
use Rattle.sqlite_schema.specs.declared.schema.Index.{Index}
use Rattle.sqlite_schema.specs.declared.schema.Table.{Table}
use Rattle.sqlite_schema.specs.Rules.{agree, clashes, differ, guards}
use Rattle.sqlite_rules.specs.Lists.{Has}
use Rattle.sqlite_rules.proofs.ListLemmas.{all_has, all_from, some_from, test_has, has_filtered}
use Rattle.sqlite_rules.proofs.PlaceLemmas.{tied_same}
use Rattle.sqlite_rules.proofs.RuleLemmas.{keeps_at}
use Rattle.sqlite_rules.proofs.TableLemmas.{int_is}
use Rattle.sqlite_trees.specs.declared.store.Shape.TheVariants as shape
use Rattle.sqlite_trees.specs.Tree.{rowid, IsAscending, IsTable}
use Rattle.sqlite_trees.proofs.TreeLemmas.{IsShaped-filter}
use Rattle.sqlite.specs.Edit.{id_in}
use Rattle.sqlite.specs.Effect.{Database, IsDatabase}
use Rattle.sqlite.specs.View.{IsShaped, is_int}
use Rattle.gaz_tables.specs.Shows.{Picks, ShowsAll, ShowsPage}
use Rattle.gaz_sql_facts.proofs.Equal.{compared-Int}
use Rattle.gaz_sql_facts.proofs.Lists.{first_least, has_permuted}
use Rattle.gaz_sql_facts.proofs.Typed.{negated}

tied_unless : (o : Ordering) → is_ne o ≡ false → o ≡ Equal
tied_unless Less h = absurd (cc)
tied_unless Equal h = refl
tied_unless Greater h = absurd (cc)

-- two rows that agree at the places of a unique index are one row
module _ (db : Database) (sound : IsDatabase db) (table : Table) (index : Index) (listed : Has db.schema.tables table) (among : Has db.schema.indexes index) (on_it : guards index table ≡ true)
    (up : IsShaped shape.Table (db.trees table.tree)) where
  int_rowid : (r : Row) → Has (db.trees table.tree) r → is_int (rowid r) ≡ true
  int_rowid r there = all_has (λ x. IsTrue (is_int (rowid x))) (db.trees table.tree) r up.1 there

  same_rowid : (r s : Row) → Has (db.trees table.tree) r → Has (db.trees table.tree) s → agree index.order index.columns s index.columns r ≡ true → differ (rowid s) (rowid r) ≡ false
  same_rowid r s there here same =
      let all = keeps_at Unique db.schema db.trees table r (sound.obeys.rules Unique) listed there in
      let it : not (guards index table && clashes index.order index.columns (db.trees table.tree) r) ≡ true =
      test_has (λ i. not (guards i table && clashes i.order i.columns (db.trees table.tree) r)) db.schema.indexes index all among in
      let none : clashes index.order index.columns (db.trees table.tree) r ≡ false = negated _ (rw on_it at it) in
      elim (cases_Bool (differ (rowid s) (rowid r))) [
        | inl apart ↦
            absurd (let clash : clashes index.order index.columns (db.trees table.tree) r ≡ true =
            some_from (λ other. agree index.order index.columns other index.columns r && differ (rowid other) (rowid r)) (db.trees table.tree) s here (and_from _ _ same apart) in cc)
        | inr equal ↦ equal
      ]

  pub one_row : (r s : Row) → Has (db.trees table.tree) r → Has (db.trees table.tree) s → agree index.order index.columns s index.columns r ≡ true → s ≡ r
  one_row r s there here same =
      let m = int_is (rowid s) (int_rowid s here) in
      let n = int_is (rowid r) (int_rowid r there) in
      let even = rw (m, n) at (same_rowid r s there here same) in
      let tie : int_cmp (id_in (rowid s)) (id_in (rowid r)) ≡ Equal = tied_unless _ (sym (compared-Int Ne (id_in (rowid s)) (id_in (rowid r))) ∙ even) in
      tied_same (db.trees table.tree) s r up.0 here there (rw (m, n) (value_cmp-Int (id_in (rowid s)) (id_in (rowid r)) ∙ tie))

abbrev tied : Row → Row → Bool
tied x y = is_eq (value_cmp (rowid x) (rowid y))

reversed : (o : Ordering) → is_eq (ordering_reverse o) ≡ is_eq o
reversed Less = refl
reversed Equal = refl
reversed Greater = refl

tied_flips : (x y : Row) → tied x y ≡ tied y x
tied_flips x y = ap is_eq (value_cmp_total.antisymm (rowid x) (rowid y)) ∙ reversed (value_cmp (rowid y) (rowid x))

distinct_rows : (rows : List Row) → IsTable rows → IsDistinct tied rows
unfolding IsDistinct
distinct_rows [] up = tt
distinct_rows (x ∷ xs) up = (all_from (λ y. tied x y ≡ false) xs (λ y there. ap is_eq (all_has (λ z. value_cmp (rowid x) (rowid z) ≡ Less) xs y up.0 there)), distinct_rows xs up.1)

tail_sorted : (cmp : Row → Row → Ordering) (x : Row) (xs : List Row) → IsSorted cmp (x ∷ xs) → IsSorted cmp xs
tail_sorted cmp x xs h k d low high = let e : suc k + 1 ≡ suc (k + 1) = omega arith in rw e at (h (suc k) d (omega arith) (omega (arith, high)))

-- rows that are sorted by a column, each once, rise strictly where none shares its value with another
module _ (place : ℕ) where
  abbrev cmp : Row → Row → Ordering
  cmp = on (λ r. column r place) value_cmp

  less_or : (o : Ordering) → (o ≡ Equal → ⊥) → is_lt (ordering_reverse o) ≡ false → o ≡ Less
  less_or Less apart h = refl
  less_or Equal apart h = absurd (apart refl)
  less_or Greater apart h = absurd (cc)

  strictly : (l : List Row) → IsDistinct tied l → IsSorted cmp l → ((r s : Row) → Has l r → Has l s → cmp r s ≡ Equal → r ≡ s) → IsAscending (λ a b. cmp a b ≡ Less) l
  unfolding IsDistinct
  strictly [] once up apart = tt
  strictly (x ∷ xs) once up apart = (
    all_from (λ y. cmp x y ≡ Less) xs (λ y there.
        let late = first_least (λ a b. is_lt (cmp a b)) (ranks_by value_cmp_total (λ r. column r place)) x xs up y (inr there) in
        less_or (cmp x y) (λ tie. let same : x ≡ y = apart x y (inl refl) (inr there) tie in let not_tied = all_has (λ z. tied x z ≡ false) xs y once.0 there in
        let is_tied : tied x y ≡ true = subst (λ z. tied x z ≡ true) same (ap is_eq (tied_itself value_cmp_total (rowid x))) in cc)
        (ap is_lt (sym (value_cmp_total.antisymm (column y place) (column x place))) ∙ late)),
    strictly xs once.1 (tail_sorted cmp x xs up) (λ r s p q. apart r s (inr p) (inr q)),
  )

module _ (Fits : Row → Type 0) (rows : List Row) (up : IsShaped shape.Table rows) where
  picked_once : (chosen : List Row) → Picks Fits rows chosen → IsDistinct tied chosen
  picked_once chosen p = IsDistinct-IsPermutation tied tied_flips _ chosen p.same (distinct_rows _ (IsShaped-filter shape.Table p.test rows up).0)

  picked_fits : (chosen : List Row) (p : Picks Fits rows chosen) (r : Row) → Has chosen r → Has rows r × Fits r
  picked_fits chosen p r there = let it = has_filtered p.test rows r (has_permuted _ chosen r p.same there) in (it.0, p.sound r it.0 it.1)

  -- a page's rows rise strictly where no two that fit share the column's value
  pub page_rises : (place most : ℕ) (show : Row → Row) (answer : List Row) → ((r s : Row) → Has rows r → Has rows s → Fits r → Fits s → value_cmp (column r place) (column s place) ≡ Equal → r ≡ s)
      → (h : ShowsPage Fits place most show rows answer) → IsAscending (λ a b. value_cmp (column a place) (column b place) ≡ Less) h.chosen
  page_rises place most show answer apart h =
      strictly place h.chosen (picked_once h.chosen h.picks) h.rising (λ r s p q. let a = picked_fits h.chosen h.picks r p in let b = picked_fits h.chosen h.picks s q in apart r s a.0 b.0 a.1 b.1)

  few : (l : List Row) → IsDistinct tied l → ((r s : Row) → Has l r → Has l s → r ≡ s) → length l ≤ 1
  unfolding IsDistinct
  few [] once one = omega arith
  few (x ∷ []) once one = omega arith
  few (x ∷ y ∷ more) once one =
      absurd (let same : x ≡ y = one x y (inl refl) (inr (inl refl)) in let not_tied = once.0.0 in let is_tied : tied x y ≡ true = subst (λ z. tied x z ≡ true) same (ap is_eq (tied_itself value_cmp_total (rowid x))) in cc)

  -- at most one row is shown where no two fit
  pub at_most_one : (show : Row → Row) (answer : List Row) → ((r s : Row) → Has rows r → Has rows s → Fits r → Fits s → r ≡ s) → ShowsAll Fits show rows answer → length answer ≤ 1
  at_most_one show answer one h =
      let few_chosen = few h.chosen (picked_once h.chosen h.picks) (λ r s p q. let a = picked_fits h.chosen h.picks r p in let b = picked_fits h.chosen h.picks s q in one r s a.0 b.0 a.1 b.1) in
      let same : length answer ≡ length h.chosen = ap length h.shown ∙ length-map h.chosen show in
      omega (arith, same, few_chosen)
