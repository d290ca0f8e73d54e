-- The rows that a page chooses, and the entries of a view that pass a test.
use Rattle.std.proofs.Common.{◌≡◌, ◌∙◌, ℕ, Bool, true, T, List, [], ◌∷◌, filter, map, take, inl, inr, refl, sym, ap, subst}
use Rattle.std.specs.Prelude.{Option, Some, option_map}
use Rattle.std.specs.FinMap as finite
use Rattle.std.specs.FinMap.{is_sorted}
use Rattle.std.specs.List.{cons_option, filter_map}
use Rattle.std.specs.declared.cmp.Ordering.TheVariants.{Less, Equal}
use Rattle.sqlite.specs.Effect.{Database}
use Rattle.sqlite.specs.Order.{Row, column, value_cmp}
use Rattle.sqlite_rules.specs.Lists.{Has}
use Rattle.sqlite_rules.proofs.ListLemmas.{all_has, has_filtered, has_kept}
use Rattle.sqlite_trees.specs.Tree.{IsAscending}
use Rattle.gaz_records.proofs.KeyOrder.{keys_exact, keys_total}
use Rattle.gaz_records.specs.Items.{is_entry, kind_of}
use Rattle.gaz_records.specs.Keys.{key_cmp, key_of, kind_number}
use Rattle.gaz_records.specs.Kinds.{number_of}
use Rattle.gaz_records.specs.declared.item.Item.{Item}
use Rattle.gaz_records.specs.declared.item.Item.TheVariants as item
use Rattle.gaz_records.specs.declared.item.Kind.{Kind}
use Rattle.gaz_records.specs.declared.key.Key.{Key}
use Rattle.gaz_views.specs.View.{View}
use Rattle.gaz_views.specs.Words.{entries}
use Rattle.gaz_overlay.specs.Rows.{HistoryRow}
use Rattle.gaz_sql_facts.proofs.Lists.{has_permuted, permuted_has}
use Rattle.gaz_tables.proofs.Unique.{page_rises}
use Rattle.gaz_tables.specs.Schema.{version2}
use Rattle.gaz_tables.specs.Shows.{ShowsPage}
use Rattle.gaz_tables.specs.Versions.{id_place}
use Rattle.gaz_tables.specs.Tables.{rows_of}
use Rattle.gaz_row_items.specs.Versions.{history_in, view_in}
use Rattle.gaz_kept.specs.Kept.{IsKept}
use Rattle.gaz_answers.proofs.Holding.{HoldsItem, by_rows, entry_in_view, entry_of, one_row, row_of, said_entry, said_history}
use Rattle.gaz_kept.proofs.Sorted.{same_sorted, sorted_filter, sorted_from, taken_read}
use Rattle.gaz_kept.proofs.RowsRead.{read_from, read_in, some_same}

-- the number of a key is that of its entry's kind
pub kind_of_key : (x : Item) → is_entry x ≡ true → kind_number (key_of x) ≡ number_of (kind_of x)
kind_of_key (item.Street x) h = refl
kind_of_key (item.Descriptor x) h = refl
kind_of_key (item.Blpu x) h = refl
kind_of_key (item.Xref x) h = refl
kind_of_key (item.Lpi x) h = refl
kind_of_key (item.Release x) h = cc
kind_of_key (item.Adopt x) h = cc

-- the rows that fit are just those that hold an item of a kind whose entry passes a test
pub record FitJust (db : Database) (c t : ℕ) (k : Kind) (p : Key × Item → Bool) (Fits : Row → Type 0) : Type 0 where
  pub item : (r : Row) → Has (rows_of db version2) r → Fits r → (x : Item) × HoldsItem c t r x × (kind_of x ≡ k) × (p (entry_of x) ≡ true)
  pub row : (r : Row) (x : Item) → Has (rows_of db version2) r → HoldsItem c t r x → p (entry_of x) ≡ true → Fits r

-- what a row has in its custodian's view
abbrev entry_in : ℕ → Row → Option (Key × Item)
entry_in c r = option_map (λ h. (h.key, h.item)) (history_in c r)

module _ (db : Database) (kept : IsKept db) (c t : ℕ) (k : Kind) (p : Key × Item → Bool) (Fits : Row → Type 0) (just : FitJust db c t k p Fits) where
  abbrev rows : List Row
  rows = rows_of db version2

  abbrev v : View
  v = view_in rows c t

  entry_is : (r : Row) (x : Item) → Has rows r → HoldsItem c t r x → entry_in c r ≡ Some (entry_of x)
  entry_is r x there h = ap (option_map (λ (h : HistoryRow). (h.key, h.item))) (said_history r (kept.rows r there) x h.item c h.cust)

  -- of rows that fit, keys are in the order of ids
  ordered : (r s : Row) → Has rows r → Has rows s → (fr : Fits r) (fs : Fits s) (hr : Has rows r) (hs : Has rows s)
      → key_cmp (key_of (just.item r hr fr).0) (key_of (just.item s hs fs).0) ≡ value_cmp (column r id_place) (column s id_place)
  ordered r s _ _ fr fs hr hs =
      let a = just.item r hr fr in
      let b = just.item s hs fs in
      let one = kind_of_key a.0 (said_entry r (kept.rows r hr) a.0 a.1.item) in
      let other = kind_of_key b.0 (said_entry s (kept.rows s hs) b.0 b.1.item) in
      by_rows r s a.0 b.0 (kept.rows r hr) (kept.rows s hs) a.1.item b.1.item (one ∙ ap number_of (a.2 ∙ sym b.2) ∙ sym other)

  apart : (r s : Row) → Has rows r → Has rows s → Fits r → Fits s → value_cmp (column r id_place) (column s id_place) ≡ Equal → r ≡ s
  apart r s hr hs fr fs tie =
      let a = just.item r hr fr in
      let b = just.item s hs fs in
      one_row db kept c t r s a.0 b.0 hr hs a.1 b.1 (keys_exact (key_of a.0) (key_of b.0) (ordered r s hr hs fr fs hr hs ∙ tie))

  abbrev Rises : List Row → Type 0
  Rises l = IsAscending (λ a b. value_cmp (column a id_place) (column b id_place) ≡ Less) l

  module _ (most : ℕ) (show : Row → Row) (answer : List Row) (h : ShowsPage Fits id_place most show rows answer) where
    pub chosen_fits : (r : Row) → Has h.chosen r → Has rows r × Fits r
    chosen_fits r there =
        let it = has_filtered h.picks.test rows r (has_permuted _ h.chosen r h.picks.same there) in
        (it.0, h.picks.sound r it.0 it.1)

    pub fit_chosen : (r : Row) → Has rows r → Fits r → Has h.chosen r
    fit_chosen r there fits = permuted_has _ h.chosen r h.picks.same (has_kept h.picks.test rows r there (h.picks.complete r there fits))

    pub chosen_rises : Rises h.chosen
    chosen_rises = page_rises Fits rows kept.tables.versions_shaped id_place most show answer apart h

    entries_rise : (l : List Row) → ((r : Row) → Has l r → Has rows r × Fits r) → Rises l → T (is_sorted key_cmp (filter_map (entry_in c) l))
    entries_rise [] each up = tt
    entries_rise (r ∷ l) each up =
        let here = each r (inl refl) in
        let a = just.item r here.0 here.1 in
        subst (λ o. T (is_sorted key_cmp (cons_option o (filter_map (entry_in c) l)))) (sym (entry_is r a.0 here.0 a.1))
        (sorted_from key_cmp (entry_of a.0) (filter_map (entry_in c) l)
        (λ f there.
        let s = read_from (entry_in c) l f there in
        let later = each s.0 (inr s.1) in
        let b = just.item s.0 later.0 later.1 in
        let same : entry_of b.0 ≡ f = some_same (entry_of b.0) f (entry_is s.0 b.0 later.0 b.1) s.2 in
        subst (λ (e : Key × Item). key_cmp (key_of a.0) e.0 ≡ Less) same
        (ordered r s.0 here.0 later.0 here.1 later.1 here.0 later.0 ∙ all_has (λ s. value_cmp (column r id_place) (column s id_place) ≡ Less) l s.0 up.0 s.1))
        (entries_rise l (λ s there. each s (inr there)) up.1))

    -- they are the entries that pass
    pub chosen_is : filter_map (entry_in c) h.chosen ≡ filter p (entries v)
    chosen_is = same_sorted keys_total keys_exact (filter_map (entry_in c) h.chosen) (filter p (entries v))
        (entries_rise h.chosen chosen_fits chosen_rises)
        (sorted_filter key_cmp p (entries v) (finite.entries_sorted v.items))
        (λ e there.
        let r = read_from (entry_in c) h.chosen e there in
        let fit = chosen_fits r.0 r.1 in
        let a = just.item r.0 fit.0 fit.1 in
        let same : entry_of a.0 ≡ e = some_same (entry_of a.0) e (entry_is r.0 a.0 fit.0 a.1) r.2 in
        subst (Has (filter p (entries v))) same (has_kept p (entries v) (entry_of a.0) (entry_in_view db kept c t r.0 a.0 fit.0 a.1) a.3))
        (λ e there.
        let it = has_filtered p (entries v) e there in
        let r = row_of db kept c t e it.0 in
        let fits = just.row r.0 e.1 r.1 r.2 (subst (λ (f : Key × Item). p f ≡ true) r.3 it.1) in
        read_in (entry_in c) h.chosen r.0 e (fit_chosen r.0 r.1 fits) (entry_is r.0 e.1 r.1 r.2 ∙ ap Some (sym r.3)))

    -- and the answer is read as what the first so many of these have
    pub page_read : {Y : Type 0} (read : Row → Option Y) (g : Key × Item → Y)
        → ((r : Row) (x : Item) → Has rows r → HoldsItem c t r x → kind_of x ≡ k → read (show r) ≡ Some (g (entry_of x)))
        → (ys : List Y) → map read answer ≡ map Some ys → ys ≡ take most (map g (filter p (entries v)))
    page_read read g reads ys is =
        taken_read (entry_in c) show read g h.chosen
        (λ r there.
        let fit = chosen_fits r there in
        let a = just.item r fit.0 fit.1 in
        (entry_of a.0, entry_is r a.0 fit.0 a.1, reads r a.0 fit.0 a.1 a.2))
        most ys (ap (map read) (sym h.shown) ∙ is)
        ∙ ap (λ l. take most (map g l)) chosen_is
