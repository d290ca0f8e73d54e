-- The keys under a mark whose items have it are those of all items that have it.
use Rattle.std.proofs.Common.{◌≡◌, ◌&&◌, ◌||◌, Bool, true, false, not, cond, List, [], ◌∷◌, refl, sym, ap, subst, ◌∙◌, ℕ}
use Rattle.std.specs.Prelude.{Option, Some, None, filter, option_map, ◌==◌}
use Rattle.std.proofs.lemmas.List.Kept.{IsStrictlySortedBy-filter}
use Rattle.std.proofs.lemmas.Map.Views.{any-filter_same}
use Rattle.std.specs.FinMap.{find}
use Rattle.std.specs.List.{cons_option, filter_map, list_any}
use Rattle.std.specs.List.Sorted.{IsStrictlySortedBy}
use Rattle.std.specs.Map.{keys_of}
use Rattle.std.specs.Option.{IfSome, option_and_then, option_map_or}
use Rattle.std.specs.Ordering.{eq_by_cmp}
use Rattle.gaz_ids.specs.declared.lang.Lang.{Lang}
use Rattle.gaz_ids.specs.declared.lang.Lang.TheVariants.{Cym, Eng}
use Rattle.gaz_records.specs.Keys.{key_cmp}
use Rattle.gaz_records.specs.declared.item.Item.{Item}
use Rattle.gaz_records.specs.declared.item.Item.TheVariants as item
use Rattle.gaz_records.specs.declared.key.Key.{Key}
use Rattle.gaz_views.proofs.SameKeys.{same_key}
use Rattle.gaz_views.specs.Words.{first_of, is_approved, is_approved_on, is_in}
use Rattle.gaz_standing.proofs.Marks.{marks_exact}
use Rattle.gaz_standing.proofs.Passing.{Ascends, Row, first_row, has, held, is_cons, rows_ascend, same_keys, some_keys, some_kept}
use Rattle.gaz_standing.specs.Indexes.{FindsAll, has_mark, is_under, keys_under, marked_at, marked_item, same_mark}
use Rattle.gaz_standing.specs.declared.index.Index.{Index}
use Rattle.gaz_standing.specs.declared.index.Mark.{Mark}

module _ (m : Mark) where
  abbrev pub passes : Row → Bool
  passes e = has_mark m e.1

  -- the first marked item is the one under the first key that has one
  first_item : (es : List Row) (ks : List Key) → first_of (filter_map (marked_item es m) ks) ≡ option_and_then (λ k. find key_cmp k es) (first_of (filter (marked_at es m) ks))
  first_item es [] = refl
  first_item es (k ∷ ks) = by_item (first_item es ks) (find key_cmp k es) refl
    where
      more : List Item
      more = filter_map (marked_item es m) ks

      others : List Key
      others = filter (marked_at es m) ks

      Rest : Type 0
      Rest = first_of more ≡ option_and_then (λ q. find key_cmp q es) (first_of others)

      by_mark : Rest → (i : Item) → find key_cmp k es ≡ Some i → (b : Bool) → first_of (cons_option (cond b (Some i) None) more) ≡ option_and_then (λ q. find key_cmp q es) (first_of (cond b (k ∷ others) others))
      by_mark rest i there true = sym there
      by_mark rest i there false = rest

      by_item : Rest → (o : Option Item) → find key_cmp k es ≡ o → first_of (cons_option (option_and_then (λ i. cond (has_mark m i) (Some i) None) o) more) ≡ option_and_then (λ q. find key_cmp q es) (first_of (cond (option_map_or (has_mark m) o false) (k ∷ others) others))
      by_item rest None there = rest
      by_item rest (Some i) there = by_mark rest i there (has_mark m i)

  module _ (es : List Row) (ks : List Key) (ascend : Ascends (keys_of es)) (in_order : Ascends ks) (finds : (k : Key) → IfSome (find key_cmp k es) (λ i. has_mark m i ≡ true → has ks k ≡ true)) where
    found : (q : Key) (o : Option Item) → IfSome o (λ i. has_mark m i ≡ true → has ks q ≡ true) → (option_map_or (has_mark m) o false && has ks q) ≡ option_map_or (has_mark m) o false
    found q None h = refl
    found q (Some i) h = by_mark (has_mark m i) refl
      where
        by_mark : (b : Bool) → has_mark m i ≡ b → (b && has ks q) ≡ b
        by_mark true is = h is
        by_mark false is = refl

    pub marked_keys : filter (marked_at es m) ks ≡ keys_of (filter passes es)
    marked_keys = same_keys _ _ (IsStrictlySortedBy-filter key_cmp (marked_at es m) ks in_order) (rows_ascend passes es ascend) (λ q.
        any-filter_same (eq_by_cmp key_cmp q) (marked_at es m) (marked_at es m q) (λ k is. ap (marked_at es m) (sym (same_key q k is))) ks
        ∙ found q (find key_cmp q es) (finds q) ∙ sym (held (has_mark m) es ascend q))

    pub any_marked : list_any (marked_at es m) ks ≡ list_any passes es
    any_marked = some_kept (marked_at es m) ks ∙ ap is_cons marked_keys ∙ some_keys (filter passes es) ∙ sym (some_kept passes es)

    pub first_marked : first_of (filter_map (marked_item es m) ks) ≡ option_map (λ (e : Row). e.1) (first_of (filter passes es))
    first_marked = first_item es ks ∙ ap (λ l. option_and_then (λ k. find key_cmp k es) (first_of l)) marked_keys ∙ first_row passes es ascend

-- ---- whichever language

either_row : (p q r : Row → Bool) → ((e : Row) → p e ≡ (q e || r e)) → (es : List Row) → list_any p es ≡ (list_any q es || list_any r es)
either_row p q r h [] = refl
either_row p q r h (e ∷ es) = (λ i. h e i || either_row p q r h es i) ∙ swapped (q e) (r e) (list_any q es) (list_any r es)
  where
    swapped : (a b c d : Bool) → ((a || b) || (c || d)) ≡ ((a || c) || (b || d))
    swapped true b c d = refl
    swapped false true true d = refl
    swapped false true false d = refl
    swapped false false c d = refl

either_lang : (usrn : ℕ) (i : Item) → is_approved_on usrn None i ≡ (is_approved_on usrn (Some Cym) i || is_approved_on usrn (Some Eng) i)
either_lang usrn (item.Street x) = refl
either_lang usrn (item.Descriptor x) = refl
either_lang usrn (item.Blpu x) = refl
either_lang usrn (item.Xref x) = refl
either_lang usrn (item.Release x) = refl
either_lang usrn (item.Adopt x) = refl
either_lang usrn (item.Lpi l) = both (is_approved l.status) (l.usrn == usrn) l.lang
  where
    both : (a b : Bool) (l : Lang) → (a && b && true) ≡ ((a && b && is_in (Some Cym) l) || (a && b && is_in (Some Eng) l))
    both false b l = refl
    both true false l = refl
    both true true Cym = refl
    both true true Eng = refl

pub any_lang : (usrn : ℕ) (es : List Row) → list_any (λ e. is_approved_on usrn None e.1) es ≡ (list_any (λ e. is_approved_on usrn (Some Cym) e.1) es || list_any (λ e. is_approved_on usrn (Some Eng) e.1) es)
any_lang usrn es = either_row _ _ _ (λ e. either_lang usrn e.1) es

-- ---- finding goes on where the index or the items change

module _ (x y : Index) (es : List Row) where
  -- a key is taken from under a mark that its item hasn't
  pub still_finds : (mark : Mark) (key : Key) → FindsAll x es → marked_at es mark key ≡ false
      → ((m : Mark) (k : Key) → is_under y m k ≡ (not (same_mark mark m && eq_by_cmp key_cmp key k) && is_under x m k)) → FindsAll y es
  still_finds mark key finds without less m k = by_item (find key_cmp k es) refl (finds m k)
    where
      by_same : (i : Item) → find key_cmp k es ≡ Some i → has_mark m i ≡ true → (a : Bool) → same_mark mark m ≡ a → (b : Bool) → eq_by_cmp key_cmp key k ≡ b → is_under x m k ≡ true → (not (a && b) && is_under x m k) ≡ true
      by_same i there is true at true at' under =
          let other : marked_at es mark key ≡ true =
          (λ j. marked_at es (marks_exact mark m at j) (same_key key k at' j)) ∙ ap (λ (o : Option Item). option_map_or (has_mark m) o false) there ∙ is in
          cc
      by_same i there is true at false at' under = under
      by_same i there is false at b at' under = under

      by_item : (o : Option Item) → find key_cmp k es ≡ o → IfSome o (λ i. has_mark m i ≡ true → is_under x m k ≡ true) → IfSome o (λ i. has_mark m i ≡ true → is_under y m k ≡ true)
      by_item None there h = tt
      by_item (Some i) there h = λ is. less m k ∙ by_same i there is (same_mark mark m) refl (eq_by_cmp key_cmp key k) refl (h is)

  -- more is under marks
  pub finds_with_more : FindsAll x es → ((m : Mark) (k : Key) → is_under x m k ≡ true → is_under y m k ≡ true) → FindsAll y es
  finds_with_more finds more m k = by_item (find key_cmp k es) (finds m k)
    where
      by_item : (o : Option Item) → IfSome o (λ i. has_mark m i ≡ true → is_under x m k ≡ true) → IfSome o (λ i. has_mark m i ≡ true → is_under y m k ≡ true)
      by_item None h = tt
      by_item (Some i) h = λ is. more m k (h is)

-- ---- what an index that finds all gives

module _ (x : Index) (es : List Row) (m : Mark) (ascend : Ascends (keys_of es)) (finds : FindsAll x es) where
  under_these : (ks : List Key) → ks ≡ keys_under x m → (k : Key) → IfSome (find key_cmp k es) (λ i. has_mark m i ≡ true → has ks k ≡ true)
  under_these ks is k = subst (λ l. IfSome (find key_cmp k es) (λ i. has_mark m i ≡ true → has l k ≡ true)) (sym is) (finds m k)

  nothing_ascends : Ascends []
  unfolding IsStrictlySortedBy
  nothing_ascends = tt

  pub any_under : (ks : List Key) → Ascends ks → ks ≡ keys_under x m → list_any (marked_at es m) ks ≡ list_any (λ e. has_mark m e.1) es
  any_under ks in_order is = any_marked m es ks ascend in_order (under_these ks is)

  pub none_under : [] ≡ keys_under x m → false ≡ list_any (λ e. has_mark m e.1) es
  none_under is = any_under [] nothing_ascends is

  pub first_under : (ks : List Key) → Ascends ks → ks ≡ keys_under x m → first_of (filter_map (marked_item es m) ks) ≡ option_map (λ (e : Row). e.1) (first_of (filter (λ e. has_mark m e.1) es))
  first_under ks in_order is = first_marked m es ks ascend in_order (under_these ks is)

  pub no_first : [] ≡ keys_under x m → None ≡ option_map (λ (e : Row). e.1) (first_of (filter (λ e. has_mark m e.1) es))
  no_first is = first_under [] nothing_ascends is

  pub marked_under : (ks : List Key) → Ascends ks → ks ≡ keys_under x m → filter (marked_at es m) ks ≡ keys_of (filter (λ e. has_mark m e.1) es)
  marked_under ks in_order is = marked_keys m es ks ascend in_order (under_these ks is)

  pub nothing_under : [] ≡ keys_under x m → [] ≡ keys_of (filter (λ e. has_mark m e.1) es)
  nothing_under is = marked_under [] nothing_ascends is
