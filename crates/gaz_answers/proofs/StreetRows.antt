-- What pages of current rows tell of a street and of the parts of a BLPU.
use Rattle.std.proofs.Common.{◌≡◌, ◌∙◌, ◌≤◌, ◌<◌, ◌&&◌, ◌==◌, ℕ, zero, suc, pos, Bool, true, false, List, [], ◌∷◌, drop, length, take, inl, inr, refl, sym, ap, subst, arith, true≢false}
use Rattle.std.specs.Prelude.{◌||◌, Option, None, Some}
use Rattle.std.proofs.Math.Bool.{and_assoc}
use Rattle.std.specs.Option.{option_map_or}
use Rattle.std.specs.List.{list_any}
use Rattle.std.specs.String.{string_bytes}
use Rattle.std.proofs.lemmas.Bool.{and_from, and_parts}
use Rattle.std.proofs.lemmas.List.{length-map, length-take, take_all}
use Rattle.std.specs.Ordering.{is_gt, nat_cmp, ordering_reverse}
use Rattle.std.specs.Cmp.Lexicographic.{nat_list_cmp_total, slice_cmp}
use Rattle.std.specs.declared.cmp.Ordering.TheVariants.{Less}
use Rattle.sqlite.specs.Effect.{Database}
use Rattle.sqlite.specs.Order.{Row, column, value_cmp}
use Rattle.sqlite.specs.declared.types.Value.TheVariants.{Text}
use Rattle.sqlite_rules.specs.Lists.{Has}
use Rattle.sqlite_rules.proofs.ListLemmas.{some_from, some_has}
use Rattle.sqlite_rules.proofs.ProbeLemmas.{has_mapped, mapped_has}
use Rattle.sqlite_value.proofs.OrderLemmas.{value_cmp-Text}
use Rattle.gaz_ids.specs.Codes.{lang_number}
use Rattle.gaz_ids.specs.declared.lang.Lang.{Lang}
use Rattle.gaz_records.specs.Items.{kind_of}
use Rattle.gaz_records.specs.Keys.{key_of}
use Rattle.gaz_records.specs.Kinds.{is_entry_kind, number_of}
use Rattle.gaz_records.specs.declared.item.Item.TheVariants as item
use Rattle.gaz_records.specs.declared.item.Kind.{Kind}
use Rattle.gaz_records.specs.declared.item.Item.{Item}
use Rattle.gaz_records.specs.declared.item.Kind.TheVariants as kind
use Rattle.gaz_records.specs.declared.key.Key.{Key}
use Rattle.gaz_views.specs.View.{View}
use Rattle.gaz_views.specs.Words.{entries, is_approved_on, names}
use Rattle.gaz_cells.specs.Columns.{CellsValue, lang_in}
use Rattle.gaz_cells.proofs.Ids.{ids_back}
use Rattle.gaz_cells.specs.Ids.{id_of, key_named}
use Rattle.gaz_overlay.specs.Changes.{Changes}
use Rattle.gaz_tables.specs.Schema.{received, version2}
use Rattle.gaz_tables.specs.Versions as table
use Rattle.gaz_tables.specs.Versions.{FindsApprovedOn, FindsParts, IsApprovedOn, IsPartOf, id_place, id_shown, lang_shown}
use Rattle.gaz_row_items.specs.Versions.{item_in, number_in, text_in}
use Rattle.gaz_kept.specs.Files.{reached_in}
use Rattle.gaz_kept.specs.Kept.{IsKept, IsVersion}
use Rattle.gaz_kept.specs.LastViews.{last_in}
use Rattle.gaz_answers.specs.Paging.{is_behind, says_lang}
use Rattle.gaz_answers.specs.Streets.{AreBehind, IsStep, IsStepOf, is_left_on, is_left_part, is_left_tied, is_of_blpu, leaves, names_left, says_left}
use Rattle.gaz_answers.specs.declared.steps.Step.{Step}
use Rattle.gaz_answers.specs.declared.steps.Step.TheVariants.{Told, Behind}
use Rattle.gaz_tables.specs.Shows.{ShowsPage}
use Rattle.gaz_tables.specs.Tables.{rows_of}
use Rattle.gaz_answers.proofs.Chosen.{FitJust, chosen_fits, chosen_rises, fit_chosen}
use Rattle.gaz_answers.proofs.Fits.{approved_just, in_lang, key_kind, part_is, parts_just}
use Rattle.gaz_answers.proofs.Holding.{HoldsItem, entry_in_view, entry_of, row_of, said_cells, said_id, said_key, said_text}
use Rattle.gaz_answers.proofs.PageRows.{all_behind}
use Rattle.gaz_answers.proofs.Taken.{before, taken, taken_or_not}

-- ---- lists

any_none : {X : Type 0} (p : X → Bool) (xs : List X) → ((x : X) → Has xs x → ¬ (p x ≡ true)) → list_any p xs ≡ false
any_none p xs none = by_test (list_any p xs) refl
  where
    by_test : (b : Bool) → list_any p xs ≡ b → list_any p xs ≡ false
    by_test true is = let some = some_has p xs is in absurd (none some.0 some.1 some.2)
    by_test false is = is

-- ---- a page of rows that hold entries behind an id

module _ (db : Database) (kept : IsKept db) (c : ℕ) (kd : Kind) (start : List ℕ) (on : Item → Bool) (Fits : Row → Type 0)
    (just : FitJust db c (reached_in (rows_of db received) c) kd (λ e. on e.1 && is_behind start e.0) Fits)
    (most : ℕ) (show : Row → Row) (answer : List Row) (found : ShowsPage Fits id_place most show (rows_of db version2) answer)
    (says : Row → Bool) (passes : Key × Item → Bool)
    (same_test : (r : Row) (x : Item) → Has (rows_of db version2) r → HoldsItem c (reached_in (rows_of db received) c) r x → kind_of x ≡ kd → passes (entry_of x) ≡ (on x && says (show r)))
    (of_kind : (x : Item) → on x ≡ true → kind_of x ≡ kd) (only_on : (e : Key × Item) → passes e ≡ true → on e.1 ≡ true)
    (first_shown : (r : Row) → column (show r) 0 ≡ table.id_of r) where
  abbrev rows : List Row
  rows = rows_of db version2

  abbrev n : ℕ
  n = reached_in (rows_of db received) c

  abbrev v : View
  v = last_in db c

  abbrev left : Key × Item → Bool
  left e = on e.1 && is_behind start e.0

  abbrev fit : (r : Row) → Has found.chosen r → Has rows r × Fits r
  fit = chosen_fits db kept c n kd left Fits just most show answer found

  walk_found : list_any says answer ≡ true → true ≡ list_any passes (entries v)
  walk_found is =
      let s = some_has says answer is in
      let m = has_mapped show (take most found.chosen) s.0 (subst (λ l. Has l s.0) found.shown s.1) in
      let f = fit m.0 (taken most found.chosen m.0 m.1) in
      let a = just.item m.0 f.0 f.1 in
      let is_on = (and_parts (on a.0) (is_behind start (key_of a.0)) a.3).0 in
      let say = ap says (sym m.2) ∙ s.2 in
      let pass = same_test m.0 a.0 f.0 a.1 a.2 ∙ and_from (on a.0) (says (show m.0)) is_on say in
      sym (some_from passes (entries v) (entry_of a.0) (entry_in_view db kept c n m.0 a.0 f.0 a.1) pass)

  -- where no row of the page says it, what there is stands behind the page
  record IsLater (e : Key × Item) : Type 0 where
    row : Row
    there : Has (drop most found.chosen) row
    in_rows : Has rows row
    holds : HoldsItem c n row e.1
    entry : e ≡ entry_of e.1

  later : AreBehind passes v start → list_any says answer ≡ false → (e : Key × Item) → Has (entries v) e → passes e ≡ true → IsLater e
  later behind none e there pass =
      let r = row_of db kept c n e there in
      let is_on = only_on e pass in
      let both = and_parts (on e.1) (says (show r.0)) (sym (same_test r.0 e.1 r.1 r.2 (of_kind e.1 is_on)) ∙ ap passes (sym r.3) ∙ pass) in
      let is_left : left (entry_of e.1) ≡ true = and_from (on e.1) (is_behind start (key_of e.1)) both.0 (ap (λ (f : Key × Item). is_behind start f.0) (sym r.3) ∙ behind e there pass) in
      let fits = just.row r.0 e.1 r.1 r.2 is_left in
      let here = fit_chosen db kept c n kd left Fits just most show answer found r.0 r.1 fits in
      elim (taken_or_not most found.chosen r.0 here) [
        | inl early ↦
            let shown = subst (λ l. Has l (show r.0)) (sym found.shown) (mapped_has show (take most found.chosen) r.0 early) in
            absurd (true≢false (sym (some_from says answer (show r.0) shown both.1) ∙ none))
        | inr late ↦ record { row = r.0; there = late; in_rows = r.1; holds = r.2; entry = r.3 }
      ]

  walk_ends : AreBehind passes v start → list_any says answer ≡ false → length answer < most → false ≡ list_any passes (entries v)
  walk_ends behind none short =
      let m : length answer ≡ length (take most found.chosen) = ap length found.shown ∙ length-map (take most found.chosen) show in
      let k = length-take most found.chosen in
      let all : take most found.chosen ≡ found.chosen = take_all most found.chosen (omega (arith, m, k)) in
      sym (any_none passes (entries v) (λ e there pass.
      let l = later behind none e there pass in
      nothing_left all l.row l.there))
    where
      no_more : (k : ℕ) (xs : List Row) → length xs ≤ k → (r : Row) → ¬ Has (drop k xs) r
      no_more zero [] le r h = h
      no_more zero (x ∷ xs) le r h = absurd (omega arith)
      no_more (suc k) [] le r h = h
      no_more (suc k) (x ∷ xs) le r h = no_more k xs (omega arith) r h

      nothing_left : take most found.chosen ≡ found.chosen → (r : Row) → ¬ Has (drop most found.chosen) r
      nothing_left all r =
          let m : length (take most found.chosen) ≡ length found.chosen = ap length all in
          let k = length-take most found.chosen in
          no_more most found.chosen (omega (arith, m, k)) r

  abbrev Rises : Row → Row → Type 0
  Rises a b = value_cmp (column a id_place) (column b id_place) ≡ Less

  walk_goes_on : AreBehind passes v start → list_any says answer ≡ false → (s : Row) → Has answer s → (t : List ℕ) → column s 0 ≡ Text t → AreBehind passes v t
  walk_goes_on behind none s here t is e there pass =
      let l = later behind none e there pass in
      let m = has_mapped show (take most found.chosen) s (subst (λ l. Has l s) found.shown here) in
      let up = chosen_rises db kept c n kd left Fits just most show answer found in
      let less = before Rises most found.chosen m.0 l.row up m.1 l.there in
      let first : table.id_of m.0 ≡ Text t = sym (first_shown m.0) ∙ ap (λ (x : Row). column x 0) (sym m.2) ∙ is in
      let last = said_text l.row (kept.rows l.row l.in_rows) e.1 l.holds.item in
      let texts : slice_cmp nat_cmp t (id_of (key_of e.1)) ≡ Less = sym (value_cmp-Text t (id_of (key_of e.1))) ∙ (λ i. value_cmp (sym first i) (sym last i)) ∙ less in
      ap (λ (f : Key × Item). is_behind t f.0) l.entry
      ∙ ap is_gt (nat_list_cmp_total.antisymm (id_of (key_of e.1)) t ∙ ap ordering_reverse texts)

  pub walk_told : (step : Step) → IsStepOf most answer says step → IsStep passes v start step
  walk_told (Told true) h behind = walk_found h
  walk_told (Told false) h behind = walk_ends behind h.0 h.1
  walk_told (Behind id) h behind = walk_goes_on behind h.0 h.1.0 h.1.1 (string_bytes id) h.1.2

-- at first all are behind
pub walk_begins : (db : Database) → IsKept db → (c : ℕ) (passes : Key × Item → Bool) → AreBehind passes (last_in db c) []
walk_begins db kept c passes e there pass =
    let r = row_of db kept c (reached_in (rows_of db received) c) e there in
    ap (λ (f : Key × Item). is_behind [] f.0) r.3 ∙ all_behind (key_of e.1) (said_key r.0 (kept.rows r.0 r.1) e.1 r.2.item)

-- ---- a page of a street

-- a row names the key of the item that it holds
pub named : (r : Row) (v : IsVersion r) (x : Item) → item_in r ≡ Some x → (k : Kind) → kind_of x ≡ k → key_named k (text_in (table.id_of r)) ≡ Some (key_of x)
named r v x is k of_kind = ap (key_named k) (said_id r v x is) ∙ ap (λ m. key_named m (id_of (key_of x))) (sym (key_kind r v x is ∙ of_kind)) ∙ ids_back (key_of x) (said_key r v x is)

an_lpi : (usrn : ℕ) (x : Item) → is_approved_on usrn None x ≡ true → kind_of x ≡ kind.Lpi
an_lpi usrn (item.Street x) on = cc
an_lpi usrn (item.Descriptor x) on = cc
an_lpi usrn (item.Blpu x) on = cc
an_lpi usrn (item.Xref x) on = cc
an_lpi usrn (item.Release x) on = cc
an_lpi usrn (item.Adopt x) on = cc
an_lpi usrn (item.Lpi x) on = refl

module _ (db : Database) (kept : IsKept db) (c usrn : ℕ) (lang : Option Lang) (passed : Option Changes) (start : List ℕ) (most : ℕ) (answer : List Row) (found : FindsApprovedOn c usrn start most (rows_of db version2) answer) where
  lang_cell : (r : Row) (x : Item) → Has (rows_of db version2) r → HoldsItem c (reached_in (rows_of db received) c) r x → lang_in x ≡ number_in (table.lang_of r)
  lang_cell r x there h = ap (λ (d : CellsValue). d.links.lang) (said_cells r (kept.rows r there) x h.item)

  -- the test on an item is that on its row, once it is on the street
  street_test : (r : Row) (x : Item) → Has (rows_of db version2) r → HoldsItem c (reached_in (rows_of db received) c) r x → kind_of x ≡ kind.Lpi
      → is_left_on usrn lang passed (entry_of x) ≡ (is_approved_on usrn None x && says_left lang passed (lang_shown r))
  street_test r x there h of_kind =
      ap (λ b. b && leaves passed (Some (key_of x)))
      (in_lang x usrn lang ∙ ap (λ m. is_approved_on usrn None x && option_map_or (λ l. m == lang_number l) lang true) (lang_cell r x there h))
      ∙ and_assoc (is_approved_on usrn None x) (says_lang lang (lang_shown r)) (leaves passed (Some (key_of x)))
      ∙ ap (λ k. is_approved_on usrn None x && (says_lang lang (lang_shown r) && leaves passed k)) (sym (named r (kept.rows r there) x h.item kind.Lpi of_kind))

  pub street_told : (step : Step) → IsStepOf most answer (says_left lang passed) step → IsStep (is_left_on usrn lang passed) (last_in db c) start step
  street_told =
      walk_told db kept c kind.Lpi start (is_approved_on usrn None) (IsApprovedOn c usrn start) (approved_just db kept c usrn start) most lang_shown answer found
      (says_left lang passed) (is_left_on usrn lang passed) street_test (an_lpi usrn) still_on (λ r. refl)
    where
      still_on : (e : Key × Item) → is_left_on usrn lang passed e ≡ true → is_approved_on usrn None e.1 ≡ true
      still_on e pass =
          let on = (and_parts (is_approved_on usrn lang e.1) (leaves passed (Some e.0)) pass).0 in
          (and_parts (is_approved_on usrn None e.1) (option_map_or (λ l. lang_in e.1 == lang_number l) lang true) (sym (in_lang e.1 usrn lang) ∙ on)).0

-- ---- a page of what names a BLPU

module _ (db : Database) (kept : IsKept db) (c : ℕ) (kd : Kind) (kind_entry : is_entry_kind kd ≡ true) (uprn : ℕ) (some : 1 ≤ uprn) (passed : Option Changes) (start : List ℕ) (most : ℕ) (answer : List Row)
    (found : FindsParts c (number_of kd) (pos uprn) start most (rows_of db version2) answer) where
  part_test : (r : Row) (x : Item) → Has (rows_of db version2) r → HoldsItem c (reached_in (rows_of db received) c) r x → kind_of x ≡ kd
      → is_left_part kd uprn passed (entry_of x) ≡ (is_of_blpu kd uprn x && names_left kd passed (id_shown r))
  part_test r x there h of_kind = ap (λ k. is_of_blpu kd uprn x && leaves passed k) (sym (named r (kept.rows r there) x h.item kd of_kind))

  pub parts_told : (step : Step) → IsStepOf most answer (names_left kd passed) step → IsStep (is_left_part kd uprn passed) (last_in db c) start step
  parts_told =
      walk_told db kept c kd start (is_of_blpu kd uprn) (IsPartOf c (number_of kd) (pos uprn) start) (parts_just db kept c kd kind_entry uprn some start) most id_shown answer found
      (names_left kd passed) (is_left_part kd uprn passed) part_test (λ x on. (part_is kd x uprn on).0) (λ e pass. (and_parts (is_of_blpu kd uprn e.1) (leaves passed (Some e.0)) pass).0) (λ r. refl)

-- an LPI or a cross reference names it
names_parts : (uprn : ℕ) (x : Item) → names uprn x ≡ (is_of_blpu kind.Lpi uprn x || is_of_blpu kind.Xref uprn x)
names_parts uprn (item.Street x) = refl
names_parts uprn (item.Descriptor x) = refl
names_parts uprn (item.Blpu x) = refl
names_parts uprn (item.Xref x) = refl
names_parts uprn (item.Lpi x) = by_test (x.uprn == uprn)
  where
    by_test : (b : Bool) → b ≡ (b || false)
    by_test true = refl
    by_test false = refl
names_parts uprn (item.Release x) = refl
names_parts uprn (item.Adopt x) = refl

-- so one of the view is tied by one of either kind
pub tied_parts : (uprn : ℕ) (passed : Option Changes) (es : List (Key × Item)) → list_any (is_left_tied uprn passed) es
    ≡ (list_any (is_left_part kind.Lpi uprn passed) es || list_any (is_left_part kind.Xref uprn passed) es)
tied_parts uprn passed [] = refl
tied_parts uprn passed (e ∷ es) =
    (λ i. (names_parts uprn e.1 i && leaves passed (Some e.0)) || tied_parts uprn passed es i)
    ∙ by_tests (is_of_blpu kind.Lpi uprn e.1) (is_of_blpu kind.Xref uprn e.1) (leaves passed (Some e.0)) (list_any (is_left_part kind.Lpi uprn passed) es) (list_any (is_left_part kind.Xref uprn passed) es)
  where
    by_tests : (a b l x y : Bool) → (((a || b) && l) || (x || y)) ≡ (((a && l) || x) || ((b && l) || y))
    by_tests true true true x y = refl
    by_tests true false true x y = refl
    by_tests false true true true y = refl
    by_tests false true true false y = refl
    by_tests false false l x y = refl
    by_tests true true false x y = refl
    by_tests true false false x y = refl
    by_tests false true false x y = refl

-- ---- what is left of a view where nothing is passed over, or what changes haven't touched

-- where nothing is passed over it is all there is
pub all_left : (test : Key × Item → Bool) (es : List (Key × Item)) → list_any (λ e. test e && true) es ≡ list_any test es
all_left test [] = refl
all_left test (e ∷ es) = (λ i. and_true (test e) i || all_left test es i)
  where
    and_true : (b : Bool) → (b && true) ≡ b
    and_true true = refl
    and_true false = refl

pub any_same : (p q : Key × Item → Bool) (es : List (Key × Item)) → ((e : Key × Item) → Has es e → p e ≡ q e) → list_any p es ≡ list_any q es
any_same p q [] same = refl
any_same p q (e ∷ es) same = λ i. same e (inl refl) i || any_same p q es (λ f there. same f (inr there)) i
