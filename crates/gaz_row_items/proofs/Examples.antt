-- What the definitions come to on worked examples.
use Rattle.std.proofs.Common.{◌≡◌, ◌∙◌, ◌≤◌, ◌||◌, ◌==◌, ℕ, pos, Bool, true, false, cond, true≢false, List, [], ◌∷◌, inl, inr, refl, sym, ap, subst, arith}
use Rattle.std.specs.Prelude.{Some, None, Ok}
use Rattle.std.specs.Result.{result_ok}
use Rattle.std.specs.FinMap as finite
use Rattle.std.specs.FinSet as set
use Rattle.std.specs.List.{cons_option}
use Rattle.sqlite.specs.declared.types.Value.{Value}
use Rattle.sqlite.specs.declared.types.Value.TheVariants.{Int}
use Rattle.sqlite.specs.Order.{Row}
use Rattle.sqlite_rules.proofs.ListLemmas.{all_has}
use Rattle.gaz_records.proofs.ItemsBack.{text-back}
use Rattle.gaz_records.proofs.KeyOrder.{keys_total}
use Rattle.gaz_records.specs.Items.{is_entry, is_item}
use Rattle.gaz_records.specs.declared.item.Item.{Item}
use Rattle.gaz_records.specs.declared.key.Key.{Key}
use Rattle.gaz_records.specs.declared.key.Key.TheVariants as key
use Rattle.gaz_views.specs.Examples.{street}
use Rattle.gaz_views.specs.View.{was_used}
use Rattle.gaz_cells.proofs.CellsBack.{cells_back}
use Rattle.gaz_cells.specs.Columns.{cells_of}
use Rattle.gaz_cells.specs.Reading.{read_cells}
use Rattle.gaz_overlay.proofs.StandingRows.{item_after, stands, used_after, uses}
use Rattle.gaz_overlay.specs.Passages.{has_passed, passed_keys}
use Rattle.gaz_overlay.specs.Changes.{was_there}
use Rattle.gaz_overlay.specs.Rows.{HistoryRow, never, view_after}
use Rattle.gaz_overlay.specs.declared.touch.Stood.TheVariants.{NoRow, Past, Since}
use Rattle.gaz_row_items.specs.Examples.{WorkedExamples, WorkedNewest, WorkedViews, changed, changed_101_life, inserted_101, changed_101, four_rows, memory_of_102, of_1002, row_101}
use Rattle.gaz_row_items.specs.Newest.{IsNewest, IsNewestUntil, stood_of}
use Rattle.gaz_row_items.specs.Versions.{histories_in, history_in, item_in, living, passages_in, values_of, view_in}
use Rattle.gaz_row_items.proofs.CustodyFollows.{no_passage}
use Rattle.gaz_row_items.proofs.PassagesAt.{never_passed}
use Rattle.gaz_row_items.proofs.Unsaid.{passage_none}
use Rattle.gaz_row_items.proofs.Said.{cells_same, not_another, says}

-- ---- histories

reads : (x : Item) → is_item x ≡ true → is_entry x ≡ true → read_cells (cells_of x) ≡ Ok x
reads x is entry = cells_back x entry (text-back x is)

pub said : (id : Value) (c born gone : ℕ) (x : Item) → is_item x ≡ true → is_entry x ≡ true → history_in c (id ∷ values_of c born gone x) ≡ Some (living born gone x)
said id c born gone x is entry = says id c born gone x (reads x is entry)

pub said_item : (id : Value) (c born gone : ℕ) (x : Item) → is_item x ≡ true → is_entry x ≡ true → item_in (id ∷ values_of c born gone x) ≡ Some x
said_item id c born gone x is entry = ap (λ d. result_ok (read_cells d)) (cells_same id c born gone x) ∙ ap result_ok (reads x is entry)

other : ¬ (◌≡◌ {A = ℕ} 1002 1001)
other e = absurd (omega arith)

pub histories_1001 : histories_in four_rows 1001 ≡ living 1 2 (street 101) ∷ living 2 4 changed ∷ living 2 2 (street 102) ∷ []
histories_1001 = λ i.
    cons_option (said (Int (pos 1)) 1001 1 2 (street 101) refl refl i)
    (cons_option (said (Int (pos 2)) 1001 2 4 changed refl refl i)
    (cons_option (said (Int (pos 3)) 1001 2 2 (street 102) refl refl i)
    (cons_option (not_another (Int (pos 4)) 1002 1001 1 1000000 (street 101) other i) [])))

histories_1002 : histories_in four_rows 1002 ≡ living 1 1000000 (street 101) ∷ []
histories_1002 = λ i.
    cons_option (not_another (Int (pos 1)) 1001 1002 1 2 (street 101) (λ e. other (sym e)) i)
    (cons_option (not_another (Int (pos 2)) 1001 1002 2 4 changed (λ e. other (sym e)) i)
    (cons_option (not_another (Int (pos 3)) 1001 1002 2 2 (street 102) (λ e. other (sym e)) i)
    (cons_option (said (Int (pos 4)) 1002 1 1000000 (street 101) refl refl i) [])))

-- rows of items pass nothing on
pub none_passed : (c : ℕ) → passages_in four_rows c ≡ []
none_passed c = λ i.
    cons_option (passage_none c row_101 (no_passage row_101 refl) i)
    (cons_option (passage_none c changed_101 (no_passage changed_101 refl) i)
    (cons_option (passage_none c memory_of_102 (no_passage memory_of_102 refl) i)
    (cons_option (passage_none c of_1002 (no_passage of_1002 refl) i) [])))

or_none : (b : Bool) → (b || false) ≡ b
or_none true = refl
or_none false = refl

used_alone : (rows : List Row) (c t : ℕ) (q : Key) → passages_in rows c ≡ [] → was_used (view_in rows c t) q ≡ was_used (view_after (histories_in rows c) t) q
used_alone rows c t q none =
    set.contains-union keys_total (view_after (histories_in rows c) t).used (passed_keys (passages_in rows c) t) q
    ∙ ap (λ b. was_used (view_after (histories_in rows c) t) q || b) (ap (λ ps. has_passed ps t q) none ∙ never_passed t q)
    ∙ or_none (was_used (view_after (histories_in rows c) t) q)

abbrev three : List HistoryRow
three = living 1 2 (street 101) ∷ living 2 4 changed ∷ living 2 2 (street 102) ∷ []

pub at_1001 : (t : ℕ) (q : Key) → finite.get (view_in four_rows 1001 t).items q ≡ stands t q three
at_1001 t q = ap (λ hs. finite.get (view_after hs t).items q) histories_1001 ∙ item_after three t q

used_1001 : (t : ℕ) (q : Key) → was_used (view_in four_rows 1001 t) q ≡ uses t q three
used_1001 t q = used_alone four_rows 1001 t q (none_passed 1001) ∙ ap (λ hs. was_used (view_after hs t) q) histories_1001 ∙ used_after three t q

abbrev one : List HistoryRow
one = living 1 1000000 (street 101) ∷ []

views_hold : WorkedViews
views_hold = record {
  said = said (Int (pos 2)) 1001 2 4 changed refl refl;
  of_another = not_another (Int (pos 4)) 1002 1001 1 1000000 (street 101) other;
  nothing_yet = at_1001 0 (key.Street 101);
  inserted = at_1001 1 (key.Street 101);
  updated = at_1001 2 (key.Street 101);
  stays = at_1001 3 (key.Street 101);
  deleted = at_1001 4 (key.Street 101);
  use_remembered = used_1001 4 (key.Street 101);
  came_and_went = at_1001 2 (key.Street 102);
  memory = used_1001 2 (key.Street 102);
  not_before = used_1001 1 (key.Street 102);
  of_1002 = ap (λ hs. finite.get (view_after hs 4).items (key.Street 101)) histories_1002 ∙ item_after one 4 (key.Street 101);
  no_memory_of_1002 = used_alone four_rows 1002 4 (key.Street 102) (none_passed 1002) ∙ ap (λ hs. was_used (view_after hs 4) (key.Street 102)) histories_1002 ∙ used_after one 4 (key.Street 102);
}

-- ---- the newest row of a key

abbrev BornBy : Key → ℕ → HistoryRow → Type 0
BornBy k n r = r.key ≡ k → r.born ≤ n

newest_101 : IsNewest three (key.Street 101) (Some changed_101_life)
newest_101 = record {
  there = inr (inl refl);
  of_key = refl;
  passes = tt;
  last = λ r there same any. all_has (BornBy (key.Street 101) 2) three r ((λ e. omega arith), ((λ e. omega arith), ((λ e. omega arith), tt))) there same;
}

newest_until_1 : IsNewestUntil 1 three (key.Street 101) (Some inserted_101)
newest_until_1 = record { there = inl refl; of_key = refl; passes = omega arith; last = λ r there same early. early }

usrn_of : Key → ℕ
usrn_of (key.Street n) = n
usrn_of k = 0

pub not_102 : {A : Type 0} → ◌≡◌ {A = Key} (key.Street 101) (key.Street 102) → A
unfolding usrn_of
not_102 e = let clash : ◌≡◌ {A = ℕ} 101 102 = ap usrn_of e in absurd (omega arith)

not_103 : (n : ℕ) → (n ≡ 103 → ⊥) → ◌≡◌ {A = Key} (key.Street n) (key.Street 103) → ⊥
unfolding usrn_of
not_103 n other e = other (ap usrn_of e)

none_of_103 : IsNewest three (key.Street 103) None
none_of_103 = λ r there same any. all_has (λ (s : HistoryRow). s.key ≡ key.Street 103 → ⊥) three r (not_103 101 (λ e. absurd (omega arith)), (not_103 101 (λ e. absurd (omega arith)), (not_103 102 (λ e. absurd (omega arith)), tt))) there same

-- of whatever says when a row was born and gone, it isn't said that there is none
there_is : (born : ℕ) (current : Bool) → was_there (cond current (Since born) Past) ≡ true
there_is born true = refl
there_is born false = refl

stood_somehow : (born gone : ℕ) → ¬ (NoRow ≡ stood_of born gone)
stood_somehow born gone none = true≢false (sym (there_is born (gone == never)) ∙ sym (ap was_there none))

newest_holds : WorkedNewest
newest_holds = record {
  newest = subst (λ hs. IsNewest hs (key.Street 101) (Some changed_101_life)) (sym histories_1001) newest_101;
  until_1 = subst (λ hs. IsNewestUntil 1 hs (key.Street 101) (Some inserted_101)) (sym histories_1001) newest_until_1;
  of_nobody = subst (λ hs. IsNewest hs (key.Street 103) None) (sym histories_1001) none_of_103;
  after_3 = refl;
  after_4 = refl;
  gone = refl;
  current = refl;
  past = refl;
  since = refl;
  never = refl;
  says_since = (1, 1000000, refl, refl, refl);
  says_past = (2, 4, refl, refl, refl);
  says_never = refl;
  says_not_never = λ said. stood_somehow said.0 said.1 said.4;
}

pub worked_examples_hold : WorkedExamples
worked_examples_hold = record { on_views = views_hold; on_newest = newest_holds }
