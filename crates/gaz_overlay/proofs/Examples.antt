-- What the definitions come to on worked examples.
use Rattle.std.proofs.Common.{◌≡◌, ◌∙◌, ◌||◌, Bool, true, false, not, cond, inl, inr, lit≤, lit<, ap, refl, is_some, List, [], ◌∷◌, ◌++◌, map}
use Rattle.std.specs.Prelude.{Option, Some, None, option_map}
use Rattle.std.specs.FinMap as finite
use Rattle.std.specs.FinSet as set
use Rattle.std.specs.List.{cons_option, filter_map}
use Rattle.std.specs.Map.{keys_of}
use Rattle.std.specs.Option.{option_map_or}
use Rattle.gaz_records.proofs.KeyOrder.{keys_total}
use Rattle.gaz_records.specs.Keys.{key_cmp, key_of}
use Rattle.gaz_records.specs.declared.item.Item.{Item}
use Rattle.gaz_records.specs.declared.key.Key.{Key}
use Rattle.gaz_records.specs.declared.key.Key.TheVariants as key
use Rattle.gaz_views.proofs.Emptiness.{get_none, used_none}
use Rattle.gaz_views.proofs.Lawful.{lawful_empty, lawful_put, lawful_taken}
use Rattle.gaz_views.proofs.Trees.{no_entries}
use Rattle.gaz_views.specs.Examples.{one_street, street}
use Rattle.gaz_views.specs.Lawful.{IsLawfulView}
use Rattle.gaz_views.specs.View.{View, empty_view, was_used, with_item, without_key}
use Rattle.gaz_overlay.specs.Changes.{Touched, no_changes, was_there, with_touched}
use Rattle.gaz_overlay.specs.Examples.{WorkedChanges, WorkedExamples, WorkedRows, WorkedViews, WorkedWritings, first_put, row, three_streets, two_touched}
use Rattle.gaz_overlay.specs.Laid.{laid, with_copied}
use Rattle.gaz_overlay.specs.Questions.{in_order}
use Rattle.gaz_overlay.specs.Rows.{HistoryRow, closed, added, is_of_birth, new_row, written}
use Rattle.gaz_overlay.specs.Writings.{writing_at, writing_of}
use Rattle.gaz_overlay.specs.declared.touch.Stood.TheVariants.{NoRow, Past, Since}
use Rattle.gaz_overlay.specs.declared.touch.Touch.{Touch}
use Rattle.gaz_overlay.specs.declared.touch.Writing.{Writing}
use Rattle.gaz_overlay.proofs.Laid.{at_key, tie, used_at}
use Rattle.gaz_overlay.proofs.StandingRows.{item_after, used_after}

-- ---- views

get_with : (v : View) (i : Item) (q : Key) (o : Option Item) → finite.get v.items q ≡ o → finite.get (with_item v i).items q ≡ cond (tie q (key_of i)) (Some i) o
get_with v i q o is = finite.get-insert keys_total v.items (key_of i) i q ∙ ap (cond (tie q (key_of i)) (Some i)) is

used_with : (v : View) (i : Item) (q : Key) (b : Bool) → was_used v q ≡ b → was_used (with_item v i) q ≡ (tie q (key_of i) || b)
used_with v i q b is = set.contains-insert keys_total v.used (key_of i) q ∙ ap (λ u. tie q (key_of i) || u) is

-- a view of which one street is all
one : (q : Key) (i : Item) → finite.get (with_item empty_view i).items q ≡ cond (tie q (key_of i)) (Some i) None
one q i = get_with empty_view i q None (get_none q)

one_used : (q : Key) (i : Item) → was_used (with_item empty_view i) q ≡ (tie q (key_of i) || false)
one_used q i = used_with empty_view i q false (used_none q)

laid_at : (s : View) → IsLawfulView s → (q : Key) (u : Bool) (o : Option Item) → was_used s q ≡ u → finite.get s.items q ≡ o → finite.get (laid one_street s).items q ≡ cond u o (cond (tie q (key.Street 101)) (Some (street 101)) None)
laid_at s lawful q u o used there = at_key one_street s lawful q ∙ (λ i. cond (used i) (there i) (one q (street 101) i))

laid_used : (s : View) (q : Key) (u : Bool) → was_used s q ≡ u → was_used (laid one_street s) q ≡ ((tie q (key.Street 101) || false) || u)
laid_used s q u used = used_at one_street s q ∙ (λ i. one_used q (street 101) i || used i)

copy_is : with_copied empty_view (key.Street 101) (Some (street 101)) ≡ with_item empty_view (street 101)
copy_is = ap (λ b. cond b empty_view (with_item empty_view (street 101))) (used_none (key.Street 101))

two_in_order : finite.keys (finite.from_entries {X = Unit {0}} {R = key_cmp} ((key.Street 101, tt) ∷ (key.Street 102, tt) ∷ [])) ≡ key.Street 101 ∷ key.Street 102 ∷ []
two_in_order =
    let none = no_entries (Unit {0}) key_cmp in
    let last = finite.entries-insert keys_total (finite.empty {X = Unit {0}} {R = key_cmp}) (key.Street 102) tt ∙ ap (finite.put key_cmp (key.Street 102) tt) none in
    ap keys_of (finite.entries-insert keys_total (finite.insert (finite.empty {X = Unit {0}} {R = key_cmp}) (key.Street 102) tt) (key.Street 101) tt ∙ ap (finite.put key_cmp (key.Street 101) tt) last)

-- those of 101 and 102 that aren't used
abbrev spared : Bool → Bool → List Key
spared u v = cond (not u) (key.Street 101 ∷ cond (not v) (key.Street 102 ∷ []) []) (cond (not v) (key.Street 102 ∷ []) [])

in_turn : finite.keys (finite.from_entries {X = Unit {0}} {R = key_cmp} ((key.Street 102, tt) ∷ (key.Street 101, tt) ∷ (key.Street 102, tt) ∷ [])) ≡ key.Street 101 ∷ key.Street 102 ∷ []
in_turn =
    let none = no_entries (Unit {0}) key_cmp in
    let last = finite.entries-insert keys_total (finite.empty {X = Unit {0}} {R = key_cmp}) (key.Street 102) tt ∙ ap (finite.put key_cmp (key.Street 102) tt) none in
    let middle = finite.entries-insert keys_total (finite.insert (finite.empty {X = Unit {0}} {R = key_cmp}) (key.Street 102) tt) (key.Street 101) tt ∙ ap (finite.put key_cmp (key.Street 101) tt) last in
    ap keys_of (finite.entries-insert keys_total (finite.insert (finite.insert (finite.empty {X = Unit {0}} {R = key_cmp}) (key.Street 102) tt) (key.Street 101) tt) (key.Street 102) tt ∙ ap (finite.put key_cmp (key.Street 102) tt) middle)

views_hold : WorkedViews
views_hold =
    let none = laid_at (without_key (with_item empty_view (street 101)) (key.Street 101)) (lawful_taken (with_item empty_view (street 101)) (key.Street 101) (lawful_put empty_view (street 101) refl lawful_empty)) (key.Street 101) true None
    (one_used (key.Street 101) (street 101)) (finite.get-remove keys_total (with_item empty_view (street 101)).items (key.Street 101) (key.Street 101)) in
    let used = laid_used (without_key (with_item empty_view (street 101)) (key.Street 101)) (key.Street 101) true (one_used (key.Street 101) (street 101)) in
    record {
      stays = laid_at (with_item empty_view (street 102)) (lawful_put empty_view (street 102) refl lawful_empty) (key.Street 101) false None (one_used (key.Street 101) (street 102)) (one (key.Street 101) (street 102));
      comes = laid_at (with_item empty_view (street 102)) (lawful_put empty_view (street 102) refl lawful_empty) (key.Street 102) true (Some (street 102)) (one_used (key.Street 102) (street 102)) (one (key.Street 102) (street 102));
      both_used = laid_used (with_item empty_view (street 102)) (key.Street 101) false (one_used (key.Street 101) (street 102));
      third_not_used = laid_used (with_item empty_view (street 102)) (key.Street 103) false (one_used (key.Street 103) (street 102));
      goes = ap (λ (s : View). finite.get (laid one_street (without_key s (key.Street 101))).items (key.Street 101)) copy_is ∙ none;
      still_used = ap (λ (s : View). was_used (laid one_street (without_key s (key.Street 101))) (key.Street 101)) copy_is ∙ used;
      stands_there = (ap is_some (one (key.Street 101) (street 101)), one_used (key.Street 101) (street 101));
      never_stood = one (key.Street 102) (street 101);
      merged = (λ i. in_order (spared (one_used (key.Street 101) (street 102) i) (one_used (key.Street 102) (street 102) i) ++ key.Street 102 ∷ [])) ∙ two_in_order;
      once_each = in_turn;
    }

-- ---- changes

abbrev touch_of_first : Touch
touch_of_first = record { stood = Since 1; last = Some (street 101) }

abbrev touch_of_second : Touch
touch_of_second = record { stood = NoRow; last = Some (street 102) }

set_last : (m : Touched) (k : Key) (x : Touch) (q : Key) (o : Option Touch) → finite.get m q ≡ o → finite.get (finite.insert m k x) q ≡ cond (tie q k) (Some x) o
set_last m k x q o is = finite.get-insert keys_total m k x q ∙ ap (cond (tie q k) (Some x)) is

touched_once : (q : Key) → finite.get (with_touched no_changes (key.Street 101) (Since 1) (Some (street 101))).touched q ≡ cond (tie q (key.Street 101)) (Some (record { stood = Since 1; last = None })) None
touched_once q = set_last finite.empty (key.Street 101) (record { stood = Since 1; last = None }) q None (finite.get-empty key_cmp q)

-- what is kept once 101 is put
kept_first : first_put.touched ≡ finite.insert (with_touched no_changes (key.Street 101) (Since 1) (Some (street 101))).touched (key.Street 101) touch_of_first
kept_first = ap (λ o. finite.insert (with_touched no_changes (key.Street 101) (Since 1) (Some (street 101))).touched (key.Street 101) (record { stood = option_map_or (λ t. t.stood) o NoRow; last = Some (street 101) })) (touched_once (key.Street 101))

at_first : (q : Key) → finite.get first_put.touched q ≡ cond (tie q (key.Street 101)) (Some touch_of_first) (cond (tie q (key.Street 101)) (Some (record { stood = Since 1; last = None })) None)
at_first q = ap (λ (m : Touched). finite.get m q) kept_first ∙ set_last (with_touched no_changes (key.Street 101) (Since 1) (Some (street 101))).touched (key.Street 101) touch_of_first q _ (touched_once q)

abbrev second_noted : Touched
second_noted = finite.insert first_put.touched (key.Street 102) (record { stood = NoRow; last = None })

at_noted : (q : Key) → finite.get second_noted q ≡ cond (tie q (key.Street 102)) (Some (record { stood = NoRow; last = None })) (cond (tie q (key.Street 101)) (Some touch_of_first) (cond (tie q (key.Street 101)) (Some (record { stood = Since 1; last = None })) None))
at_noted q = set_last first_put.touched (key.Street 102) (record { stood = NoRow; last = None }) q _ (at_first q)

kept_second : two_touched.touched ≡ finite.insert second_noted (key.Street 102) touch_of_second
kept_second = ap (λ o. finite.insert second_noted (key.Street 102) (record { stood = option_map_or (λ t. t.stood) o NoRow; last = Some (street 102) })) (at_noted (key.Street 102))

abbrev kept_at : Key → Option Touch
kept_at q = cond (tie q (key.Street 102)) (Some touch_of_second) (cond (tie q (key.Street 102)) (Some (record { stood = NoRow; last = None })) (cond (tie q (key.Street 101)) (Some touch_of_first) (cond (tie q (key.Street 101)) (Some (record { stood = Since 1; last = None })) None)))

at_second : (q : Key) → finite.get two_touched.touched q ≡ kept_at q
at_second q = ap (λ (m : Touched). finite.get m q) kept_second ∙ set_last second_noted (key.Street 102) touch_of_second q _ (at_noted q)

-- what stands, and what was used
abbrev stands_at : Key → Option Item
stands_at q = cond (tie q (key.Street 102)) None (cond (tie q (key.Street 102)) (Some (street 102)) (cond (tie q (key.Street 101)) (Some (street 101)) (cond (tie q (key.Street 101)) (Some (street 101)) None)))

item_there : (q : Key) → finite.get two_touched.view.items q ≡ stands_at q
item_there q =
    finite.get-remove keys_total (with_item first_put.view (street 102)).items (key.Street 102) q
    ∙ ap (cond (tie q (key.Street 102)) None) (get_with first_put.view (street 102) q _ (get_with (with_item empty_view (street 101)) (street 101) q _ (one q (street 101))))

used_there : (q : Key) → was_used two_touched.view q ≡ (tie q (key.Street 102) || (tie q (key.Street 101) || (tie q (key.Street 101) || false)))
used_there q = used_with first_put.view (street 102) q _ (used_with (with_item empty_view (street 101)) (street 101) q _ (one_used q (street 101)))

written_at : (q : Key) → writing_at two_touched q ≡ option_map_or (λ t. writing_of t (is_some (stands_at q))) (kept_at q) (record { closes = None; adds = None })
written_at q = λ i. option_map_or (λ t. writing_of t (is_some (item_there q i))) (at_second q i) (record { closes = None; adds = None })

changes_hold : WorkedChanges
changes_hold = record {
  first_touched = ap is_some (at_second (key.Street 101));
  other_not_touched = ap is_some (at_second (key.Street 103));
  first_stood = ap (λ o. option_map_or (λ t. t.stood) o NoRow) (at_second (key.Street 101));
  second_stood = ap (λ o. option_map_or (λ t. t.stood) o NoRow) (at_second (key.Street 102));
  put_and_taken_used = λ i. used_there (key.Street 102) i || was_there (ap (λ o. option_map_or (λ t. t.stood) o NoRow) (at_second (key.Street 102)) i);
  other_not_used = λ i. used_there (key.Street 103) i || was_there (ap (λ o. option_map_or (λ t. t.stood) o NoRow) (at_second (key.Street 103)) i);
  past_used = λ i. used_none (key.Street 102) i || was_there (ap (λ o. option_map_or (λ t. t.stood) o NoRow) (set_last finite.empty (key.Street 102) (record { stood = Past; last = None }) (key.Street 102) None (finite.get-empty key_cmp (key.Street 102))) i);
  second_closes_nothing = written_at (key.Street 102);
  other_not_written = written_at (key.Street 103);
  at_once_there = one (key.Street 101) (street 101);
  at_once_written = λ i. option_map_or (λ t. writing_of t (is_some (one (key.Street 101) (street 101) i))) (at_first (key.Street 101) i) (record { closes = None; adds = None });
}

writings_hold : WorkedWritings
writings_hold = record {
  inserted = refl;
  came_and_went = refl;
  inserted_again = refl;
  replaced = refl;
  deleted = refl;
  replaced_and_deleted = refl;
  only_touched = refl;
  nothing_to_take = refl;
}

-- ---- rows

keys_touched : finite.keys two_touched.touched ≡ key.Street 101 ∷ key.Street 102 ∷ []
keys_touched =
    let none = no_entries Touch key_cmp in
    let m = finite.empty {X = Touch} {R = key_cmp} in
    let x : Touch = record { stood = Since 1; last = None } in
    let y : Touch = record { stood = NoRow; last = None } in
    let first = finite.entries-insert keys_total m (key.Street 101) x ∙ ap (finite.put key_cmp (key.Street 101) x) none in
    let put = ap finite.entries kept_first ∙ finite.entries-insert keys_total (finite.insert m (key.Street 101) x) (key.Street 101) touch_of_first ∙ ap (finite.put key_cmp (key.Street 101) touch_of_first) first in
    let noted = finite.entries-insert keys_total first_put.touched (key.Street 102) y ∙ ap (finite.put key_cmp (key.Street 102) y) put in
    ap keys_of (ap finite.entries kept_second ∙ finite.entries-insert keys_total second_noted (key.Street 102) touch_of_second ∙ ap (finite.put key_cmp (key.Street 102) touch_of_second) noted)

closed_at : (r : HistoryRow) (w : Writing) → writing_at two_touched r.key ≡ w → closed 3 two_touched r ≡ cond (is_of_birth w.closes r) (record r { gone = 3 }) r
closed_at r w is = ap (λ (v : Writing). cond (is_of_birth v.closes r) (record r { gone = 3 }) r) is

added_at : (k : Key) (w : Writing) → writing_at two_touched k ≡ w → added 3 two_touched k ≡ option_map (new_row 3 k) w.adds
added_at k w is = ap (λ (v : Writing). option_map (new_row 3 k) v.adds) is

all_rows : written 3 two_touched (row 101 1 1000000 ∷ []) ≡ row 101 1 3 ∷ row 101 3 1000000 ∷ row 102 3 3 ∷ []
unfolding written
all_rows =
    (λ i. map (closed 3 two_touched) (row 101 1 1000000 ∷ []) ++ filter_map (added 3 two_touched) (keys_touched i))
    ∙ (λ i. (closed_at (row 101 1 1000000) _ (written_at (key.Street 101)) i ∷ []) ++ cons_option (added_at (key.Street 101) _ (written_at (key.Street 101)) i) (cons_option (added_at (key.Street 102) _ (written_at (key.Street 102)) i) []))

rows_hold : WorkedRows
rows_hold = record {
  through_three = record {
    until = (record { born = lit≤ tt; gone = inl (lit≤ tt) }, (record { born = lit≤ tt; gone = inr refl }, tt));
    apart = ((λ same. inl (record { born = lit< tt; gone = lit≤ tt }), tt), (tt, tt));
  };
  current_since = inr (inl (record { of_key = refl; of_birth = refl; is_current = refl }));
  not_born = refl;
  holds = refl;
  gone = refl;
  never_holds = refl;
  but_was_born = refl;
  in_the_view = item_after three_streets 1 (key.Street 103);
  gone_from_it = item_after three_streets 2 (key.Street 103);
  current_there = item_after three_streets 9 (key.Street 101);
  use_remembered = used_after three_streets 2 (key.Street 102);
  not_used_yet = used_after three_streets 1 (key.Street 102);
  closed_now = closed_at (row 101 1 1000000) _ (written_at (key.Street 101));
  not_closed = closed_at (row 103 1 2) _ (written_at (key.Street 103));
  added_now = added_at (key.Street 101) _ (written_at (key.Street 101));
  passed_now = added_at (key.Street 102) _ (written_at (key.Street 102));
  all_written = all_rows;
}

pub worked_examples_hold : WorkedExamples
worked_examples_hold = record { on_views = views_hold; on_changes = changes_hold; on_writings = writings_hold; on_rows = rows_hold }
