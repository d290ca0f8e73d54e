-- What the definitions on numbers that are passed on come to on worked examples.
use Rattle.std.proofs.Common.{◌≡◌, ◌∙◌, ◌||◌, ℕ, false, cond, ap, refl, is_some, map}
use Rattle.std.specs.Prelude.{Option, Some, None, filter, option_map}
use Rattle.std.specs.Cmp.{nat_cmp_total}
use Rattle.std.specs.FinMap as finite
use Rattle.std.specs.FinSet as set
use Rattle.std.specs.List.{list_any}
use Rattle.std.specs.Option.{option_flatten, option_map_or, option_or}
use Rattle.std.specs.Ordering.{eq_by_cmp, nat_cmp}
use Rattle.gaz_records.proofs.KeyOrder.{keys_total}
use Rattle.gaz_records.specs.Keys.{key_cmp}
use Rattle.gaz_records.specs.declared.item.Item.TheVariants as item
use Rattle.gaz_records.specs.declared.key.Key.{Key}
use Rattle.gaz_records.specs.declared.key.Key.TheVariants as key
use Rattle.gaz_views.proofs.Emptiness.{no_custody, used_none}
use Rattle.gaz_views.specs.CustodyExamples.{alone, given_up}
use Rattle.gaz_views.specs.Examples.{one_street}
use Rattle.gaz_views.specs.View.{custody_at, empty_view, was_used, with_release}
use Rattle.gaz_views.specs.declared.custody.Custody.{Custody}
use Rattle.gaz_views.specs.declared.custody.Custody.TheVariants.{Adopted, Released}
use Rattle.gaz_overlay.specs.Changes.{Passed, no_changes, noted, was_there, with_touched}
use Rattle.gaz_overlay.specs.Passages.{custody_after, has_passed, is_passed_by, lasts_after, passed_keys, with_passages}
use Rattle.gaz_overlay.specs.PassingExamples.{WorkedChanges, WorkedLaid, WorkedPassages, WorkedPassing, adopted, handed_on, only_released, twice, two_passages}
use Rattle.gaz_overlay.specs.Writings.{nothing, writing_of}
use Rattle.gaz_overlay.specs.declared.passage.Passage.{Passage}
use Rattle.gaz_overlay.specs.declared.touch.Stood.TheVariants.{NoRow, Past}
use Rattle.gaz_overlay.specs.declared.touch.Touch.{Touch}
use Rattle.gaz_overlay.proofs.Laid.{custody_laid_is, tie}

-- ---- views

given_up_at : (n : ℕ) → custody_at given_up n ≡ cond (eq_by_cmp nat_cmp n 500) (Some (Released 1002 1)) None
given_up_at n = finite.get-insert nat_cmp_total empty_view.custody 500 (Released 1002 1) n ∙ ap (cond (eq_by_cmp nat_cmp n 500) (Some (Released 1002 1))) (no_custody n)

twice_at : (n : ℕ) → custody_at twice n ≡ option_or (cond (eq_by_cmp nat_cmp n 500) (Some (Released 1003 3)) None) (cond (eq_by_cmp nat_cmp n 500) (Some (Released 1002 1)) None)
twice_at n =
    let new = finite.get-insert nat_cmp_total empty_view.custody 500 (Released 1003 3) n ∙ ap (cond (eq_by_cmp nat_cmp n 500) (Some (Released 1003 3))) (no_custody n) in
    let old = given_up_at n in
    custody_laid_is given_up (with_release empty_view 500 1003 3) n ∙ (λ i. option_or (new i) (old i))

laid_hold : WorkedLaid
laid_hold = record {
  last_says = custody_laid_is given_up empty_view 500 ∙ (let none = no_custody 500 in let old = given_up_at 500 in λ i. option_or (none i) (old i));
  changes_say = twice_at 500;
  of_another = twice_at 501;
}

-- ---- changes

abbrev none_passed : Passed
none_passed = finite.empty

-- a number that is noted first
first_noted : (since : Option ℕ) → noted none_passed 500 since ≡ finite.insert none_passed 500 since
first_noted since = ap (λ b. cond b none_passed (finite.insert none_passed 500 since)) (ap is_some (finite.get-empty nat_cmp 500))

at_first : (since : Option ℕ) (n : ℕ) → finite.get (noted none_passed 500 since) n ≡ cond (eq_by_cmp nat_cmp n 500) (Some since) None
at_first since n =
    ap (λ (m : Passed). finite.get m n) (first_noted since) ∙ finite.get-insert nat_cmp_total none_passed 500 since n
    ∙ ap (cond (eq_by_cmp nat_cmp n 500) (Some since)) (finite.get-empty nat_cmp n)

-- it stays as it was noted
at_second : (n : ℕ) → finite.get handed_on.passed n ≡ cond (eq_by_cmp nat_cmp n 500) (Some (Some 2)) None
at_second n =
    ap (λ b. finite.get (cond b adopted.passed (finite.insert adopted.passed 500 (Some 9))) n) (ap is_some (at_first (Some 2) 500))
    ∙ at_first (Some 2) n

adopted_at : (n : ℕ) → custody_at adopted.view n ≡ cond (eq_by_cmp nat_cmp n 500) (Some (Adopted 1001 3)) None
adopted_at n = finite.get-insert nat_cmp_total empty_view.custody 500 (Adopted 1001 3) n ∙ ap (cond (eq_by_cmp nat_cmp n 500) (Some (Adopted 1001 3))) (no_custody n)

handed_at : (n : ℕ) → custody_at handed_on.view n ≡ cond (eq_by_cmp nat_cmp n 500) (Some (Released 1003 4)) (cond (eq_by_cmp nat_cmp n 500) (Some (Adopted 1001 3)) None)
handed_at n = finite.get-insert nat_cmp_total adopted.view.custody 500 (Released 1003 4) n ∙ ap (cond (eq_by_cmp nat_cmp n 500) (Some (Released 1003 4))) (adopted_at n)

only_at : (n : ℕ) → custody_at only_released.view n ≡ cond (eq_by_cmp nat_cmp n 500) (Some (Released 1002 1)) None
only_at n = given_up_at n

abbrev passage_with : Option Custody → Option (Option ℕ) → Option Passage
passage_with custody born = option_map (λ x. record { closes = option_flatten born; custody = x }) custody

-- what is kept of the key
abbrev touched_first : Touch
touched_first = record { stood = Past; last = None }

adopted_touch : finite.get adopted.touched (key.Blpu 500) ≡ Some (record { stood = Past; last = Some (item.Blpu alone) })
adopted_touch =
    let was = finite.get-insert keys_total (finite.empty {X = Touch} {R = key_cmp}) (key.Blpu 500) touched_first (key.Blpu 500) in
    finite.get-insert keys_total (with_touched no_changes (key.Blpu 500) Past None).touched (key.Blpu 500) _ (key.Blpu 500)
    ∙ ap (λ o. Some (let t : Touch = record { stood = option_map_or (λ t. t.stood) o NoRow; last = Some (item.Blpu alone) } in t)) was

only_touch : finite.get only_released.touched (key.Blpu 500) ≡ Some (record { stood = NoRow; last = None })
only_touch = finite.get-insert keys_total (finite.empty {X = Touch} {R = key_cmp}) (key.Blpu 500) (record { stood = NoRow; last = None }) (key.Blpu 500)

gone : finite.get handed_on.view.items (key.Blpu 500) ≡ None
gone = finite.get-remove keys_total adopted.view.items (key.Blpu 500) (key.Blpu 500)

never_there : finite.get only_released.view.items (key.Blpu 500) ≡ None
never_there = finite.get-remove keys_total empty_view.items (key.Blpu 500) (key.Blpu 500)

changes_hold : WorkedChanges
changes_hold = record {
  adoption = let x = adopted_at 500 in let b = at_first (Some 2) 500 in λ i. passage_with (x i) (b i);
  last_of_two = let x = handed_at 500 in let b = at_second 500 in λ i. passage_with (x i) (b i);
  of_another = let x = handed_at 501 in let b = at_second 501 in λ i. passage_with (x i) (b i);
  came_and_went = λ i. option_map_or (λ t. writing_of t (is_some (gone i))) (adopted_touch i) nothing;
  nothing_closed = let x = only_at 500 in let b = at_first None 500 in λ i. passage_with (x i) (b i);
  no_item = λ i. option_map_or (λ t. writing_of t (is_some (never_there i))) (only_touch i) nothing;
  key_used = ap (λ b. b || was_there (option_map_or (λ t. t.stood) (finite.get only_released.touched (key.Blpu 500)) NoRow)) (set.contains-insert keys_total empty_view.used (key.Blpu 500) (key.Blpu 500));
  its_key = ap is_some (at_first None 500);
  street_not = refl;
}

-- ---- rows

custody_is : (t n : ℕ) → finite.get (custody_after two_passages t) n ≡ finite.find nat_cmp n (map (λ p. (p.uprn, p.custody)) (filter (lasts_after t) two_passages))
unfolding custody_after
custody_is t n = finite.get-from_entries nat_cmp_total (map (λ p. (p.uprn, p.custody)) (filter (lasts_after t) two_passages)) n

used_is : (t : ℕ) (k : Key) → has_passed two_passages t k ≡ list_any (tie k) (map (λ p. key.Blpu p.uprn) (filter (is_passed_by t) two_passages))
unfolding passed_keys
used_is t k = set.contains-from_list keys_total (map (λ p. key.Blpu p.uprn) (filter (is_passed_by t) two_passages)) k

both_used : (k : Key) → was_used (with_passages one_street two_passages 1) k ≡ ((tie k (key.Street 101) || false) || list_any (tie k) (map (λ p. key.Blpu p.uprn) (filter (is_passed_by 1) two_passages)))
both_used k =
    let street = set.contains-insert keys_total empty_view.used (key.Street 101) k ∙ ap (λ b. tie k (key.Street 101) || b) (used_none k) in
    let passed = used_is 1 k in
    set.contains-union keys_total one_street.used (passed_keys two_passages 1) k ∙ (λ i. street i || passed i)

passages_hold : WorkedPassages
passages_hold = record {
  not_yet = custody_is 0 500;
  not_used_yet = used_is 0 (key.Blpu 500);
  released = custody_is 2 500;
  adopted = custody_is 3 500;
  of_another = custody_is 3 501;
  used = both_used (key.Blpu 500);
  used_too = both_used (key.Street 101);
}

pub passing_holds : WorkedPassing
passing_holds = record { on_views = laid_hold; on_changes = changes_hold; on_rows = passages_hold }
