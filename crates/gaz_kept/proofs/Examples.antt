-- What the definitions come to on worked examples.
use Rattle.std.proofs.Common.{◌≡◌, ◌∙◌, ◌≤◌, ◌<◌, ◌+◌, ◌⊎◌, ◌&&◌, not, ℕ, suc, pos, true, List, [], ◌∷◌, inl, inr, refl, sym, ap, subst, arith, slice_get}
use Rattle.std.specs.Prelude.{◌==◌, IsSomeAnd, count_by, length, map, nat_le, slice_index_or, unwrap_or}
use Rattle.std.specs.Cmp.{IsTotalOrder, nat_cmp_total}
use Rattle.std.specs.FinMap as finite
use Rattle.std.specs.FinMap.{find, put}
use Rattle.std.specs.List.{AllByRecursion, cons_option, filter_map, range_with_len}
use Rattle.std.specs.Ordering.{nat_cmp}
use Rattle.std.specs.declared.cmp.Ordering.{Ordering}
use Rattle.sqlite.specs.declared.types.Value.{Value}
use Rattle.sqlite.specs.declared.types.Value.TheVariants.{Int}
use Rattle.sqlite_rules.specs.Lists.{Has}
use Rattle.sqlite_rules.proofs.ListLemmas.{all_has}
use Rattle.gaz_records.specs.Items.{is_item}
use Rattle.gaz_records.specs.declared.key.Key.TheVariants as key
use Rattle.gaz_views.proofs.Judgements.{count_judged, verdict_at, view_judged}
use Rattle.gaz_views.proofs.Trees.{no_entries}
use Rattle.gaz_views.specs.Examples.{street}
use Rattle.gaz_views.specs.View.{View, empty_view}
use Rattle.gaz_views.specs.declared.verdict.Verdict.{Verdict}
use Rattle.gaz_views.specs.declared.verdict.Verdict.TheVariants.{Applied, Rejected}
use Rattle.gaz_overlay.specs.Rows.{HistoryRow}
use Rattle.gaz_tables.specs.Receiveds.{judged}
use Rattle.gaz_row_items.specs.Examples.{changed, changed_101, four_rows}
use Rattle.gaz_row_items.specs.Versions.{histories_in, living, view_in}
use Rattle.gaz_row_items.proofs.Examples.{at_1001, histories_1001, not_102, said, said_item}
use Rattle.gaz_kept.specs.Examples.{WorkedBoard, WorkedExamples, WorkedFiles, WorkedTables, changed_of, handed_on, held_6, overlapping, rejected_3, six_files, with_a_gap, worked_board}
use Rattle.gaz_keeper.specs.Board.{verdict_on}
use Rattle.gaz_keeper.specs.Board as board
use Rattle.gaz_keeper.specs.Received.{pair_cmp}
use Rattle.gaz_keeper.proofs.Pairs.{pairs_total}
use Rattle.gaz_kept.specs.Files.{file_in, files_in, judged_in, judged_volumes, verdicts_in}
use Rattle.gaz_kept.specs.Kept.{AreInTurn, AreFirst, IsFile, IsVersion}
use Rattle.gaz_kept.proofs.RowsRead.{of_custodian, passage_kind}
use Rattle.gaz_kept.proofs.Statements.{written_version}

-- ---- files

module _ {K X : Type 0} (R : K → K → Ordering) where
  abbrev put_all : List (K × X) → List (K × X)
  put_all [] = []
  put_all (e ∷ es) = put R e.0 e.1 (put_all es)

  entries_of : IsTotalOrder R → (es : List (K × X)) → finite.entries (finite.from_entries {R = R} es) ≡ put_all es
  entries_of o [] = no_entries X R
  entries_of o (e ∷ es) = finite.entries-insert o (finite.from_entries es) e.0 e.1 ∙ ap (put R e.0 e.1) (entries_of o es)

judged_1001 : finite.entries (judged_volumes six_files 1001) ≡ (1, Applied) ∷ (2, Applied) ∷ (3, Rejected 5 21) ∷ (4, Applied) ∷ []
judged_1001 = entries_of nat_cmp nat_cmp_total (filter_map (judged_in 1001) six_files)

judged_1002 : finite.entries (judged_volumes six_files 1002) ≡ (1, Applied) ∷ []
judged_1002 = entries_of nat_cmp nat_cmp_total (filter_map (judged_in 1002) six_files)

judged_1003 : finite.entries (judged_volumes six_files 1003) ≡ []
judged_1003 = entries_of nat_cmp nat_cmp_total (filter_map (judged_in 1003) six_files)

verdicts_are : verdicts_in six_files 1001 ≡ Applied ∷ Applied ∷ Rejected 5 21 ∷ Applied ∷ []
verdicts_are = ap (map (λ e. e.1)) judged_1001

file_at : (p : ℕ × ℕ) → finite.get (files_in six_files) p ≡ find pair_cmp p (map file_in six_files)
file_at p = finite.get-from_entries pairs_total (map file_in six_files) p

files_hold : WorkedFiles
files_hold = record {
  judged_row = refl;
  held_row = refl;
  of_another = refl;
  there = file_at (1001, 6);
  not_there = file_at (1001, 5);
  verdicts = verdicts_are;
  reached = ap length verdicts_are;
  waits = ap (λ (es : List ((ℕ × ℕ) × List ℕ)). count_by {X = ℕ × ℕ} (λ p. (p.0 == 1001) && not (nat_le p.1 4)) (map (λ e. e.0) es)) (entries_of pair_cmp pairs_total (map file_in six_files));
  of_1002 = ap (map (λ e. e.1)) judged_1002;
  of_nobody = ap (map (λ e. e.1)) judged_1003;
}

-- ---- the board

verdict_here : (volume : ℕ) → verdict_on worked_board 1001 (suc volume) ≡ slice_get (Applied ∷ Applied ∷ Rejected 5 21 ∷ Applied ∷ []) volume
verdict_here volume = verdict_at (verdicts_in six_files 1001) (view_in four_rows 1001) volume ∙ ap (λ vs. slice_get vs volume) verdicts_are

view_here : (t : ℕ) → t < length (verdicts_in six_files 1001) → board.view_after worked_board 1001 (suc t) ≡ view_in four_rows 1001 (1 + t)
view_here t less = ap (λ o. unwrap_or o empty_view) (view_judged (verdicts_in six_files 1001) (view_in four_rows 1001) t less)

boards_hold : WorkedBoard
boards_hold = record {
  reached = count_judged (verdicts_in six_files 1001) (view_in four_rows 1001) ∙ ap length verdicts_are;
  verdict = verdict_here 2;
  held = verdict_here 5;
  after_2 = view_here 1 (let count = ap length verdicts_are in omega arith);
  after_3 = ap (λ (v : View). finite.get v.items (key.Street 101)) (view_here 2 (let count = ap length verdicts_are in omega arith)) ∙ at_1001 3 (key.Street 101);
}

-- ---- the tables

file_holds : IsFile rejected_3
file_holds = record {
  cust = refl;
  volume = refl;
  bytes = refl;
  state = refl;
  place = refl;
  rule = refl;
  first = omega arith;
  last = omega arith;
  states = omega arith;
  rules = omega arith;
  no_place = λ other. absurd (other refl);
  no_rule = λ other. absurd (other refl);
}

held_holds : IsFile held_6
held_holds = record {
  cust = refl;
  volume = refl;
  bytes = refl;
  state = refl;
  place = refl;
  rule = refl;
  first = omega arith;
  last = omega arith;
  states = omega arith;
  rules = omega arith;
  no_place = λ other. refl;
  no_rule = λ other. refl;
}

no_state_7 : ¬ IsFile (judged 7 (pos 0) 0 held_6)
no_state_7 h = let le : 7 ≤ 2 = h.states in absurd (omega arith)

version_holds : IsVersion changed_101
version_holds = inl (record {
  cust = refl;
  custodian = (omega arith, omega arith);
  kind = refl;
  id = refl;
  blpu = refl;
  street = refl;
  lang = refl;
  live = refl;
  body = refl;
  born = refl;
  gone = refl;
  hop = refl;
  item = subst (λ o. IsSomeAnd o (λ y. is_item y ≡ true)) (sym (said_item (Int (pos 2)) 1001 2 4 changed refl refl)) refl;
  first = omega arith;
  in_turn = omega arith;
})

no_hop_1 : ¬ IsVersion handed_on
no_hop_1 (inl v) = let e : ◌≡◌ {A = Value} (Int (pos 1)) (Int (pos 0)) = v.hop in absurd (cc)
no_hop_1 (inr v) = let e : 11 ≡ 92 = passage_kind handed_on v in absurd (omega (arith, e))

no_code_0 : ¬ IsVersion (changed_of 0)
no_code_0 v = let le : 1 ≤ 0 = (of_custodian (changed_of 0) v).0 in absurd (omega arith)

code_9999 : IsVersion (changed_of 9999)
code_9999 = written_version (Int (pos 2)) 9999 2 4 changed (omega arith, omega arith) refl refl (omega arith) (omega arith)

no_code_10000 : ¬ IsVersion (changed_of 10000)
no_code_10000 v = let le : 10000 ≤ 9999 = (of_custodian (changed_of 10000) v).1 in absurd (omega arith)

first_holds : AreFirst six_files 1001
first_holds = ap (map (λ e. e.0)) judged_1001 ∙ sym (ap (range_with_len 1) (ap length verdicts_are))

judged_alone : finite.entries (judged_volumes with_a_gap 1001) ≡ (2, Applied) ∷ []
judged_alone = entries_of nat_cmp nat_cmp_total (filter_map (judged_in 1001) with_a_gap)

no_gap : ¬ AreFirst with_a_gap 1001
no_gap h =
    let lists : ◌≡◌ {A = List ℕ} (2 ∷ []) (1 ∷ []) = sym (ap (map (λ e. e.0)) judged_alone) ∙ h ∙ ap (λ es. range_with_len 1 (length (map (λ (e : ℕ × Verdict). e.1) es))) judged_alone in
    let heads : ◌≡◌ {A = ℕ} 2 1 = ap (λ l. slice_index_or l 0 0) lists in
    absurd (omega arith)

-- a row behind others, and each takes its turn with it
TakesTurns : HistoryRow → HistoryRow → Type 0
TakesTurns r s = r.key ≡ s.key → ((r.born < s.born) × (r.gone ≤ s.born)) ⊎ ((s.born < r.born) × (s.gone ≤ r.born))

apart_more : (r : HistoryRow) (rows : List HistoryRow) → AreInTurn rows → ((s : HistoryRow) → Has rows s → TakesTurns r s) → AreInTurn (r ∷ rows)
unfolding TakesTurns
apart_more r rows apart turns = record { once = once; in_turn = in_turn }
  where
    born_is : (a : HistoryRow) → a ≡ r → a.born ≡ r.born
    born_is a is = ap (λ (s : HistoryRow). s.born) is

    gone_is : (a : HistoryRow) → a ≡ r → a.gone ≡ r.gone
    gone_is a is = ap (λ (s : HistoryRow). s.gone) is

    key_is : (a : HistoryRow) → a ≡ r → a.key ≡ r.key
    key_is a is = ap (λ (s : HistoryRow). s.key) is

    differ : (a b : HistoryRow) → a ≡ r → Has rows b → a.key ≡ b.key → a.born ≡ b.born → ⊥
    differ a b is there key born = elim (turns b there (sym (key_is a is) ∙ key)) [
      | inl t ↦ let e = born_is a is in let less = t.0 in absurd (omega arith)
      | inr t ↦ let e = born_is a is in let less = t.0 in absurd (omega arith)
    ]

    once : (a b : HistoryRow) → Has (r ∷ rows) a → Has (r ∷ rows) b → a.key ≡ b.key → a.born ≡ b.born → a ≡ b
    once a b (inl ha) (inl hb) key born = ha ∙ sym hb
    once a b (inl ha) (inr hb) key born = absurd (differ a b ha hb key born)
    once a b (inr ha) (inl hb) key born = absurd (differ b a hb ha (sym key) (sym born))
    once a b (inr ha) (inr hb) key born = apart.once a b ha hb key born

    in_turn : (a b : HistoryRow) → Has (r ∷ rows) a → Has (r ∷ rows) b → a.key ≡ b.key → a.born < b.born → a.gone ≤ b.born
    in_turn a b (inl ha) (inl hb) key less = let e = born_is a ha in let f = born_is b hb in absurd (omega arith)
    in_turn a b (inl ha) (inr hb) key less = elim (turns b hb (sym (key_is a ha) ∙ key)) [
      | inl t ↦ let le = t.1 in let e = gone_is a ha in omega arith
      | inr t ↦ let more = t.0 in let e = born_is a ha in absurd (omega arith)
    ]
    in_turn a b (inr ha) (inl hb) key less = elim (turns a ha (sym (key_is b hb) ∙ sym key)) [
      | inl t ↦ let more = t.0 in let e = born_is b hb in absurd (omega arith)
      | inr t ↦ let le = t.1 in let e = born_is b hb in omega arith
    ]
    in_turn a b (inr ha) (inr hb) key less = apart.in_turn a b ha hb key less

none_apart : AreInTurn []
none_apart = record { once = λ a b ha hb key born. absurd ha; in_turn = λ a b ha hb key less. absurd ha }

apart_from : (r : HistoryRow) (rows : List HistoryRow) → AllByRecursion (TakesTurns r) rows → (s : HistoryRow) → Has rows s → TakesTurns r s
apart_from r rows all s there = all_has (TakesTurns r) rows s all there

apart_holds : AreInTurn (histories_in four_rows 1001)
unfolding TakesTurns
apart_holds = subst AreInTurn (sym histories_1001)
    (apart_more (living 1 2 (street 101)) last_two
    (apart_more (living 2 4 changed) last_one (apart_more (living 2 2 (street 102)) [] none_apart (λ s there. absurd there))
    (apart_from (living 2 4 changed) last_one ((λ e. not_102 e), tt)))
    (apart_from (living 1 2 (street 101)) last_two ((λ e. inl (omega arith, omega arith)), ((λ e. not_102 e), tt))))
  where
    last_one : List HistoryRow
    last_one = living 2 2 (street 102) ∷ []

    last_two : List HistoryRow
    last_two = living 2 4 changed ∷ last_one

histories_overlap : histories_in overlapping 1001 ≡ living 1 1000000 (street 101) ∷ living 2 1000000 changed ∷ []
histories_overlap = λ i.
    cons_option (said (Int (pos 1)) 1001 1 1000000 (street 101) refl refl i)
    (cons_option (said (Int (pos 2)) 1001 2 1000000 changed refl refl i) [])

no_overlap : ¬ AreInTurn (histories_in overlapping 1001)
no_overlap h =
    let apart = subst AreInTurn histories_overlap h in
    let le : 1000000 ≤ 2 = apart.in_turn (living 1 1000000 (street 101)) (living 2 1000000 changed) (inl refl) (inr (inl refl)) refl (omega arith) in
    absurd (omega arith)

tables_hold : WorkedTables
tables_hold = record {
  file = file_holds;
  held = held_holds;
  state_7 = no_state_7;
  version = version_holds;
  with_a_hop = no_hop_1;
  code_0 = no_code_0;
  code_9999 = code_9999;
  code_10000 = no_code_10000;
  first = first_holds;
  gap = no_gap;
  apart = apart_holds;
  overlap = no_overlap;
}

pub worked_examples_hold : WorkedExamples
worked_examples_hold = record { on_files = files_hold; on_boards = boards_hold; on_tables = tables_hold }
