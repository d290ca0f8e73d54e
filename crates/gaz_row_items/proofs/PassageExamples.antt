-- What rows of kind 92 come to on worked examples.
use Rattle.std.proofs.Common.{◌≡◌, ◌∙◌, ◌||◌, ℕ, pos, Bool, true, false, List, [], ◌∷◌, refl, ap, arith}
use Rattle.std.specs.FinMap as finite
use Rattle.std.specs.FinSet as set
use Rattle.std.specs.List.{cons_option}
use Rattle.sqlite.specs.declared.types.Value.TheVariants.{Int}
use Rattle.gaz_records.proofs.KeyOrder.{keys_total}
use Rattle.gaz_records.specs.declared.key.Key.TheVariants as key
use Rattle.gaz_views.specs.View.{custody_at, was_used}
use Rattle.gaz_views.specs.declared.custody.Custody.TheVariants.{Adopted, Released}
use Rattle.gaz_overlay.proofs.StandingRows.{used_after}
use Rattle.gaz_overlay.specs.Passages.{PassageRow, custody_after, has_passed, passed_keys}
use Rattle.gaz_overlay.specs.Rows.{view_after}
use Rattle.gaz_row_items.specs.Examples.{changed_101}
use Rattle.gaz_row_items.specs.PassageExamples.{WorkedPassages, WorkedPassing, WorkedTold, given_row, given_up, taken_back, taken_row, two_rows}
use Rattle.gaz_row_items.specs.Versions.{histories_in, passages_in, view_in}
use Rattle.gaz_row_items.proofs.CustodyFollows.{no_item, no_passage}
use Rattle.gaz_row_items.proofs.Examples.{none_passed}
use Rattle.gaz_row_items.proofs.PassagesAt.{custody_is, used_is}
use Rattle.gaz_row_items.proofs.PassageSaid.{says_passage}
use Rattle.gaz_row_items.proofs.Unsaid.{not_owned, history_none, passage_none}

other : ¬ (◌≡◌ {A = ℕ} 1001 1002)
other e = absurd (omega (arith, e))

-- ---- what the rows say

pub passages_1001 : passages_in two_rows 1001 ≡ given_up ∷ taken_back ∷ []
passages_1001 = λ i.
    cons_option (says_passage (Int (pos 5)) 1001 1 3 500 (Released 1002 1) refl refl i)
    (cons_option (says_passage (Int (pos 6)) 1001 3 1000000 500 (Adopted 1002 2) refl refl i) [])

passages_1002 : passages_in two_rows 1002 ≡ []
passages_1002 = λ i. cons_option (not_owned 1002 given_row other i) (cons_option (not_owned 1002 taken_row other i) [])

histories_1001 : histories_in two_rows 1001 ≡ []
histories_1001 = λ i. cons_option (history_none 1001 given_row (no_item given_row refl) i) (cons_option (history_none 1001 taken_row (no_item taken_row refl) i) [])

abbrev pub both : List PassageRow
both = given_up ∷ taken_back ∷ []

custody_then : (t : ℕ) → custody_at (view_in two_rows 1001 t) 500 ≡ finite.get (custody_after both t) 500
custody_then t = ap (λ ps. finite.get (custody_after ps t) 500) passages_1001

used_then : (t : ℕ) (b : Bool) → has_passed both t (key.Blpu 500) ≡ b → was_used (view_in two_rows 1001 t) (key.Blpu 500) ≡ b
used_then t b is =
    let items : was_used (view_after (histories_in two_rows 1001) t) (key.Blpu 500) ≡ false = ap (λ hs. was_used (view_after hs t) (key.Blpu 500)) histories_1001 ∙ used_after [] t (key.Blpu 500) in
    let passed = ap (λ ps. has_passed ps t (key.Blpu 500)) passages_1001 ∙ is in
    set.contains-union keys_total (view_after (histories_in two_rows 1001) t).used (passed_keys (passages_in two_rows 1001) t) (key.Blpu 500)
    ∙ (λ i. items i || passed i)

passing_holds : WorkedPassing
passing_holds = record {
  said = says_passage (Int (pos 5)) 1001 1 3 500 (Released 1002 1) refl refl;
  of_another = not_owned 1002 given_row other;
  no_item = history_none 1001 given_row (no_item given_row refl);
  no_passage = passage_none 1001 changed_101 (no_passage changed_101 refl);
  not_yet = custody_then 0 ∙ custody_is both 0 500;
  not_used_yet = used_then 0 false (used_is both 0 (key.Blpu 500));
  released = custody_then 2 ∙ custody_is both 2 500;
  but_used = used_then 2 true (used_is both 2 (key.Blpu 500));
  adopted = custody_then 3 ∙ custody_is both 3 500;
  of_1002 = ap (λ ps. finite.get (custody_after ps 3) 500) passages_1002 ∙ custody_is [] 3 500;
  items_pass_nothing = ap (λ ps. finite.get (custody_after ps 4) 500) (none_passed 1001) ∙ custody_is [] 4 500;
}

-- ---- what is told

told_holds : WorkedTold
told_holds = record {
  taken = record { born = refl; custody = refl; bare = record { language = refl; body = refl } };
  listed = record { born = refl; custody = refl; bare = record { language = refl; body = refl } };
  damaged = refl;
  texts = λ bare. let clash = bare.body in absurd (cc);
}

pub passages_hold : WorkedPassages
passages_hold = record { on_passing = passing_holds; on_told = told_holds }
