-- What the definitions come to on worked examples.
use Rattle.std.proofs.Common.{◌≡◌, ◌∙◌, ◌&&◌, cond, inl, inr, ℕ, false, true, List, [], ◌∷◌, map, not, refl, sym, ap, is_some}
use Rattle.std.specs.Prelude.{◌==◌, None, Some, count_by, nat_le}
use Rattle.std.specs.Cmp.{nat_cmp_total}
use Rattle.std.specs.FinMap as finite
use Rattle.std.specs.FinSet as set
use Rattle.std.specs.Ordering.{eq_by_cmp, nat_cmp}
use Rattle.gaz_records.proofs.KeyOrder.{keys_total}
use Rattle.gaz_records.specs.declared.item.Item.TheVariants as item
use Rattle.gaz_records.specs.declared.key.Key.TheVariants as key
use Rattle.gaz_views.proofs.Emptiness.{no_custody}
use Rattle.gaz_views.proofs.Trees.{no_entries}
use Rattle.gaz_views.specs.CustodyExamples.{alone}
use Rattle.gaz_views.specs.Examples.{no_more}
use Rattle.gaz_views.specs.View.{custody_at}
use Rattle.gaz_views.specs.declared.custody.Custody.TheVariants.{Adopted, Released}
use Rattle.gaz_keeper.proofs.Pairs.{pairs_total}
use Rattle.gaz_keeper.specs.Examples.{WorkedBoards, WorkedContents, WorkedExamples, WorkedFiles, WorkedPassing, WorkedStops, first_received, third_adopts, third_releases, three_files}
use Rattle.gaz_keeper.specs.Keeper.{Content, after_stop, empty_content}
use Rattle.gaz_keeper.specs.Received.{Received, count_above, pair_cmp, with_file}

abbrev Entries : Type 0
Entries = List ((ℕ × ℕ) × List ℕ)

-- the entries with one more file
with_one : (F : Received) (es : Entries) (c volume : ℕ) → finite.entries F ≡ es → finite.entries (with_file F c volume []) ≡ finite.put pair_cmp (c, volume) [] es
with_one F es c volume is = finite.entries-insert pairs_total F (c, volume) [] ∙ ap (finite.put pair_cmp (c, volume) []) is

three_entries : finite.entries three_files ≡ ((1001, 1), []) ∷ ((1001, 3), []) ∷ ((1002, 2), []) ∷ []
three_entries = with_one _ _ 1001 1 (with_one _ _ 1002 2 (with_one _ _ 1001 3 (no_entries _ _)))

counted : (c volume : ℕ) → count_above three_files c volume ≡ count_by {X = ℕ × ℕ} (λ p. (p.0 == c) && not (nat_le p.1 volume)) ((1001, 1) ∷ (1001, 3) ∷ (1002, 2) ∷ [])
counted c volume = ap (λ (es : Entries). count_by {X = ℕ × ℕ} (λ p. (p.0 == c) && not (nat_le p.1 volume)) (map (λ e. e.0) es)) three_entries

-- a file tells them apart
not_the_same : ¬ (after_stop empty_content ≡ after_stop first_received)
not_the_same same =
    let none : is_some (finite.get empty_content.files (1001, 1)) ≡ false = ap is_some (finite.get-empty pair_cmp (1001, 1)) in
    let there : is_some (finite.get first_received.files (1001, 1)) ≡ true = ap is_some (finite.get-insert pairs_total (finite.empty {X = List ℕ} {R = pair_cmp}) (1001, 1) [] (1001, 1)) in
    let clash : false ≡ true = sym none ∙ ap (λ (k : Content). is_some (finite.get k.files (1001, 1))) same ∙ there in
    absurd (cc)

-- nothing became of numbers before
released_at : (n : ℕ) → custody_at third_releases.working n ≡ cond (eq_by_cmp nat_cmp n 500) (Some (Released 1002 1)) None
released_at n = finite.get-insert nat_cmp_total no_more.custody 500 (Released 1002 1) n ∙ ap (λ o. cond (eq_by_cmp nat_cmp n 500) (Some (Released 1002 1)) o) (no_custody n)

adopted_at : (n : ℕ) → custody_at third_adopts.working n ≡ cond (eq_by_cmp nat_cmp n 500) (Some (Adopted 1002 2)) None
adopted_at n = finite.get-insert nat_cmp_total no_more.custody 500 (Adopted 1002 2) n ∙ ap (λ o. cond (eq_by_cmp nat_cmp n 500) (Some (Adopted 1002 2)) o) (no_custody n)

pub worked_examples_hold : WorkedExamples
worked_examples_hold = record { on_boards = on_boards; on_contents = on_contents; on_passing = on_passing; on_files = on_files; on_stops = on_stops }
  where
    on_boards : WorkedBoards
    on_boards = record {
      two_reached = refl;
      none_reached = refl;
      nowhere_reached = refl;
      at_first = refl;
      after_1 = refl;
      after_2 = refl;
      of_another = refl;
      on_none = refl;
      on_1 = refl;
      on_2 = refl;
      on_3 = refl;
      on_another = refl;
    }

    on_contents : WorkedContents
    on_contents = record {
      kept_verdict = refl;
      kept_view = refl;
      kept_earlier = refl;
      kept_alone = refl;
      kept_closed = refl;
      kept_idle = refl;
      kept_broken = refl;
      skipped_verdict = refl;
      skipped_view = refl;
      skipped_earlier = refl;
      skipped_alone = refl;
      first_verdict = refl;
      first_view = refl;
    }

    on_passing : WorkedPassing
    on_passing = record {
      released = released_at 500;
      others_stay = released_at 501;
      used = set.contains-insert keys_total no_more.used (key.Blpu 500) (key.Blpu 500);
      not_kept_yet = no_custody 500;
      kept = released_at 500;
      not_earlier = no_custody 500;
      not_of_another = no_custody 500;
      skipped = no_custody 500;
      adopted = adopted_at 500;
      stands = finite.get-insert keys_total no_more.items (key.Blpu 500) (item.Blpu alone) (key.Blpu 500);
      adoption_stays = adopted_at 500;
      given_up = no_custody 500;
    }

    on_files : WorkedFiles
    on_files = record {
      above_none = counted 1001 0;
      above_1 = counted 1001 1;
      above_3 = counted 1001 3;
      of_another = counted 1002 1;
      of_none = counted 1003 0;
    }

    on_stops : WorkedStops
    on_stops = record {
      read = λ k left. left;
      received = λ k left. inr (tt, left);
      refused = λ k left. inl left;
      committed = λ k left. (tt, left);
      lost = λ just. not_the_same (just (after_stop empty_content) refl).1;
      alone = λ k left. left;
      read_more = λ more. not_the_same (sym (more (after_stop first_received) refl));
    }
