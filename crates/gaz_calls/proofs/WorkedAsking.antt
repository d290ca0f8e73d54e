-- Worked examples on why a call that asks the tables fails, and on what is at hand.
use Rattle.std.proofs.Common.{◌≡◌, ◌∙◌, ℕ, Bool, true, false, [], ◌∷◌, inl, inr, ap, arith, length, refl, subst, sym}
use Rattle.std.specs.Prelude.{Option, Some, None, IfSome}
use Rattle.std.specs.BTreeMap.{is_at}
use Rattle.std.specs.Map.{lookup}
use Rattle.std.specs.Ordering.{nat_cmp}
use Rattle.sqlite.specs.Effect.{Database}
use Rattle.sqlite.specs.declared.error.Error.TheVariants.{QueryReturnedNoRows}
use Rattle.sqlite_trees.specs.View.{doubt}
use Rattle.gaz_sql_facts.specs.Reasons.{HasReason, IsHindered}
use Rattle.gaz_keeper.specs.Received.{count_above}
use Rattle.gaz_counts.specs.declared.at_hand.AtHand.{AtHand}
use Rattle.gaz_counts.proofs.Noting.{code_at}
use Rattle.gaz_kept.specs.Examples.{six_files}
use Rattle.gaz_kept.specs.Files.{files_in, reached_in}
use Rattle.gaz_kept.proofs.Examples.{worked_examples_hold}
use Rattle.gaz_calls.specs.Remembered.{IsSo, held_in}
use Rattle.gaz_calls.specs.Seen.{IsQuiet}
use Rattle.gaz_calls.specs.WorkedAsking.{AreSoOf, WorkedAsking, WorkedHand, failed_over, failed_times, four}

free : ¬ IsHindered (failed_times 2) (failed_times 2)
free (inl more) = omega (arith, more)
free (inr (inl shut)) = cc
free (inr (inr limited)) = cc

no_reason : ¬ HasReason (failed_times 2) (failed_times 2) QueryReturnedNoRows
no_reason (inl want) = cc
no_reason (inr hindered) = free hindered

calm : (db : Database) → IsQuiet (failed_over db 2) (failed_over db 2)
unfolding doubt
calm db = record { unharmed = record { clean = refl; is_open = refl }; faultless = λ more. omega (arith, more); unlimited = refl }

-- ---- what is at hand

reached_4 : reached_in six_files 1001 ≡ 4
reached_4 = worked_examples_hold.on_files.reached

-- one file waits above the judged ones
waits_1 : held_in six_files 1001 ≡ 1
waits_1 = ap (count_above (files_in six_files) 1001) reached_4 ∙ worked_examples_hold.on_files.waits

judged_4 : (held : Option ℕ) → IfSome held (λ n. n ≡ 1) → IsSo six_files 1001 (four held)
judged_4 held as_many = record { reached = sym reached_4; held = option_so held as_many }
  where
    option_so : (held : Option ℕ) → IfSome held (λ n. n ≡ 1) → IfSome held (λ n. n ≡ held_in six_files 1001)
    option_so None is = tt
    option_so (Some n) is = is ∙ sym waits_1

-- of nobody else is anything at hand
so_of : (h : AtHand) → IsSo six_files 1001 h → AreSoOf h
so_of h so at_hand is c = subst (λ es. IfSome (lookup (is_at (nat_cmp c)) es) (IsSo six_files c)) (sym is) (by_code (is_at (nat_cmp c) 1001) refl)
  where
    by_code : (b : Bool) → is_at (nat_cmp c) 1001 ≡ b → IfSome (lookup (is_at (nat_cmp c)) ((1001, h) ∷ [])) (IsSo six_files c)
    by_code true is = rw is (subst (λ d. IsSo six_files d h) (sym (code_at c 1001 is)) so)
    by_code false is = rw is tt

hand_holds : WorkedHand
hand_holds = record {
  so = so_of (four (Some 1)) (judged_4 (Some 1) refl);
  uncounted = so_of (four None) (judged_4 None tt);
  miscounted = λ so. let many : 2 ≡ 1 = so.held ∙ waits_1 in absurd (omega (arith, many));
  of_another = λ so. let many : 4 ≡ 1 = so.reached ∙ ap length worked_examples_hold.on_files.of_1002 in absurd (omega (arith, many));
  of_nobody = λ files at_hand is c. subst (λ es. IfSome (lookup (is_at (nat_cmp c)) es) (IsSo files c)) (sym is) tt;
}

pub worked_asking : WorkedAsking
worked_asking = record {
  earlier = free;
  failed = inl (omega arith);
  was_shut = inr (inl refl);
  was_limited = inr (inr refl);
  wants = inl refl;
  none = no_reason;
  quiet = calm (failed_times 2).now;
  not_while_failing = λ quiet. quiet.faultless (omega arith);
  not_shut = λ quiet. let e = quiet.unharmed.is_open in absurd (cc);
  not_limited = λ quiet. let e = quiet.unlimited in absurd (cc);
  not_full = λ quiet. quiet.faultless (omega arith);
  answered = tt;
  told_want = λ same. cc;
  told_failure = λ fine. fine refl;
  counted = refl;
  past_counting = refl;
  may_fail = λ db quiet kept. absurd (quiet.faultless (omega arith));
  may_not = λ db kept served. served (calm db) kept refl;
  at_hand = hand_holds;
}
