-- What the definitions come to on worked examples.
use Rattle.std.proofs.Common.{◌≡◌, ◌∙◌, ◌<◌, ◌≤◌, ℕ, zero, suc, pos, ◌≤ℤ◌, false, true, List, [], ◌∷◌, inl, inr, refl, sym, ap, subst, arith}
use Rattle.std.specs.Prelude.{Some, None, IsSome, is_some, slice_get, unwrap_or}
use Rattle.std.proofs.lemmas.Int.{ints}
use Rattle.std.specs.FinMap as finite
use Rattle.sqlite_rules.specs.Lists.{Has}
use Rattle.gaz_keeper.proofs.Pairs.{pairs_total}
use Rattle.gaz_keeper.specs.Board.{reached}
use Rattle.gaz_keeper.specs.Examples.{first_received, three_files}
use Rattle.gaz_keeper.specs.Keeper.{Content, IsLawful, after_stop, empty_content}
use Rattle.gaz_views.proofs.Lawful.{lawful_empty}
use Rattle.gaz_keeper.specs.Received.{Received, pair_cmp, with_file}
use Rattle.gaz_views.proofs.Trees.{no_entries}
use Rattle.gaz_views.specs.Judgements.{views}
use Rattle.gaz_views.specs.View.{empty_view}
use Rattle.gaz_loaded.specs.Examples.{WorkedExamples, WorkedFiles, WorkedLives, WorkedLoading, WorkedPages, WorkedVolumes, both, current, ended}
use Rattle.gaz_loaded.specs.Lives.{IsBehind, IsFirst, Told}
use Rattle.gaz_loaded.specs.Telling.{AreAbove, told}
use Rattle.gaz_loaded.proofs.PassingExamples.{answers, boards, order}

-- ---- lives

-- what holds of each of the two
of_both : (P : Told → Type 0) → P (told ended) → P (told current) → (x : Told) → Has both x → P x
of_both P a b x (inl is) = subst P (sym is) a
of_both P a b x (inr (inl is)) = subst P (sym is) b
of_both P a b x (inr (inr never)) = absurd never

first : IsFirst None both (told ended)
first = record {
  there = inl refl;
  first = of_both (λ y. IsBehind None y → y.place ≤ℤ pos 2 → y ≡ told ended) (λ b low. refl) (λ b low. absurd (omega (arith, ints, low)));
}

next : IsFirst (Some (pos 2)) both (told current)
next = record {
  there = inr (inl refl);
  first = of_both (λ y. IsBehind (Some (pos 2)) y → y.place ≤ℤ pos 4 → y ≡ told current) (λ behind low. absurd (omega (arith, ints, behind))) (λ b low. refl);
}

place_same : told ended ≡ told current → pos 4 ≤ℤ pos 2
place_same same = subst (λ i. i ≤ℤ pos 2) (ap (λ (x : Told). x.place) same) (omega (arith, ints))

not_first : ¬ IsFirst None both (told current)
not_first is = let wrong = place_same (is.first (told ended) (inl refl) tt (omega (arith, ints))) in omega (arith, ints, wrong)

lives : WorkedLives
lives = record {
  one = refl;
  other = refl;
  nobody = refl;
  until_4 = refl;
  never = refl;
  by_2 = omega (arith, ints);
  not_by_2 = λ by. omega (arith, ints, by);
  not_before_all = λ by. by;
  behind_2 = omega (arith, ints);
  not_behind_2 = λ behind. omega (arith, ints, behind);
  first = first;
  next = next;
  not_first = not_first;
}

pages : WorkedPages
pages = record {
  all = record { in_turn = (first, (next, tt)); none = λ e. cc };
  one = record { in_turn = (first, tt); none = λ e. cc };
  rest = record { in_turn = (next, tt); none = λ e. cc };
  at_the_end = record { in_turn = tt; none = λ e. of_both (λ x. x.place ≤ℤ pos 4) (omega (arith, ints)) (omega (arith, ints)) };
  ends_too_early = λ is. let wrong = is.none refl (told current) (inr (inl refl)) in omega (arith, ints, wrong);
  one_left_out = λ is. not_first is.in_turn.0;
}

-- ---- files

-- the entries with one more file
with_one : (F : Received) (es : List ((ℕ × ℕ) × List ℕ)) (c volume : ℕ) → finite.entries F ≡ es → finite.entries (with_file F c volume []) ≡ finite.put pair_cmp (c, volume) [] es
with_one F es c volume is = finite.entries-insert pairs_total F (c, volume) [] ∙ ap (finite.put pair_cmp (c, volume) []) is

three_entries : finite.entries three_files ≡ ((1001, 1), []) ∷ ((1001, 3), []) ∷ ((1002, 2), []) ∷ []
three_entries = with_one _ _ 1001 1 (with_one _ _ 1002 2 (with_one _ _ 1001 3 (no_entries _ _)))

found : (p : ℕ × ℕ) → finite.get three_files p ≡ finite.find pair_cmp p (((1001, 1), []) ∷ ((1001, 3), []) ∷ ((1002, 2), []) ∷ [])
found p = finite.get-entries three_files p ∙ ap (finite.find pair_cmp p) three_entries

nothing : (p : ℕ × ℕ) → finite.get {X = List ℕ} (finite.empty {R = pair_cmp}) p ≡ None
nothing p = finite.get-empty pair_cmp p

none_there : {A : Type 0} (p : ℕ × ℕ) → IsSome (finite.get {X = List ℕ} (finite.empty {R = pair_cmp}) p) → A
none_there p some = let wrong : false ≡ true = sym (ap is_some (nothing p)) ∙ some in absurd (cc)

there_1 : IsSome (finite.get three_files (1001, 1))
there_1 = ap is_some (found (1001, 1))

there_3 : IsSome (finite.get three_files (1001, 3))
there_3 = ap is_some (found (1001, 3))

not_2 : {A : Type 0} → IsSome (finite.get three_files (1001, 2)) → A
not_2 some = let wrong : false ≡ true = sym (ap is_some (found (1001, 2))) ∙ some in absurd (cc)

not_among : {A : Type 0} (v n : ℕ) → Has (n ∷ []) v → (v ≡ n → A) → A
not_among v n (inl is) wrong = wrong is
not_among v n (inr never) wrong = absurd never

above_1 : AreAbove three_files 1001 1 (3 ∷ [])
above_1 = record {
  only = λ v here. not_among v 3 here (λ is. (omega (arith, is), subst (λ n. IsSome (finite.get three_files (1001, n))) (sym is) there_3));
  rising = (tt, tt);
  all = λ last v is above low. at v above (let e : 3 ≡ last = cc in omega (arith, e, low));
  none = λ e. cc;
}
  where
    at : (v : ℕ) → 1 < v → v ≤ 3 → IsSome (finite.get three_files (1001, v)) → Has (3 ∷ []) v
    at zero above low some = absurd (omega arith)
    at (suc zero) above low some = absurd (omega arith)
    at (suc (suc zero)) above low some = not_2 some
    at (suc (suc (suc zero))) above low some = inl refl
    at (suc (suc (suc (suc n)))) above low some = absurd (omega arith)

volumes : WorkedVolumes
volumes = record {
  last = refl;
  last_of_none = refl;
  above_1 = above_1;
  of_nothing = record { only = λ v here. absurd here; rising = tt; all = λ last v e above low some. none_there (1001, v) some; none = λ e v above some. none_there (1001, v) some };
  ends_too_early = λ is. is.none refl 3 (omega arith) there_3;
  one_left_out = λ is. not_among 1 3 (is.all 3 1 refl (omega arith) (omega arith) there_1) (λ e. omega (arith, e));
  not_above = λ is. let more = (is.only 1 (inl refl)).0 in omega (arith, more);
  not_received = λ is. not_2 (is.only 2 (inl refl)).1;
  told_twice = λ is. let more = is.rising.0.0 in omega (arith, more);
}

there : (v : ℕ) → Has (1 ∷ 3 ∷ []) v → IsSome (finite.get three_files (1001, v))
there v (inl is) = subst (λ n. IsSome (finite.get three_files (1001, n))) (sym is) there_1
there v (inr (inl is)) = subst (λ n. IsSome (finite.get three_files (1001, n))) (sym is) there_3
there v (inr (inr never)) = absurd never

received : IsSome (finite.get first_received.files (1001, 1))
received = ap is_some (finite.get-insert pairs_total (finite.empty {X = List ℕ} {R = pair_cmp}) (1001, 1) [] (1001, 1))

a_file : finite.get first_received.files (1001, 1) ≡ Some []
a_file = finite.get-insert pairs_total (finite.empty {X = List ℕ} {R = pair_cmp}) (1001, 1) [] (1001, 1)

not_kept : {A : Type 0} → after_stop first_received ≡ after_stop empty_content → A
not_kept same = none_there (1001, 1) (subst (λ (k : Content). IsSome (finite.get k.files (1001, 1))) same received)

lawful : IsLawful empty_content
lawful = record { views = λ c. elim [ zero ↦ lawful_empty | suc n ↦ lawful_empty ]; working = lawful_empty }

files : WorkedFiles
files = record {
  none_of_them = λ p bytes is. let wrong : None ≡ Some bytes = sym (nothing p) ∙ is in cc;
  too_many = λ all. let wrong : None ≡ Some [] = sym (nothing (1001, 1)) ∙ all (1001, 1) [] (found (1001, 1)) in cc;
  there = there;
  not_there = λ all. not_2 (all 2 (inl refl));
  all = λ v low some. some;
  not_all = λ all. none_there (1001, 1) (all 1 (omega arith) there_1);
  nothing_yet = record { files = λ p bytes is. let wrong : None ≡ Some bytes = sym (nothing p) ∙ is in cc; verdicts = λ c v low. refl; bare = λ c v. bare v; idle = refl };
  more_than_kept = λ is. let wrong : None ≡ Some [] = sym (nothing (1001, 1)) ∙ is.files (1001, 1) [] a_file in cc;
  read = record {
    keeps = record { harm = λ u. u; stands = λ s _. s; content = λ _ _. refl; progress = refl; leaves = λ _ k left. left; whole = λ _ w. w };
    failures = omega arith;
    trust = λ t. t;
  };
  written = λ is. not_kept (is.keeps.leaves (λ _. lawful) (after_stop first_received) refl);
}
  where
    bare : (v : ℕ) → unwrap_or (slice_get (views []) v) empty_view ≡ empty_view
    bare = elim [ zero ↦ refl | suc n ↦ refl ]

-- ---- loading

loading : WorkedLoading
loading = record {
  entered = record { next = refl; becomes = refl };
  not_the_next = λ is. let e = is.next in omega (arith, e);
  not_entered = λ is. let e : ◌≡◌ {A = ℕ} 0 1 = ap (λ (k : Content). reached k.board 1001) is.becomes in omega (arith, e);
  of_nobody = record { known = λ c v some. none_there (c, v) some; volumes = λ c v some. none_there (c, v) some; judged = λ c other. refl };
  of_others = λ is. not_among 1001 1002 (is.known 1001 1 received) (λ e. omega (arith, e));
}

pub worked_examples_hold : WorkedExamples
worked_examples_hold = record { on_lives = lives; on_pages = pages; on_volumes = volumes; on_files = files; on_loading = loading; on_order = order; on_answers = answers; on_boards = boards }
