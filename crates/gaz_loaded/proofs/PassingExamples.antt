-- What the definitions of numbers that pass on come to on worked examples.
use Rattle.std.proofs.Common.{◌≡◌, ◌∙◌, ◌≤◌, ◌⊎◌, ◌||◌, ℕ, zero, suc, [], inl, inr, refl, sym, ap, subst, arith}
use Rattle.std.specs.Prelude.{Option, Some, None, filter, map}
use Rattle.std.specs.Cmp.{nat_cmp_total}
use Rattle.std.specs.FinMap as finite
use Rattle.std.specs.FinSet as set
use Rattle.std.specs.Ordering.{nat_cmp}
use Rattle.sqlite_rules.specs.Lists.{Has}
use Rattle.gaz_records.proofs.KeyOrder.{keys_exact, keys_total}
use Rattle.gaz_records.specs.Keys.{key_cmp}
use Rattle.gaz_views.specs.View.{View, empty_view}
use Rattle.gaz_keeper.specs.Board.{view_after}
use Rattle.gaz_keeper.specs.Keeper.{empty_content}
use Rattle.gaz_overlay.specs.Passages.{PassageRow, custody_after, lasts_after, passed_keys, with_passages}
use Rattle.gaz_loaded.specs.Examples.{first_entered}
use Rattle.gaz_loaded.specs.Passing.{ComesBehind, IsNext, passage_of}
use Rattle.gaz_loaded.specs.PassingExamples.{WorkedAnswers, WorkedBoards, WorkedOrder, another, given_up, taken_back, three_rows}
use Rattle.gaz_loaded.specs.declared.listed.Passage.{Passage}

-- ---- the order

not_behind : (x : Passage) (p : PassageRow) → p.uprn ≤ x.uprn → (x.uprn ≡ p.uprn → p.born ≤ x.born) → ¬ ComesBehind (Some x) p
not_behind x p le at (inl less) = omega (arith, le, less)
not_behind x p le at (inr both) = let low = at both.0 in let high = both.1 in omega (arith, low, high)

pub order : WorkedOrder
order = record {
  told = refl;
  from_the_start = tt;
  later_volume = inr (refl, omega arith);
  later_number = inl (omega arith);
  not_itself = not_behind (passage_of given_up) given_up (omega arith) (λ e. omega arith);
  not_earlier = not_behind (passage_of another) taken_back (omega arith) (λ e. omega (arith, e));
}

-- ---- answers

-- what holds of each of the three
of_three : (P : PassageRow → Type 0) → P given_up → P another → P taken_back → (p : PassageRow) → Has three_rows p → P p
of_three P a b c p (inl is) = subst P (sym is) a
of_three P a b c p (inr (inl is)) = subst P (sym is) b
of_three P a b c p (inr (inr (inl is))) = subst P (sym is) c
of_three P a b c p (inr (inr (inr never))) = absurd never

first : IsNext None three_rows (passage_of given_up)
first = record {
  row = given_up;
  there = inl refl;
  is = refl;
  first = of_three (λ p. ComesBehind None p → (p ≡ given_up) ⊎ ComesBehind (Some (passage_of given_up)) p) (λ b. inl refl) (λ b. inr (inl (omega arith))) (λ b. inr order.later_volume);
}

second : IsNext (Some (passage_of given_up)) three_rows (passage_of taken_back)
second = record {
  row = taken_back;
  there = inr (inr (inl refl));
  is = refl;
  first = of_three (λ p. ComesBehind (Some (passage_of given_up)) p → (p ≡ taken_back) ⊎ ComesBehind (Some (passage_of taken_back)) p) (λ b. absurd (order.not_itself b)) (λ b. inr order.later_number) (λ b. inl refl);
}

third : IsNext (Some (passage_of taken_back)) three_rows (passage_of another)
third = record {
  row = another;
  there = inr (inl refl);
  is = refl;
  first = of_three (λ p. ComesBehind (Some (passage_of taken_back)) p → (p ≡ another) ⊎ ComesBehind (Some (passage_of another)) p)
      (λ b. absurd (not_behind (passage_of taken_back) given_up (omega arith) (λ e. omega arith) b)) (λ b. inl refl) (λ b. absurd (not_behind (passage_of taken_back) taken_back (omega arith) (λ e. omega arith) b));
}

-- nothing that comes behind is told before another row
not_next : (after : Option Passage) (x : Passage) (p : PassageRow) → Has three_rows p → ComesBehind after p → ¬ (passage_of p ≡ x) → ¬ ComesBehind (Some x) p → ¬ IsNext after three_rows x
not_next after x p there behind other early next = by_first (next.first p there behind)
  where
    by_first : (p ≡ next.row) ⊎ ComesBehind (Some x) p → ⊥
    by_first (inl same) = other (ap passage_of same ∙ sym next.is)
    by_first (inr later) = early later

number_of : (p : PassageRow) (x : Passage) → passage_of p ≡ x → p.uprn ≡ x.uprn
number_of p x same = ap (λ (y : Passage). y.uprn) same

birth_of : (p : PassageRow) (x : Passage) → passage_of p ≡ x → p.born ≡ x.born
birth_of p x same = ap (λ (y : Passage). y.born) same

pub answers : WorkedAnswers
answers = record {
  all = record { in_turn = (first, (second, (third, tt))); none = λ e. cc };
  one = record { in_turn = (first, tt); none = λ e. cc };
  rest = record { in_turn = (second, (third, tt)); none = λ e. cc };
  at_the_end = record {
    in_turn = tt;
    none = λ e. of_three (λ p. ¬ ComesBehind (Some (passage_of another)) p) (not_behind (passage_of another) given_up (omega arith) (λ e. omega (arith, e))) (not_behind (passage_of another) another (omega arith) (λ e. omega arith)) order.not_earlier;
  };
  ends_too_early = λ is. is.none refl another (inr (inl refl)) order.later_number;
  one_left_out = λ is.
      not_next None (passage_of taken_back) given_up (inl refl) tt (λ same. let e = birth_of given_up (passage_of taken_back) same in omega (arith, e))
      (not_behind (passage_of taken_back) given_up (omega arith) (λ e. omega arith)) is.in_turn.0;
  not_as_they_stand = λ is.
      not_next (Some (passage_of given_up)) (passage_of another) taken_back (inr (inr (inl refl))) order.later_volume (λ same. let e = number_of taken_back (passage_of another) same in omega (arith, e)) order.not_earlier is.in_turn.0;
}

-- ---- boards

custody_is : (t n : ℕ) → finite.get (custody_after three_rows t) n ≡ finite.find nat_cmp n (map (λ p. (p.uprn, p.custody)) (filter (lasts_after t) three_rows))
unfolding custody_after
custody_is t n = finite.get-from_entries nat_cmp_total (map (λ p. (p.uprn, p.custody)) (filter (lasts_after t) three_rows)) n

nothing_became : (n : ℕ) → finite.get empty_view.custody n ≡ None
unfolding empty_view
nothing_became n = finite.get-empty nat_cmp n

no_key_used : set.union empty_view.used (passed_keys three_rows 0) ≡ empty_view.used
unfolding empty_view passed_keys
no_key_used = set.same_set keys_total keys_exact _ _ (λ q.
    set.contains-union keys_total empty_view.used (passed_keys three_rows 0) q
    ∙ (λ i. set.contains-empty key_cmp q i || set.contains-from_list keys_total [] q i)
    ∙ sym (set.contains-empty key_cmp q))

nothing_yet : empty_view.custody ≡ custody_after three_rows 0
unfolding empty_view custody_after
nothing_yet = refl

nothing_before : empty_view ≡ with_passages empty_view three_rows 0
nothing_before = λ i. record empty_view { used = sym no_key_used i; custody = nothing_yet i }

pub boards : WorkedBoards first_entered.board
boards = record {
  nothing_told = refl;
  none_so_far = λ t le. none t le;
  one_is_missing = λ has.
      let wrong : None ≡ Some another.custody = sym (nothing_became 501) ∙ ap (λ (v : View). finite.get v.custody 501) (has 1 (omega arith)) ∙ custody_is 1 501 in
      cc;
  none_or_all = inl bare;
}
  where
    none : (t : ℕ) → t ≤ 0 → view_after empty_content.board 1001 t ≡ with_passages empty_view three_rows t
    none zero le = nothing_before
    none (suc t) le = absurd (omega arith)

    bare : (t : ℕ) → view_after first_entered.board 1001 t ≡ empty_view
    bare zero = refl
    bare (suc zero) = refl
    bare (suc (suc t)) = refl
