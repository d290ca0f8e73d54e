-- What the definitions come to on worked examples.
use Rattle.std.proofs.Common.{◌≡◌, ◌⊎◌, ◌∙◌, inl, inr, ℕ, ◌<◌, ◌+◌, ◌≤◌, zero, suc, ℤ, pos, ◌≤ℤ◌, ◌<ℤ◌, Bool, true, false, List, [], ◌∷◌, refl, sym, ap, subst, arith, codes}
use Rattle.std.proofs.lemmas.Int.{ints}
use Rattle.std.specs.Prelude.{◌==◌, ◌||◌, slice_index_or}
use Rattle.std.specs.Ordering.{is_lt, nat_cmp}
use Rattle.std.specs.Cmp.Lexicographic.{slice_cmp}
use Rattle.std.specs.declared.cmp.Ordering.TheVariants.{Greater}
use Rattle.sqlite_value.proofs.OrderLemmas.{value_cmp-Int, value_cmp-Text}
use Rattle.sqlite.specs.Order.{Row, column, value_cmp}
use Rattle.sqlite.specs.declared.types.Value.{Value}
use Rattle.sqlite.specs.declared.types.Value.TheVariants.{Int, Text}
use Rattle.sqlite_rules.specs.Lists.{Has}
use Rattle.gaz_tables.proofs.CreatingExamples.{creating_holds}
use Rattle.gaz_tables.proofs.CustodyExamples.{custody_holds}
use Rattle.gaz_tables.proofs.MigratingExamples.{migrating_holds}
use Rattle.gaz_tables.proofs.StoreExamples.{stores_hold}
use Rattle.gaz_tables.specs.Shows.{IsAnyRow, Picks}
use Rattle.gaz_tables.specs.Examples.{WorkedVersions, WorkedRowids, WorkedReceiveds, WorkedExamples, flat_2, flat_3, shop, house, four_rows, rejected_1, held_3, of_1002, three_files}
use Rattle.gaz_tables.specs.Receiveds.{IsVolume, IsAbove}
use Rattle.gaz_tables.specs.Rowids.{IsPlacedBehind}
use Rattle.gaz_tables.specs.Versions.{IsOfKey, IsOfKeyUntil, IsApprovedOf, IsHolding, IsOfBirth, Closes, FindsNewest, FindsNewestUntil, gone_at, id_place, life_shown}

-- the row of this rowid
abbrev numbered : ℕ → Row → Bool
numbered n (Int (pos m) ∷ r) = m == n
numbered n r = false

-- what holds of each of four rows, and of each of three files
of_four : (P : Row → Type 0) → P flat_2 → P flat_3 → P shop → P house → (r : Row) → Has four_rows r → P r
of_four P a b c d r (inl is) = subst P (sym is) a
of_four P a b c d r (inr (inl is)) = subst P (sym is) b
of_four P a b c d r (inr (inr (inl is))) = subst P (sym is) c
of_four P a b c d r (inr (inr (inr (inl is)))) = subst P (sym is) d
of_four P a b c d r (inr (inr (inr (inr never)))) = absurd never

of_three : (P : Row → Type 0) → P rejected_1 → P held_3 → P of_1002 → (r : Row) → Has three_files r → P r
of_three P a b c r (inl is) = subst P (sym is) a
of_three P a b c r (inr (inl is)) = subst P (sym is) b
of_three P a b c r (inr (inr (inl is))) = subst P (sym is) c
of_three P a b c r (inr (inr (inr never))) = absurd never

-- whether a value is this number, and whether its text ends with this code as its second
abbrev is_number : ℕ → Value → Bool
is_number n (Int (pos m)) = m == n
is_number n v = false

abbrev is_second : ℕ → Value → Bool
is_second n (Text (a ∷ b ∷ [])) = b == n
is_second n v = false

clash : {A : Type 0} → false ≡ true → A
clash e = absurd (cc)

not_number : {A : Type 0} {v w : Value} (n : ℕ) → v ≡ w → is_number n v ≡ false → is_number n w ≡ true → A
not_number n e f t = clash (sym f ∙ ap (is_number n) e ∙ t)

not_text : {A : Type 0} {v w : Value} (n : ℕ) → v ≡ w → is_second n v ≡ false → is_second n w ≡ true → A
not_text n e f t = clash (sym f ∙ ap (is_second n) e ∙ t)

int_same : (m n : ℤ) → Int m ≡ Int n → m ≡ n
int_same m n e = cc

text_same : (s t : List ℕ) → Text s ≡ Text t → s ≡ t
text_same s t e = cc

-- a row's number is what it is said to be
at_most : (m n k : ℤ) → Int m ≡ Int n → m ≤ℤ k → n ≤ℤ k
at_most m n k e h = subst (λ i. i ≤ℤ k) (int_same m n e) h

is_at_most : (m n k : ℤ) → Int m ≡ Int n → n ≤ℤ k → m ≤ℤ k
is_at_most m n k e h = subst (λ i. i ≤ℤ k) (sym (int_same m n e)) h

newest : FindsNewest 1001 24 (codes "K1") four_rows (life_shown flat_3 ∷ [])
newest = (
  flat_3,
  pos 3,
  record {
    there = inr (inl refl);
    fits = record { of_cust = refl; of_kind = refl; of_id = refl };
    number = refl;
    last = λ s m there. of_four (λ s. IsOfKey 1001 24 (codes "K1") s → column s 8 ≡ Int m → m ≤ℤ pos 3)
        (λ f e. at_most (pos 1) m (pos 3) e (omega arith))
        (λ f e. at_most (pos 3) m (pos 3) e (omega arith))
        (λ f e. not_text 49 f.of_id refl refl)
        (λ f e. not_number 1001 f.of_cust refl refl) s there;
  },
  refl,
)

not_the_oldest : ¬ FindsNewest 1001 24 (codes "K1") four_rows (life_shown flat_2 ∷ [])
not_the_oldest it =
    let top = it.2 in
    let same : pos 1 ≡ it.1 = int_same (pos 1) it.1 (ap (λ (r : Row). column r 0) it.3 ∙ top.number) in
    let least : pos 3 ≤ℤ it.1 = top.last flat_3 (pos 3) (inr (inl refl)) (record { of_cust = refl; of_kind = refl; of_id = refl }) refl in
    let wrong : pos 3 ≤ℤ pos 1 = subst (λ i. pos 3 ≤ℤ i) (sym same) least in
    omega (arith, wrong)

until_2 : FindsNewestUntil 1001 24 (codes "K1") 2 four_rows (life_shown flat_2 ∷ [])
until_2 = (
  flat_2,
  pos 1,
  record {
    there = inl refl;
    fits = record { of_key = record { of_cust = refl; of_kind = refl; of_id = refl }; early = (pos 1, refl, omega arith) };
    number = refl;
    last = λ s m there. of_four (λ s. IsOfKeyUntil 1001 24 (codes "K1") 2 s → column s 8 ≡ Int m → m ≤ℤ pos 1)
        (λ f e. at_most (pos 1) m (pos 1) e (omega arith))
        (λ f e. let wrong : pos 3 ≤ℤ pos 2 = is_at_most (pos 3) f.early.0 (pos 2) f.early.1 f.early.2 in absurd (omega (arith, wrong)))
        (λ f e. not_text 49 f.of_key.of_id refl refl)
        (λ f e. not_number 1001 f.of_key.of_cust refl refl) s there;
  },
  refl,
)

of_no_key : FindsNewest 1001 24 (codes "K3") four_rows []
of_no_key r there = of_four (λ r. ¬ IsOfKey 1001 24 (codes "K3") r) (λ f. not_text 51 f.of_id refl refl) (λ f. not_text 51 f.of_id refl refl) (λ f. not_text 51 f.of_id refl refl) (λ f. not_text 51 f.of_id refl refl) r there

approved : Picks (IsApprovedOf 1001 (pos 42)) four_rows (flat_3 ∷ [])
approved = record {
  test = numbered 2;
  sound = of_four (λ r. numbered 2 r ≡ true → IsApprovedOf 1001 (pos 42) r)
      (λ e. absurd (cc))
      (λ e. record { approved = record { of_cust = refl; of_kind = refl; is_live = refl; is_current = refl }; of_blpu = refl })
      (λ e. absurd (cc))
      (λ e. absurd (cc));
  complete = of_four (λ r. IsApprovedOf 1001 (pos 42) r → numbered 2 r ≡ true)
      (λ f. not_number 1000000 f.approved.is_current refl refl)
      (λ f. refl)
      (λ f. not_number 1 f.approved.is_live refl refl)
      (λ f. not_number 1001 f.approved.of_cust refl refl);
  same = record { moves = []; below = tt; is = refl };
}

abbrev two_tested : Row → Bool
two_tested r = numbered 1 r || numbered 3 r

two_held : Picks (IsHolding 1001 24 [] 2) four_rows (flat_2 ∷ shop ∷ [])
two_held = record {
  test = two_tested;
  sound = of_four (λ r. two_tested r ≡ true → IsHolding 1001 24 [] 2 r)
      (λ e. record { of_cust = refl; of_kind = refl; behind = (codes "K1", refl, refl); early = (pos 1, refl, omega arith); late = (pos 3, refl, omega arith) })
      (λ e. absurd (cc))
      (λ e. record { of_cust = refl; of_kind = refl; behind = (codes "K2", refl, refl); early = (pos 2, refl, omega arith); late = (pos 1000000, refl, omega arith) })
      (λ e. absurd (cc));
  complete = of_four (λ r. IsHolding 1001 24 [] 2 r → two_tested r ≡ true)
      (λ f. refl)
      (λ f. let wrong : pos 3 ≤ℤ pos 2 = is_at_most (pos 3) f.early.0 (pos 2) f.early.1 f.early.2 in absurd (omega (arith, wrong)))
      (λ f. refl)
      (λ f. not_number 1001 f.of_cust refl refl);
  same = record { moves = []; below = tt; is = refl };
}

two_rise : (k : ℕ) (d : Row) → 0 ≤ k → k + 1 < 2
    → is_lt (value_cmp (column (slice_index_or (flat_2 ∷ shop ∷ []) (k + 1) d) id_place) (column (slice_index_or (flat_2 ∷ shop ∷ []) k d) id_place)) ≡ false
two_rise zero d low high = ap is_lt (value_cmp-Text (codes "K2") (codes "K1"))
two_rise (suc k) d low high = absurd (omega (arith, high))

shop_held : Picks (IsHolding 1001 24 (codes "K1") 2) four_rows (shop ∷ [])
shop_held = record {
  test = numbered 3;
  sound = of_four (λ r. numbered 3 r ≡ true → IsHolding 1001 24 (codes "K1") 2 r)
      (λ e. absurd (cc))
      (λ e. absurd (cc))
      (λ e. record { of_cust = refl; of_kind = refl; behind = (codes "K2", refl, refl); early = (pos 2, refl, omega arith); late = (pos 1000000, refl, omega arith) })
      (λ e. absurd (cc));
  complete = of_four (λ r. IsHolding 1001 24 (codes "K1") 2 r → numbered 3 r ≡ true)
      (λ f. itself f.behind.0 f.behind.1 f.behind.2)
      (λ f. itself f.behind.0 f.behind.1 f.behind.2)
      (λ f. refl)
      (λ f. not_number 1001 f.of_cust refl refl);
  same = record { moves = []; below = tt; is = refl };
}
  where
    itself : {A : Type 0} (t : List ℕ) → Text (codes "K1") ≡ Text t → slice_cmp nat_cmp t (codes "K1") ≡ Greater → A
    itself t e h = let wrong : slice_cmp nat_cmp (codes "K1") (codes "K1") ≡ Greater = subst (λ s. slice_cmp nat_cmp s (codes "K1") ≡ Greater) (sym (text_same (codes "K1") t e)) h in absurd (cc)

of_birth : IsOfBirth 1001 24 (codes "K1") 3 flat_3
of_birth = record { of_key = record { of_cust = refl; of_kind = refl; of_id = refl }; of_born = refl }

not_of_birth : ¬ IsOfBirth 1001 24 (codes "K1") 3 house
not_of_birth f = not_number 1001 f.of_key.of_cust refl refl

closed : Closes 1001 24 (codes "K1") 3 5 (flat_3 ∷ house ∷ []) (gone_at 5 flat_3 ∷ house ∷ [])
closed = record { only = only; done = done; kept = kept }
  where
    Born : Row → Type 0
    Born = IsOfBirth 1001 24 (codes "K1") 3

    only : (r : Row) → Has (gone_at 5 flat_3 ∷ house ∷ []) r → (Has (flat_3 ∷ house ∷ []) r × ¬ Born r) ⊎ ((s : Row) × Has (flat_3 ∷ house ∷ []) s × Born s × (r ≡ gone_at 5 s))
    only r (inl is) = inr (flat_3, inl refl, of_birth, is)
    only r (inr (inl is)) = inl (inr (inl is), λ f. not_of_birth (subst Born is f))
    only r (inr (inr never)) = absurd never

    done : (s : Row) → Has (flat_3 ∷ house ∷ []) s → Born s → Has (gone_at 5 flat_3 ∷ house ∷ []) (gone_at 5 s)
    done s (inl is) f = inl (ap (gone_at 5) is)
    done s (inr (inl is)) f = absurd (not_of_birth (subst Born is f))
    done s (inr (inr never)) f = absurd never

    kept : (r : Row) → Has (flat_3 ∷ house ∷ []) r → ¬ Born r → Has (gone_at 5 flat_3 ∷ house ∷ []) r
    kept r (inl is) other = absurd (other (subst Born (sym is) of_birth))
    kept r (inr (inl is)) other = inr (inl is)
    kept r (inr (inr never)) other = absurd never

on_versions : WorkedVersions
on_versions = record {
  newest = newest;
  not_the_oldest = not_the_oldest;
  until_2 = until_2;
  of_no_key = of_no_key;
  approved = record { chosen = flat_3 ∷ []; picks = approved; shown = refl };
  first_of_two = record { chosen = flat_2 ∷ shop ∷ []; picks = two_held; rising = two_rise; shown = refl };
  behind_the_first = record { chosen = shop ∷ []; picks = shop_held; rising = λ k d low high. absurd (omega (arith, high)); shown = refl };
  closed = closed;
  closed_row = refl;
}

all_four : Picks IsAnyRow four_rows four_rows
all_four = record {
  test = λ r. true;
  sound = λ r there e. tt;
  complete = λ r there fits. refl;
  same = record { moves = []; below = tt; is = refl };
}

four_rise : (k : ℕ) (d : Row) → 0 ≤ k → k + 1 < 4 → is_lt (value_cmp (column (slice_index_or four_rows (k + 1) d) 0) (column (slice_index_or four_rows k d) 0)) ≡ false
four_rise zero d low high = ap is_lt (value_cmp-Int (pos 2) (pos 1))
four_rise (suc zero) d low high = ap is_lt (value_cmp-Int (pos 3) (pos 2))
four_rise (suc (suc zero)) d low high = ap is_lt (value_cmp-Int (pos 4) (pos 3))
four_rise (suc (suc (suc k))) d low high = absurd (omega (arith, high))

-- a row of a rowid that isn't above the number
not_behind : {A : Type 0} (m n : ℤ) (r : Row) → column r 0 ≡ Int m → m ≤ℤ n → IsPlacedBehind n r → A
not_behind m n r is low f = let wrong : n <ℤ m = subst (λ i. n <ℤ i) (sym (int_same m f.0 (sym is ∙ f.1))) f.2 in absurd (omega (arith, ints, wrong, low))

abbrev last_two : Row → Bool
last_two r = numbered 3 r || numbered 4 r

two_behind : Picks (IsPlacedBehind (pos 2)) four_rows (shop ∷ house ∷ [])
two_behind = record {
  test = last_two;
  sound = of_four (λ r. last_two r ≡ true → IsPlacedBehind (pos 2) r)
      (λ e. absurd (cc))
      (λ e. absurd (cc))
      (λ e. (pos 3, refl, omega arith))
      (λ e. (pos 4, refl, omega arith));
  complete = of_four (λ r. IsPlacedBehind (pos 2) r → last_two r ≡ true)
      (λ f. not_behind (pos 1) (pos 2) flat_2 refl (omega arith) f)
      (λ f. not_behind (pos 2) (pos 2) flat_3 refl (omega arith) f)
      (λ f. refl)
      (λ f. refl);
  same = record { moves = []; below = tt; is = refl };
}

behind_rise : (k : ℕ) (d : Row) → 0 ≤ k → k + 1 < 2 → is_lt (value_cmp (column (slice_index_or (shop ∷ house ∷ []) (k + 1) d) 0) (column (slice_index_or (shop ∷ house ∷ []) k d) 0)) ≡ false
behind_rise zero d low high = ap is_lt (value_cmp-Int (pos 4) (pos 3))
behind_rise (suc k) d low high = absurd (omega (arith, high))

none_behind : Picks (IsPlacedBehind (pos 4)) four_rows []
none_behind = record {
  test = λ r. false;
  sound = λ r there e. absurd (cc);
  complete = of_four (λ r. IsPlacedBehind (pos 4) r → false ≡ true)
      (λ f. not_behind (pos 1) (pos 4) flat_2 refl (omega arith) f)
      (λ f. not_behind (pos 2) (pos 4) flat_3 refl (omega arith) f)
      (λ f. not_behind (pos 3) (pos 4) shop refl (omega arith) f)
      (λ f. not_behind (pos 4) (pos 4) house refl (omega arith) f);
  same = record { moves = []; below = tt; is = refl };
}

on_rowids : WorkedRowids
on_rowids = record {
  first_two = record {
    page = record { chosen = four_rows; picks = all_four; rising = four_rise; shown = refl };
    strict = (
      (value_cmp-Int (pos 1) (pos 2), (value_cmp-Int (pos 1) (pos 3), (value_cmp-Int (pos 1) (pos 4), tt))),
      ((value_cmp-Int (pos 2) (pos 3), (value_cmp-Int (pos 2) (pos 4), tt)), ((value_cmp-Int (pos 3) (pos 4), tt), (tt, tt))),
    );
  };
  behind_2 = record {
    page = record { chosen = shop ∷ house ∷ []; picks = two_behind; rising = behind_rise; shown = refl };
    strict = ((value_cmp-Int (pos 3) (pos 4), tt), (tt, tt));
  };
  behind_all = record {
    page = record { chosen = []; picks = none_behind; rising = λ k d low high. absurd (omega (arith, high)); shown = refl };
    strict = tt;
  };
  whole_row = refl;
}

rejected : Picks (IsVolume 1001 1) three_files (rejected_1 ∷ [])
rejected = record {
  test = numbered 1;
  sound = of_three (λ r. numbered 1 r ≡ true → IsVolume 1001 1 r) (λ e. record { of_cust = refl; of_volume = refl }) (λ e. absurd (cc)) (λ e. absurd (cc));
  complete = of_three (λ r. IsVolume 1001 1 r → numbered 1 r ≡ true) (λ f. refl) (λ f. not_number 1 f.of_volume refl refl) (λ f. not_number 1001 f.of_cust refl refl);
  same = record { moves = []; below = tt; is = refl };
}

no_second : Picks (IsVolume 1001 2) three_files []
no_second = record {
  test = λ r. false;
  sound = λ r there e. absurd (cc);
  complete = of_three (λ r. IsVolume 1001 2 r → false ≡ true) (λ f. not_number 2 f.of_volume refl refl) (λ f. not_number 2 f.of_volume refl refl) (λ f. not_number 1001 f.of_cust refl refl);
  same = record { moves = []; below = tt; is = refl };
}

held : Picks (IsAbove 1001 1) three_files (held_3 ∷ [])
held = record {
  test = numbered 2;
  sound = of_three (λ r. numbered 2 r ≡ true → IsAbove 1001 1 r) (λ e. absurd (cc)) (λ e. record { of_cust = refl; above = (pos 3, refl, omega arith) }) (λ e. absurd (cc));
  complete = of_three (λ r. IsAbove 1001 1 r → numbered 2 r ≡ true)
      (λ f. let wrong : pos 1 <ℤ pos 1 = subst (λ i. pos 1 <ℤ i) (sym (int_same (pos 1) f.above.0 f.above.1)) f.above.2 in absurd (omega (arith, wrong)))
      (λ f. refl)
      (λ f. not_number 1001 f.of_cust refl refl);
  same = record { moves = []; below = tt; is = refl };
}

on_receiveds : WorkedReceiveds
on_receiveds = record {
  verdict = record { chosen = rejected_1 ∷ []; picks = rejected; shown = refl };
  of_no_volume = record { chosen = []; picks = no_second; shown = refl };
  above_1 = record {
    page = record { chosen = held_3 ∷ []; picks = held; rising = λ k d low high. absurd (omega (arith, high)); shown = refl };
    strict = (tt, tt);
  };
  file = refl;
  meta = refl;
}

pub worked_examples_hold : WorkedExamples
worked_examples_hold = record { on_versions = on_versions; on_rowids = on_rowids; on_receiveds = on_receiveds; on_custody = custody_holds; on_stores = stores_hold; on_creating = creating_holds; on_migrating = migrating_holds }
