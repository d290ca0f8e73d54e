-- Histories as a list in which no row stands twice.
use Rattle.std.proofs.Common.{◌≡◌, ◌≢◌, ◌∙◌, ◌≤◌, ◌<◌, ◌==◌, ◌&&◌, ◌⊎◌, inl, inr, ℕ, Bool, true, false, cond, List, [], ◌∷◌, refl, sym, ap, subst, arith, eq-eqb, eqb-true, true≢false}
use Rattle.std.proofs.lemmas.Bool.{and_from, and_parts, cases_lt}
use Rattle.std.specs.Cmp.{tied_itself}
use Rattle.std.specs.List.{AllByRecursion, list_any}
use Rattle.std.specs.Ordering.{eq_by_cmp, is_eq}
use Rattle.sqlite_rules.specs.Lists.{Has}
use Rattle.sqlite_rules.proofs.ListLemmas.{some_from, some_has}
use Rattle.gaz_records.proofs.KeyOrder.{keys_total}
use Rattle.gaz_records.specs.Keys.{key_cmp}
use Rattle.gaz_records.specs.declared.key.Key.{Key}
use Rattle.gaz_views.proofs.SameKeys.{same_key}
use Rattle.gaz_overlay.specs.Changes.{Changes}
use Rattle.gaz_overlay.specs.Rows.{AllApart, AreApart, AreHistories, AreTold, HasCurrent, HistoryRow, IsBefore, IsCurrent, IsUntil}
use Rattle.gaz_kept.specs.Histories.{AreSame}
use Rattle.gaz_kept.specs.Kept.{AreInTurn, AreThrough}
use Rattle.gaz_kept.proofs.AtKeys.{has_current}
use Rattle.gaz_kept.proofs.Statements.{AreOnce}
use Rattle.gaz_kept.proofs.Written.{Rows}

-- ---- lists

pub all_of : {X : Type 0} (P : X → Type 0) (xs : List X) → AllByRecursion P xs → (x : X) → Has xs x → P x
all_of P [] all x there = absurd there
all_of P (y ∷ xs) all x (inl same) = subst P (sym same) all.0
all_of P (y ∷ xs) all x (inr there) = all_of P xs all.1 x there

pub each_of : {X : Type 0} (P : X → Type 0) (xs : List X) → ((x : X) → Has xs x → P x) → AllByRecursion P xs
each_of P [] each = tt
each_of P (x ∷ xs) each = (each x (inl refl), each_of P xs (λ y there. each y (inr there)))

-- ---- a list without doubles

abbrev is_birth : HistoryRow → HistoryRow → Bool
is_birth a b = eq_by_cmp key_cmp a.key b.key && (a.born == b.born)

of_birth : (a b : HistoryRow) → a.key ≡ b.key → a.born ≡ b.born → is_birth a b ≡ true
of_birth a b key born = and_from (eq_by_cmp key_cmp a.key b.key) (a.born == b.born) (subst (λ x. eq_by_cmp key_cmp a.key x ≡ true) key (ap is_eq (tied_itself keys_total a.key))) (eq-eqb a.born b.born born)

-- each row, where no later one has its birth
abbrev pub singly : Rows → Rows
singly [] = []
singly (r ∷ rows) = cond (list_any (is_birth r) rows) (singly rows) (r ∷ singly rows)

pub singly_only : (rows : Rows) (r : HistoryRow) → Has (singly rows) r → Has rows r
singly_only [] r there = there
singly_only (s ∷ rows) r there = by_test (singly_only rows r) (list_any (is_birth s) rows) there
  where
    by_test : (Has (singly rows) r → Has rows r) → (b : Bool) → Has (cond b (singly rows) (s ∷ singly rows)) r → (r ≡ s) ⊎ Has rows r
    by_test behind true h = inr (behind h)
    by_test behind false (inl same) = inl same
    by_test behind false (inr h) = inr (behind h)

fewer : (s : HistoryRow) (rows : Rows) → AreOnce (s ∷ rows) → AreOnce rows
fewer s rows once a b ha hb = once a b (inr ha) (inr hb)

pub singly_kept : (rows : Rows) → AreOnce rows → (r : HistoryRow) → Has rows r → Has (singly rows) r
singly_kept [] once r there = there
singly_kept (s ∷ rows) once r there = by_test (singly_kept rows (fewer s rows once)) (list_any (is_birth s) rows) refl there
  where
    -- where a later row has its birth it is that row
    later : ((t : HistoryRow) → Has rows t → Has (singly rows) t) → list_any (is_birth s) rows ≡ true → Has (singly rows) s
    later behind is =
        let t = some_has (is_birth s) rows is in
        let both = and_parts (eq_by_cmp key_cmp s.key t.0.key) (s.born == t.0.born) t.2 in
        subst (Has (singly rows)) (sym (once s t.0 (inl refl) (inr t.1) (same_key s.key t.0.key both.0) (eqb-true s.born t.0.born both.1))) (behind t.0 t.1)

    by_test : ((t : HistoryRow) → Has rows t → Has (singly rows) t) → (b : Bool) → list_any (is_birth s) rows ≡ b → (r ≡ s) ⊎ Has rows r → Has (cond b (singly rows) (s ∷ singly rows)) r
    by_test behind true is (inl same) = subst (Has (singly rows)) (sym same) (later behind is)
    by_test behind true is (inr h) = behind r h
    by_test behind false is (inl same) = inl same
    by_test behind false is (inr h) = inr (behind r h)

pub singly_same : (rows : Rows) → AreInTurn rows → AreSame rows (singly rows)
singly_same rows apart = record { only = λ r there. singly_only rows r there; kept = λ r there. singly_kept rows apart.once r there }

-- ---- histories, with each two rows apart

in_order : (rows : Rows) → AreInTurn rows → (a b : HistoryRow) → Has rows a → Has rows b → a.key ≡ b.key → a.born ≢ b.born → IsBefore a b ⊎ IsBefore b a
in_order rows turn a b ha hb key other = by_birth (cases_lt a.born b.born)
  where
    by_birth : (a.born < b.born) ⊎ (b.born ≤ a.born) → IsBefore a b ⊎ IsBefore b a
    by_birth (inl less) = inl (record { born = less; gone = turn.in_turn a b ha hb key less })
    by_birth (inr le) = let less : b.born < a.born = omega (arith, other) in inr (record { born = less; gone = turn.in_turn b a hb ha (sym key) less })

singly_apart : (rows : Rows) → AreInTurn rows → AllApart (singly rows)
singly_apart [] turn = tt
singly_apart (r ∷ rows) turn =
    by_test (singly_apart rows (record { once = fewer r rows turn.once; in_turn = λ a b ha hb. turn.in_turn a b (inr ha) (inr hb) })) (list_any (is_birth r) rows) refl
  where
    by_test : AllApart (singly rows) → (t : Bool) → list_any (is_birth r) rows ≡ t → AllApart (cond t (singly rows) (r ∷ singly rows))
    by_test rest true is = rest
    by_test rest false is = (
      each_of (AreApart r) (singly rows) (λ s there key.
          let h = singly_only rows s there in
          in_order (r ∷ rows) turn r s (inl refl) (inr h) key (λ born. true≢false (sym (some_from (is_birth r) rows s h (of_birth r s key born)) ∙ is))),
      rest,
    )

pub histories_of : (n : ℕ) (rows : Rows) → AreThrough n rows → AreHistories n (singly rows)
histories_of n rows through = record {
  until = each_of (IsUntil n) (singly rows) (λ r there. through.until r (singly_only rows r there));
  apart = singly_apart rows through.apart;
}

-- of two rows in the list, they are one or apart
two_rows : (rows : Rows) → AllApart rows → (a b : HistoryRow) → Has rows a → Has rows b → a.key ≡ b.key → (a ≡ b) ⊎ (IsBefore a b ⊎ IsBefore b a)
two_rows [] apart a b ha hb key = absurd ha
two_rows (r ∷ rows) apart a b (inl sa) (inl sb) key = inl (sa ∙ sym sb)
two_rows (r ∷ rows) apart a b (inl sa) (inr hb) key =
    subst (λ x. (x ≡ b) ⊎ (IsBefore x b ⊎ IsBefore b x)) (sym sa) (inr (all_of (AreApart r) rows apart.0 b hb (ap (λ (x : HistoryRow). x.key) (sym sa) ∙ key)))
two_rows (r ∷ rows) apart a b (inr ha) (inl sb) key = turned (all_of (AreApart r) rows apart.0 a ha (ap (λ (x : HistoryRow). x.key) (sym sb) ∙ sym key))
  where
    turned : IsBefore r a ⊎ IsBefore a r → (a ≡ b) ⊎ (IsBefore a b ⊎ IsBefore b a)
    turned (inl h) = inr (inr (subst (λ x. IsBefore x a) (sym sb) h))
    turned (inr h) = inr (inl (subst (IsBefore a) (sym sb) h))
two_rows (r ∷ rows) apart a b (inr ha) (inr hb) key = two_rows rows apart.1 a b ha hb key

pub through_of : (n : ℕ) (rows : Rows) → AreHistories n rows → AreThrough n rows
through_of n rows h = record {
  until = λ r there. all_of (IsUntil n) rows h.until r there;
  apart = record {
    once = λ a b ha hb key born. one a b born (two_rows rows h.apart a b ha hb key);
    in_turn = λ a b ha hb key less. turn a b less (two_rows rows h.apart a b ha hb key);
  };
}
  where
    one : (a b : HistoryRow) → a.born ≡ b.born → (a ≡ b) ⊎ (IsBefore a b ⊎ IsBefore b a) → a ≡ b
    one a b born (inl same) = same
    one a b born (inr (inl less)) = let l = less.born in absurd (omega arith)
    one a b born (inr (inr less)) = let l = less.born in absurd (omega arith)

    turn : (a b : HistoryRow) → a.born < b.born → (a ≡ b) ⊎ (IsBefore a b ⊎ IsBefore b a) → a.gone ≤ b.born
    turn a b less (inl same) = let e = ap (λ (x : HistoryRow). x.born) same in absurd (omega arith)
    turn a b less (inr (inl before)) = before.gone
    turn a b less (inr (inr after)) = let l = after.born in absurd (omega arith)

-- the same rows are histories through the same volume
pub through_same : (n : ℕ) (old new : Rows) → AreSame old new → AreThrough n old → AreThrough n new
through_same n old new same h = record {
  until = λ r there. h.until r (same.only r there);
  apart = record {
    once = λ a b ha hb. h.apart.once a b (same.only a ha) (same.only b hb);
    in_turn = λ a b ha hb. h.apart.in_turn a b (same.only a ha) (same.only b hb);
  };
}

-- ---- current rows

-- the current row of a key
pub record Current (rows : Rows) (k : Key) (volume : ℕ) : Type 0 where
  pub row : HistoryRow
  pub there : Has rows row
  pub is : IsCurrent k volume row

pub current_of : (rows : Rows) (k : Key) (volume : ℕ) → HasCurrent rows k volume → Current rows k volume
current_of [] k volume h = absurd h
current_of (r ∷ rows) k volume (inl is) = record { row = r; there = inl refl; is = is }
current_of (r ∷ rows) k volume (inr h) = let x = current_of rows k volume h in record { row = x.row; there = inr x.there; is = x.is }

pub told_singly : (c : Changes) (rows : Rows) → AreInTurn rows → AreTold c rows → AreTold c (singly rows)
told_singly c rows turn told = record {
  told = λ k volume since.
      let x = current_of rows k volume (told.told k volume since) in
      has_current (singly rows) k volume x.row (singly_kept rows turn.once x.row x.there) x.is;
}
