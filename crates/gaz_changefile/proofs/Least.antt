-- A reading names the least fault.
use Rattle.std.proofs.Common.{◌≡◌, ◌⊎◌, ℕ, zero, suc, ◌+◌, ◌<◌, ◌≤◌, Bool, true, false, List, [], ◌∷◌, length, refl, arith, Option, Some, None, ap, ◌∙◌, sym, inl, inr, subst}
use Rattle.std.proofs.lemmas.Bool.{cases_Bool}
use Rattle.std.proofs.lemmas.Str.{IsUtf8-from_is_utf8, is_utf8-from_IsUtf8}
use Rattle.std.specs.List.{filter_map, range_with_len}
use Rattle.std.specs.Option.{option_map}
use Rattle.std.specs.Str.{IsUtf8, is_utf8}
use Rattle.gaz_rows.specs.Rows.{Fields, rows_of}
use Rattle.gaz_changefile.specs.Contents.{contents_of}
use Rattle.gaz_changefile.specs.Laws.{AreKept, BreaksFirst, LeastFault, TellsReading}
use Rattle.gaz_changefile.specs.Reading.{Fault, by_faults, fault_at, faults}
use Rattle.gaz_changefile.specs.Rules.{first_broken, rules_at}
use Rattle.gaz_changefile.proofs.Runs.{no_text, read_text}

are_kept : (rules : List (ℕ × Bool)) → first_broken rules ≡ None → AreKept rules
are_kept [] h = tt
are_kept ((n, true) ∷ rules) h = cc h
are_kept ((n, false) ∷ rules) h = (refl, are_kept rules h)

breaks_first : (rules : List (ℕ × Bool)) (rule : ℕ) → first_broken rules ≡ Some rule → BreaksFirst rules rule
breaks_first [] rule h = cc h
breaks_first ((n, true) ∷ rules) rule h = let e : n ≡ rule = cc h in record { before = []; after = rules; split = rw e refl; kept = tt }
breaks_first ((n, false) ∷ rules) rule h =
    let b = breaks_first rules rule h in
    record { before = (n, false) ∷ b.before; after = b.after; split = ap (λ (l : List (ℕ × Bool)). (n, false) ∷ l) b.split; kept = (refl, b.kept) }

-- where a list of faults is empty, and where its first comes from
data First {A : Type 0} (f : ℕ → Option A) (a n : ℕ) (x : A) : Type 0 where
  first : (i : ℕ) → a ≤ i → i < a + n → f i ≡ Some x → ((j : ℕ) → a ≤ j → j < i → f j ≡ None) → First f a n x

cases_option : {A : Type 0} (o : Option A) → (o ≡ None) ⊎ ((x : A) × (o ≡ Some x))
cases_option None = inl refl
cases_option (Some x) = inr (x, refl)

at_or_after : (P : ℕ → Type 0) (a i : ℕ) → a ≤ i → P a → (a + 1 ≤ i → P i) → P i
at_or_after P a i h p q = elim (le_cases a i h) [
  | inl e ↦ subst P e p
  | inr l ↦ q l
]
  where
    le_cases : (m n : ℕ) → m ≤ n → (m ≡ n) ⊎ (m + 1 ≤ n)
    le_cases zero zero h = inl refl
    le_cases zero (suc n) h = inr (omega arith)
    le_cases (suc m) zero h = absurd (omega arith)
    le_cases (suc m) (suc n) h = elim (le_cases m n (omega arith)) [
      | inl e ↦ inl (ap suc e)
      | inr l ↦ inr (omega arith)
    ]

none_at : {A : Type 0} (f : ℕ → Option A) (a n : ℕ) → filter_map f (range_with_len a n) ≡ [] → (i : ℕ) → a ≤ i → i < a + n → f i ≡ None
none_at f a zero e i h k = absurd (omega arith)
none_at f a (suc n) e i h k = elim (cases_option (f a)) [
  | inl none ↦ at_or_after (λ j. f j ≡ None) a i h none (λ l. none_at f (a + 1) n (rw none at e) i l (omega arith))
  | inr (x, some) ↦ cc (rw some at e)
]

first_at : {A : Type 0} (f : ℕ → Option A) (a n : ℕ) (x : A) (rest : List A) → filter_map f (range_with_len a n) ≡ x ∷ rest → First f a n x
first_at f a zero x rest e = cc e
first_at f a (suc n) x rest e = elim (cases_option (f a)) [
  | inl none ↦ elim (first_at f (a + 1) n x rest (rw none at e)) [
    | first i h k some before ↦ first i (omega arith) (omega arith) some (λ j l m. at_or_after (λ j. f j ≡ None) a j l none (λ l. before j l m))
  ]
  | inr (y, some) ↦ let q : y ≡ x = cc (rw some at e) in first a (omega arith) (omega arith) (some ∙ ap Some q) (λ j l m. absurd (omega arith))
]

-- from a fault to the rules
kept_at : (c v : ℕ) (rows : List Fields) (i : ℕ) (o : Option ℕ) → first_broken (rules_at c v rows i) ≡ o
    → ◌≡◌ {A = Option Fault} (option_map (λ rule. record { place = i + 1; rule = rule }) o) None → AreKept (rules_at c v rows i)
kept_at c v rows i None h e = are_kept (rules_at c v rows i) h
kept_at c v rows i (Some rule) h e = cc e

broken_at : (c v : ℕ) (rows : List Fields) (i : ℕ) (x : Fault) (o : Option ℕ) → first_broken (rules_at c v rows i) ≡ o
    → option_map (λ rule. record { place = i + 1; rule = rule }) o ≡ Some x → (x.place ≡ i + 1) × BreaksFirst (rules_at c v rows i) x.rule
broken_at c v rows i x None h e = cc e
broken_at c v rows i x (Some rule) h e =
    let q : record { place = i + 1; rule = rule } ≡ x = cc e in
    (sym (ap (λ (f : Fault). f.place) q), breaks_first (rules_at c v rows i) x.rule (h ∙ ap Some (ap (λ (f : Fault). f.rule) q)))

by_list : (bytes : List ℕ) (c v : ℕ) → IsUtf8 bytes → (fs : List Fault) → faults c v (rows_of bytes) ≡ fs
    → TellsReading bytes c v (by_faults (contents_of (rows_of bytes)) fs)
by_list bytes c v text [] e = record {
  text = text;
  kept = λ i h. kept_at c v (rows_of bytes) i _ refl (none_at (fault_at c v (rows_of bytes)) 0 (length (rows_of bytes) + 1) e i (omega arith) (omega arith));
  contents_are = refl;
}
by_list bytes c v text (x ∷ rest) e = elim (first_at (fault_at c v (rows_of bytes)) 0 (length (rows_of bytes) + 1) x rest e) [
  | first i h k some before ↦
      let b = broken_at c v (rows_of bytes) i x _ refl some in
      inr (record {
        text = text;
        index = i;
        place_is = b.0;
        within = omega arith;
        broken = b.1;
        least = λ j l. kept_at c v (rows_of bytes) j _ refl (before j (omega arith) l);
      })
]

pub least-fault : LeastFault
least-fault bytes c v = elim (cases_Bool (is_utf8 bytes)) [
  | inl is ↦ let text = IsUtf8-from_is_utf8 bytes is in rw (read_text bytes c v text) (by_list bytes c v text (faults c v (rows_of bytes)) refl)
  | inr isnt ↦
      let no : IsUtf8 bytes → ⊥ = λ h. cc (sym (is_utf8-from_IsUtf8 bytes h) ∙ isnt) in
      rw (no_text bytes c v no) (inl (no, refl, refl))
]
