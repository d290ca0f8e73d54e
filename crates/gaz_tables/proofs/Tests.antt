-- WHERE, by the values of a row: what each test says of a column that holds integers or texts.
use Rattle.std.proofs.Common.{◌≡◌, ℕ, ℤ, ◌≤ℤ◌, ◌<ℤ◌, ◌&&◌, Bool, true, false, List, [], ◌∷◌, refl, sym, ap, subst, ◌∙◌}
use Rattle.std.proofs.lemmas.Bool.{and_parts, and_from}
use Rattle.std.specs.Cmp.{int_ranks, int_chain}
use Rattle.std.specs.Int.Signed.{<ℤ_irrefl}
use Rattle.std.specs.Ordering.{is_gt, int_cmp, nat_cmp, MatchOrdering}
use Rattle.std.specs.Cmp.Lexicographic.{slice_cmp}
use Rattle.std.specs.declared.cmp.Ordering.{Ordering}
use Rattle.std.specs.declared.cmp.Ordering.TheVariants.{Less, Equal, Greater}
use Rattle.sqlite_value.specs.declared.value.Value.{Value}
use Rattle.sqlite_value.specs.declared.value.Value.TheVariants.{Int, Text}
use Rattle.sqlite_value.specs.Order.{Row, column}
use Rattle.sqlite_sql.specs.declared.ops.CompareOp.{CompareOp}
use Rattle.sqlite_sql.specs.declared.ops.CompareOp.TheVariants.{Eq, Le, Gt}
use Rattle.gaz_sql_facts.proofs.Equal.{holds_of, int_is, text_is, same_int, same_text, within_is, is_within, compared-Int, compared-Text}

-- the column at a place, an operator, and what is on its right
abbrev pub Test : Type 0
Test = ℕ × CompareOp × Value

abbrev pub all_hold : List Test → Row → Bool
all_hold [] r = true
all_hold (t ∷ ts) r = holds_of t.1 (column r t.0) t.2 && all_hold ts r

-- what a test says of the column's value
abbrev pub Meets : CompareOp → Value → Value → Type 0
Meets Eq v x = x ≡ v
Meets Le (Int n) x = (m : ℤ) × (x ≡ Int m) × (m ≤ℤ n)
Meets Gt (Int n) x = (m : ℤ) × (x ≡ Int m) × (n <ℤ m)
Meets Gt (Text t) x = (s : List ℕ) × (x ≡ Text s) × (slice_cmp nat_cmp s t ≡ Greater)
Meets _ v x = ⊥

-- the column's values are of the kind that is tested
abbrev pub Suits : Value → Value → Type 0
Suits (Int n) x = (m : ℤ) × (x ≡ Int m)
Suits (Text t) x = (s : List ℕ) × (x ≡ Text s)
Suits _ x = ⊥

abbrev pub MeetsAll : List Test → Row → Type 0
MeetsAll [] r = Unit {0}
MeetsAll (t ∷ ts) r = Meets t.1 t.2 (column r t.0) × MeetsAll ts r

abbrev pub SuitsAll : List Test → Row → Type 0
SuitsAll [] r = Unit {0}
SuitsAll (t ∷ ts) r = Suits t.2 (column r t.0) × SuitsAll ts r

-- the operators that are used
abbrev pub is_plain : CompareOp → Value → Bool
is_plain Eq v = true
is_plain Le (Int n) = true
is_plain Gt (Int n) = true
is_plain Gt (Text t) = true
is_plain _ v = false

abbrev pub are_plain : List Test → Bool
are_plain [] = true
are_plain (t ∷ ts) = is_plain t.1 t.2 && are_plain ts

above : (m n : ℤ) (r : Ordering) → MatchOrdering r (m <ℤ n) (m ≡ n) (n <ℤ m) → is_gt r ≡ true → n <ℤ m
above m n Greater g h = g
above m n Equal e h = absurd (cc)
above m n Less l h = absurd (cc)

greater : (r : Ordering) → is_gt r ≡ true → r ≡ Greater
greater Greater h = refl
greater Equal h = absurd (cc)
greater Less h = absurd (cc)

above_from : (m n : ℤ) (r : Ordering) → MatchOrdering r (m <ℤ n) (m ≡ n) (n <ℤ m) → n <ℤ m → is_gt r ≡ true
above_from m n Greater g h = refl
above_from m n Equal e h = absurd (<ℤ_irrefl (subst (λ k. n <ℤ k) e h))
above_from m n Less l h = absurd (<ℤ_irrefl (int_chain m n m l h))

one_means : (op : CompareOp) (v x : Value) → is_plain op v ≡ true → Suits v x → holds_of op x v ≡ true → Meets op v x
one_means Eq (Int n) x p s h = int_is x n s h
one_means Eq (Text t) x p s h = text_is x t s h
one_means Eq v x p s h = absurd s
one_means Le (Int n) x p s h = (s.0, s.1, within_is s.0 n (subst (λ y. holds_of Le y (Int n) ≡ true) s.1 h))
one_means Gt (Int n) x p s h = (s.0, s.1, above s.0 n (int_cmp s.0 n) (int_ranks s.0 n) (sym (compared-Int Gt s.0 n) ∙ subst (λ y. holds_of Gt y (Int n) ≡ true) s.1 h))
one_means Gt (Text t) x p s h = (s.0, s.1, greater (slice_cmp nat_cmp s.0 t) (sym (compared-Text Gt s.0 t) ∙ subst (λ y. holds_of Gt y (Text t) ≡ true) s.1 h))
one_means op v x p s h = absurd (cc)

one_met : (op : CompareOp) (v x : Value) → Suits v x → Meets op v x → holds_of op x v ≡ true
one_met Eq (Int n) x s h = same_int x n h
one_met Eq (Text t) x s h = same_text x t h
one_met Eq v x s h = absurd s
one_met Le (Int n) x s h = rw h.1 (is_within h.0 n h.2)
one_met Gt (Int n) x s h = rw h.1 (compared-Int Gt h.0 n ∙ above_from h.0 n (int_cmp h.0 n) (int_ranks h.0 n) h.2)
one_met Gt (Text t) x s h = rw h.1 (compared-Text Gt h.0 t ∙ ap is_gt h.2)
one_met op v x s h = absurd h

-- a row of the right kinds passes just where it meets each test
pub means : (ts : List Test) (r : Row) → are_plain ts ≡ true → SuitsAll ts r → all_hold ts r ≡ true → MeetsAll ts r
means [] r p s h = tt
means (t ∷ ts) r p s h = let both = and_parts _ _ p in let parts = and_parts _ _ h in (one_means t.1 t.2 (column r t.0) both.0 s.0 parts.0, means ts r both.1 s.1 parts.1)

pub met : (ts : List Test) (r : Row) → SuitsAll ts r → MeetsAll ts r → all_hold ts r ≡ true
met [] r s h = refl
met (t ∷ ts) r s h = and_from _ _ (one_met t.1 t.2 (column r t.0) s.0 h.0) (met ts r s.1 h.1)
