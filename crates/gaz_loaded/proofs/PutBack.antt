-- What became of a custodian's numbers, put back one after another.
use Rattle.std.proofs.Common.{◌≡◌, ◌≢◌, ◌∙◌, ◌≤◌, ◌++◌, ◌==◌, ◌&&◌, ◌||◌, ℕ, Bool, true, false, cond, nat_le, nat_lt, List, [], ◌∷◌, refl, sym, ap, subst, arith}
use Rattle.std.proofs.lemmas.Bool.Decides.{nat_tests}
use Rattle.std.specs.Cmp.{nat_cmp_total, unsigned_tied}
use Rattle.std.specs.FinMap as finite
use Rattle.std.specs.FinSet as set
use Rattle.std.specs.List.{list_any}
use Rattle.std.specs.Ordering.{eq_by_cmp}
use Rattle.std.specs.Prelude.{Option, Some}
use Rattle.gaz_records.proofs.KeyOrder.{keys_total}
use Rattle.gaz_records.specs.Keys.{key_cmp}
use Rattle.gaz_records.specs.declared.key.Key.{Key}
use Rattle.gaz_records.specs.declared.key.Key.TheVariants as key
use Rattle.gaz_views.specs.View.{View}
use Rattle.gaz_views.specs.declared.custody.Custody.{Custody}
use Rattle.gaz_keeper.specs.Board.{Board, reached, verdict_on, view_after}
use Rattle.gaz_ledger.specs.Passages.{with_passage, with_passed}
use Rattle.gaz_shelf.specs.Restoring.{IsPassageRestored}
use Rattle.gaz_loaded.specs.Restoring.{ArePutBack}
use Rattle.gaz_loaded.specs.declared.listed.Passage.{Passage}

-- ---- one more

pub back_more : (c : ℕ) (old mid new : Board) (xs : List Passage) (x : Passage) → ArePutBack c old xs mid → IsPassageRestored mid new c x.born x.uprn x.custody → ArePutBack c old (xs ++ x ∷ []) new
back_more c old mid new [] x before now = (new, subst (λ b. IsPassageRestored b new c x.born x.uprn x.custody) before now, refl)
back_more c old mid new (y ∷ xs) x before now = (before.0, before.1, back_more c before.0 mid new xs x before.2 now)

pub back_then : (c : ℕ) (old mid new : Board) (xs ys : List Passage) → ArePutBack c old xs mid → ArePutBack c mid ys new → ArePutBack c old (xs ++ ys) new
back_then c old mid new [] ys before now = subst (λ b. ArePutBack c b ys new) before now
back_then c old mid new (x ∷ xs) ys before now = (before.0, before.1, back_then c before.0 mid new xs ys before.2 now)

-- ---- what stays

pub as_many_back : (c : ℕ) (old new : Board) (xs : List Passage) → ArePutBack c old xs new → (d : ℕ) → reached new d ≡ reached old d
as_many_back c old new [] same d = ap (λ (b : Board). reached b d) same
as_many_back c old new (x ∷ xs) back d = as_many_back c back.0 new xs back.2 d ∙ back.1.reached d

pub verdicts_back : (c : ℕ) (old new : Board) (xs : List Passage) → ArePutBack c old xs new → (d v : ℕ) → verdict_on new d v ≡ verdict_on old d v
verdicts_back c old new [] same d v = ap (λ (b : Board). verdict_on b d v) same
verdicts_back c old new (x ∷ xs) back d v = verdicts_back c back.0 new xs back.2 d v ∙ back.1.verdicts d v

pub others_back : (c : ℕ) (old new : Board) (xs : List Passage) → ArePutBack c old xs new → (d : ℕ) → d ≢ c → new d ≡ old d
others_back c old new [] same d other = ap (λ (b : Board). b d) same
others_back c old new (x ∷ xs) back d other = others_back c back.0 new xs back.2 d other ∙ back.1.others d other

-- ---- what becomes of a view

abbrev pub put_all : ℕ → List Passage → View → View
put_all t [] v = v
put_all t (x ∷ xs) v = put_all t xs (with_passage x.born x.uprn x.custody t v)

pub views_back : (c : ℕ) (old new : Board) (xs : List Passage) → ArePutBack c old xs new → (t : ℕ) → t ≤ reached old c → view_after new c t ≡ put_all t xs (view_after old c t)
views_back c old new [] same t le = ap (λ (b : Board). view_after b c t) same
views_back c old new (x ∷ xs) back t le =
    let same = back.1.reached c in
    views_back c back.0 new xs back.2 t (omega (arith, same, le)) ∙ ap (put_all t xs) (back.1.views t le)

pub items_back : (t : ℕ) (xs : List Passage) (v : View) → (put_all t xs v).items ≡ v.items
items_back t [] v = refl
items_back t (x ∷ xs) v = items_back t xs (with_passage x.born x.uprn x.custody t v) ∙ one (nat_lt t x.born)
  where
    one : (b : Bool) → (cond b v (with_passed v x.uprn x.custody)).items ≡ v.items
    one true = refl
    one false = refl

-- ---- what last became of a number

abbrev pub is_said : ℕ → ℕ → Passage → Bool
is_said t n x = nat_le x.born t && (n == x.uprn)

-- the last that is said of it, or what was said before
abbrev pub said : ℕ → ℕ → List Passage → Option Custody → Option Custody
said t n [] g = g
said t n (x ∷ xs) g = said t n xs (cond (is_said t n x) (Some x.custody) g)

one_said : (t n : ℕ) (x : Passage) (v : View) → finite.get (with_passage x.born x.uprn x.custody t v).custody n ≡ cond (is_said t n x) (Some x.custody) (finite.get v.custody n)
one_said t n x v = by_birth (nat_lt t x.born) refl
  where
    by_birth : (b : Bool) → nat_lt t x.born ≡ b → finite.get (cond b v (with_passed v x.uprn x.custody)).custody n ≡ cond (is_said t n x) (Some x.custody) (finite.get v.custody n)
    by_birth true early =
        let no : nat_le x.born t ≡ false = grind (arith, nat_tests) in
        sym (ap (λ b. cond (b && (n == x.uprn)) (Some x.custody) (finite.get v.custody n)) no)
    by_birth false late =
        let yes : nat_le x.born t ≡ true = grind (arith, nat_tests) in
        finite.get-insert nat_cmp_total v.custody x.uprn x.custody n
        ∙ ap (λ b. cond b (Some x.custody) (finite.get v.custody n)) (unsigned_tied n x.uprn)
        ∙ sym (ap (λ b. cond (b && (n == x.uprn)) (Some x.custody) (finite.get v.custody n)) yes)

pub custody_said : (t n : ℕ) (xs : List Passage) (v : View) → finite.get (put_all t xs v).custody n ≡ said t n xs (finite.get v.custody n)
custody_said t n [] v = refl
custody_said t n (x ∷ xs) v = custody_said t n xs (with_passage x.born x.uprn x.custody t v) ∙ ap (said t n xs) (one_said t n x v)

-- ---- which keys are used

abbrev pub uses : ℕ → Key → Passage → Bool
uses t q x = nat_le x.born t && eq_by_cmp key_cmp q (key.Blpu x.uprn)

one_used : (t : ℕ) (q : Key) (x : Passage) (v : View) → set.contains (with_passage x.born x.uprn x.custody t v).used q ≡ (uses t q x || set.contains v.used q)
one_used t q x v = by_birth (nat_lt t x.born) refl
  where
    by_birth : (b : Bool) → nat_lt t x.born ≡ b → set.contains (cond b v (with_passed v x.uprn x.custody)).used q ≡ (uses t q x || set.contains v.used q)
    by_birth true early =
        let no : nat_le x.born t ≡ false = grind (arith, nat_tests) in
        sym (ap (λ b. (b && eq_by_cmp key_cmp q (key.Blpu x.uprn)) || set.contains v.used q) no)
    by_birth false late =
        let yes : nat_le x.born t ≡ true = grind (arith, nat_tests) in
        set.contains-insert keys_total v.used (key.Blpu x.uprn) q
        ∙ sym (ap (λ b. (b && eq_by_cmp key_cmp q (key.Blpu x.uprn)) || set.contains v.used q) yes)

or_swap : (a b c : Bool) → (a || (b || c)) ≡ ((b || a) || c)
or_swap true true c = refl
or_swap true false c = refl
or_swap false true c = refl
or_swap false false c = refl

pub used_told : (t : ℕ) (q : Key) (xs : List Passage) (v : View) → set.contains (put_all t xs v).used q ≡ (list_any (uses t q) xs || set.contains v.used q)
used_told t q [] v = refl
used_told t q (x ∷ xs) v =
    used_told t q xs (with_passage x.born x.uprn x.custody t v)
    ∙ ap (λ b. list_any (uses t q) xs || b) (one_used t q x v)
    ∙ or_swap (list_any (uses t q) xs) (uses t q x) (set.contains v.used q)
