-- The bytes of a path, its first slash, and its segments.
use Rattle.std.proofs.Common.{◌≡◌, ℕ, suc, ◌+◌, ◌-◌, ◌<◌, Bool, true, false, cond, List, [], ◌∷◌, ◌++◌, length, get_or, drop, ◌⊎◌, inl, inr, refl, ap, ◌∙◌, arith, length-append}
use Rattle.std.specs.Prelude.{◌&&◌, ◌==◌, nat_eq, nat_lt}
use Rattle.std.specs.List.{list_all}
use Rattle.std.specs.Cmp.Lexicographic.{pointwise}
use Rattle.std.proofs.lemmas.Bool.Decides.{nat_tests}
use Rattle.matchit.specs.Seek.{cuts, has_slash, segment}
use Rattle.gaz_exchange.proofs.ExchangeFacts.{both_are}

-- ---- the first slash

-- a text with no slash, or one up to a slash and what is behind it
abbrev pub Cut : List ℕ → Type 0
Cut p = (has_slash p ≡ false) ⊎ ((front : List ℕ) × (rest : List ℕ) × (p ≡ front ++ 47 ∷ rest) × (has_slash front ≡ false))

cut_more : (b : ℕ) (p : List ℕ) → (b == 47) ≡ false → Cut p → Cut (b ∷ p)
cut_more b p n (inl s) = inl (rw n s)
cut_more b p n (inr (front, rest, e, s)) = inr (b ∷ front, rest, ap (λ l. b ∷ l) e, rw n s)

cut_first : (b : ℕ) (p : List ℕ) (x : Bool) → (b == 47) ≡ x → Cut p → Cut (b ∷ p)
cut_first b p true e c = let same : b ≡ 47 = grind (arith, nat_tests, e) in inr ([], p, ap (λ n. n ∷ p) same, refl)
cut_first b p false e c = cut_more b p e c

pub cut_of : (p : List ℕ) → Cut p
cut_of [] = inl refl
cut_of (b ∷ p) = cut_first b p (b == 47) refl (cut_of p)

-- each is a byte
abbrev pub AllBytes : List ℕ → Type 0
AllBytes p = (i : ℕ) → get_or p i 0 < 256

pub bytes_tail : (x : ℕ) (p : List ℕ) → AllBytes (x ∷ p) → AllBytes p
bytes_tail x p h = λ i. h (suc i)

pub bytes_behind : (a b : List ℕ) → AllBytes (a ++ b) → AllBytes b
bytes_behind [] b h = h
bytes_behind (x ∷ a) b h = bytes_behind a b (bytes_tail x (a ++ b) h)

abbrev pub are_bytes : List ℕ → Bool
are_bytes lits = list_all (λ b. nat_lt b 256) lits

-- ---- segments

slash_cases : (h : Bool) (b : ℕ) (p : List ℕ) → (b == 47) ≡ h → cond h true (has_slash p) ≡ false → ((b == 47) ≡ false) × (has_slash p ≡ false)
slash_cases true b p e s = absurd (cc s)
slash_cases false b p e s = (e, s)

pub slash_first : (b : ℕ) (p : List ℕ) → has_slash (b ∷ p) ≡ false → ((b == 47) ≡ false) × (has_slash p ≡ false)
slash_first b p s = slash_cases (b == 47) b p refl s

pub segment_whole : (p : List ℕ) → has_slash p ≡ false → segment p ≡ p
segment_whole [] s = refl
segment_whole (b ∷ p) s = rw (slash_first b p s).0 (ap (λ l. b ∷ l) (segment_whole p (slash_first b p s).1))

pub segment_cut : (front rest : List ℕ) → has_slash front ≡ false → segment (front ++ 47 ∷ rest) ≡ front ++ 47 ∷ []
segment_cut [] rest s = refl
segment_cut (b ∷ front) rest s = rw (slash_first b front s).0 (ap (λ l. b ∷ l) (segment_cut front rest (slash_first b front s).1))

true_either : (h : Bool) → cond h true true ≡ true
true_either true = refl
true_either false = refl

pub has_slash-cut : (front rest : List ℕ) → has_slash (front ++ 47 ∷ rest) ≡ true
has_slash-cut [] rest = refl
has_slash-cut (b ∷ front) rest = rw (has_slash-cut front rest) (true_either (b == 47))

last_no_slash : (p : List ℕ) → has_slash p ≡ false → pointwise nat_eq (47 ∷ []) (drop (length p - 1) p) ≡ false
last_no_slash [] s = refl
last_no_slash (b ∷ []) s =
    let n : (b == 47) ≡ false = (slash_first b [] s).0 in
    let other : (47 == b) ≡ false = grind (arith, nat_tests, n) in
    rw other refl
last_no_slash (b ∷ x ∷ p) s =
    let e : length (b ∷ x ∷ p) - 1 ≡ suc (length (x ∷ p) - 1) = omega arith in
    ap (λ n. pointwise nat_eq (47 ∷ []) (drop n (b ∷ x ∷ p))) e ∙ last_no_slash (x ∷ p) (slash_first b (x ∷ p) s).1

and_false : (h : Bool) → (h && false) ≡ false
and_false true = refl
and_false false = refl

pub no_cut : (p : List ℕ) → has_slash p ≡ false → cuts p (47 ∷ []) ≡ false
no_cut p s = ap (λ b. nat_lt 1 (length p) && b) (last_no_slash p s) ∙ and_false (nat_lt 1 (length p))

drop_past : (a b : List ℕ) → drop (length a) (a ++ b) ≡ b
drop_past [] b = refl
drop_past (x ∷ a) b = drop_past a b

pub is_cut : (x : ℕ) (front : List ℕ) → cuts (x ∷ front ++ 47 ∷ []) (47 ∷ []) ≡ true
is_cut x front =
    let whole : List ℕ = x ∷ front ++ 47 ∷ [] in
    let long : length whole ≡ length (x ∷ front) + 1 = length-append (x ∷ front) (47 ∷ []) in
    let e : length whole - 1 ≡ length (x ∷ front) = omega (arith, long) in
    let last : drop (length whole - 1) whole ≡ 47 ∷ [] = ap (λ n. drop n whole) e ∙ drop_past (x ∷ front) (47 ∷ []) in
    let some : nat_lt 1 (length whole) ≡ true = grind (arith, nat_tests, long) in
    both_are (nat_lt 1 (length whole)) (pointwise nat_eq (47 ∷ []) (drop (length whole - 1) whole)) some (ap (pointwise nat_eq (47 ∷ [])) last)
