-- Labels compare as numbers of their bytes do, four at a time.
use Rattle.std.proofs.Common.{◌≡◌, ℕ, zero, suc, ◌+◌, ◌*◌, ◌^◌, ◌-◌, ◌<◌, ◌≤◌, List, [], ◌∷◌, ◌++◌, length, take, drop, get_or, refl, sym, ◌∙◌, subst, arith, true, false}
use Rattle.std.specs.Prelude.{replicate}
use native.Mathlib.Numerals.{unary_clauses}
use Rattle.std.proofs.lemmas.Bool.Decides.{nat_tests}
use Rattle.std.proofs.Math.Nat.{pow-le-pow_right, pow-suc, mul-le-mul_right}
use Rattle.std.proofs.lemmas.List.{drop-drop, get_or-drop, length-drop}
use Rattle.std.proofs.lemmas.Cmp.{by_ranked, ranked}
use Rattle.std.specs.Cmp.{nat_cmp_is}
use Rattle.std.specs.Cmp.Lexicographic.{slice_cmp}
use Rattle.std.specs.Ordering.{is_ne, nat_cmp, ordering_then}
use Rattle.std.specs.declared.cmp.Ordering.{Ordering}
use Rattle.std.specs.declared.cmp.Ordering.TheVariants.{Less, Equal, Greater}
use Rattle.gaz_fields.specs.Labels.{AreBytes, IsPadded, are_label_bytes, is_label, word}

pub less : (x y : ℕ) → x < y → nat_cmp x y ≡ Less
less x y h = sym (nat_cmp_is x y Less h)

pub same : (x : ℕ) → nat_cmp x x ≡ Equal
same x = sym (nat_cmp_is x x Equal refl)

pub greater : (x y : ℕ) → y < x → nat_cmp x y ≡ Greater
greater x y h = sym (nat_cmp_is x y Greater h)

rest_bytes : (b : ℕ) (bs : List ℕ) → AreBytes (b ∷ bs) → AreBytes bs
rest_bytes b bs h i = h (suc i)

word_none : (bs : List ℕ) → word 0 bs ≡ 0
unfolding word
word_none bs = refl

shifted : (b p w c : ℕ) → (b * p + w) * 256 + c ≡ b * (p * 256) + (w * 256 + c)
shifted b p w c = omega arith

appended : (p w c : ℕ) → w < p → c < 256 → w * 256 + c < p * 256
appended p w c h k = omega arith

word_cons : (n b : ℕ) (bs : List ℕ) → word (suc n) (b ∷ bs) ≡ b * 256 ^ n + word n bs
unfolding word
word_cons zero b bs = omega arith
word_cons (suc n) b bs =
    let more : 256 ^ suc n ≡ 256 ^ n * 256 = pow-suc 256 n in
    let front : word (suc n) (b ∷ bs) ≡ b * 256 ^ n + word n bs = word_cons n b bs in
    rw (front, more) (shifted b (256 ^ n) (word n bs) (get_or bs n 0))

pub word_below : (n : ℕ) (bs : List ℕ) → AreBytes bs → word n bs < 256 ^ n
unfolding word
word_below zero bs h = omega arith
word_below (suc n) bs h =
    let more : 256 ^ suc n ≡ 256 ^ n * 256 = pow-suc 256 n in
    rw more (appended (256 ^ n) (word n bs) (get_or bs n 0) (word_below n bs h) (h n))

pub word_more : (n : ℕ) (bs : List ℕ) → word (n + 1) bs ≡ word n bs * 256 + get_or bs n 0
unfolding word
word_more n bs = simp unary_clauses refl

-- a number of less than four bytes
pub small_word : (n w : ℕ) → n < 4 → w < 256 ^ n → w < 256 ^ 3
small_word n w h k = omega (arith, pow-le-pow_right {n = 256} (omega arith) {i = n} {j = 3} (omega arith))

-- a number of less than seven bytes
pub below_seven : (n w : ℕ) → n < 7 → w < 256 ^ n → w < 256 ^ 6
below_seven n w h k = omega (arith, pow-le-pow_right {n = 256} (omega arith) {i = n} {j = 6} (omega arith))

pub rest_of_bytes : (n : ℕ) (bs : List ℕ) → AreBytes bs → AreBytes (drop n bs)
rest_of_bytes n bs h i = rw (get_or-drop n bs i 0) (h (n + i))

-- the foremost byte decides, and then the others
pub ahead : (x y p v w : ℕ) → v < p → x < y → x * p + v < y * p + w
ahead x y p v w h k = omega (arith, mul-le-mul_right p k)

pub behind : (c a b : ℕ) → nat_cmp (c + a) (c + b) ≡ nat_cmp a b
behind c a b =
    by_ranked _ _ _ (nat_cmp a b) (ranked a b _ refl)
    (λ o h. rw o (less (c + a) (c + b) (omega arith)))
    (λ o h. rw (o, h) (same (c + b)))
    (λ o h. rw o (greater (c + a) (c + b) (omega arith)))

-- what the first so many bytes leave open the others decide
pub by_word : (n : ℕ) (xs ys : List ℕ) → length xs ≡ length ys → AreBytes xs → AreBytes ys → slice_cmp nat_cmp xs ys ≡ ordering_then (nat_cmp (word n xs) (word n ys)) (slice_cmp nat_cmp (drop n xs) (drop n ys))
by_word zero xs ys e h k = rw (word_none xs, word_none ys) refl
by_word (suc n) [] [] e h k = rw (same (word (suc n) [])) refl
by_word (suc n) [] (y ∷ ys) e h k = grind arith
by_word (suc n) (x ∷ xs) [] e h k = grind arith
by_word (suc n) (x ∷ xs) (y ∷ ys) e h k =
    let p = 256 ^ n in
    let here : word n xs < p = word_below n xs (rest_bytes x xs h) in
    let there : word n ys < p = word_below n ys (rest_bytes y ys k) in
    rw (word_cons n x xs, word_cons n y ys)
    (by_ranked (x < y) (x ≡ y) (y < x) (nat_cmp x y) (ranked x y _ refl)
    (λ o l. rw (o, less _ _ (ahead x y p _ (word n ys) here l)) refl)
    (λ o l. rw (o, l, behind (y * p) (word n xs) (word n ys)) (by_word n xs ys (omega arith) (rest_bytes x xs h) (rest_bytes y ys k)))
    (λ o l. rw (o, greater _ _ (ahead y x p _ (word n xs) there l)) refl))

-- bytes from a word on compare by that word, and then by the bytes behind it
pub by_word_at : (i : ℕ) (xs ys : List ℕ) → length xs ≡ length ys → AreBytes xs → AreBytes ys → slice_cmp nat_cmp (drop (4 * i) xs) (drop (4 * i) ys) ≡ ordering_then (nat_cmp (word 4 (drop (4 * i) xs)) (word 4 (drop (4 * i) ys))) (slice_cmp nat_cmp (drop (4 * (i + 1)) xs) (drop (4 * (i + 1)) ys))
by_word_at i xs ys e h k =
    let size : length (drop (4 * i) xs) ≡ length (drop (4 * i) ys) = rw (length-drop (4 * i) xs, length-drop (4 * i) ys, e) refl in
    let next : 4 * (i + 1) ≡ 4 * i + 4 = omega arith in
    rw (next, ← drop-drop 4 (4 * i) xs, ← drop-drop 4 (4 * i) ys) (by_word 4 (drop (4 * i) xs) (drop (4 * i) ys) size (rest_of_bytes (4 * i) xs h) (rest_of_bytes (4 * i) ys k))

pub decided : (o p r : Ordering) → true ≡ is_ne o → r ≡ ordering_then o p → o ≡ r
decided Less p r h e = sym e
decided Equal p r h e = cc
decided Greater p r h e = sym e

pub undecided : (o p r : Ordering) → false ≡ is_ne o → r ≡ ordering_then o p → p ≡ r
undecided Less p r h e = cc
undecided Equal p r h e = sym e
undecided Greater p r h e = cc

zeros_same : (n : ℕ) → slice_cmp nat_cmp (replicate n 0) (replicate n 0) ≡ Equal
zeros_same zero = refl
zeros_same (suc n) = zeros_same n

above : (b : ℕ) (bs : List ℕ) → are_label_bytes (b ∷ bs) ≡ true → 0 < b
above b bs h = grind (arith, nat_tests)

others : (b : ℕ) (bs : List ℕ) → are_label_bytes (b ∷ bs) ≡ true → are_label_bytes bs ≡ true
others b bs h = grind arith

-- zeros behind two lists of bytes above 0
pub with_zeros : (xs ys : List ℕ) (n m : ℕ) → length xs + n ≡ length ys + m → are_label_bytes xs ≡ true → are_label_bytes ys ≡ true → slice_cmp nat_cmp (xs ++ replicate n 0) (ys ++ replicate m 0) ≡ slice_cmp nat_cmp xs ys
with_zeros [] [] n m e h k =
    let equal : n ≡ m = omega arith in
    rw equal (zeros_same m)
with_zeros [] (y ∷ ys) zero m e h k = grind arith
with_zeros [] (y ∷ ys) (suc n) m e h k = rw (less 0 y (above y ys k)) refl
with_zeros (x ∷ xs) [] n zero e h k = grind arith
with_zeros (x ∷ xs) [] n (suc m) e h k = rw (greater x 0 (above x xs h)) refl
with_zeros (x ∷ xs) (y ∷ ys) n m e h k = rw (with_zeros xs ys n m (omega arith) (others x xs h) (others y ys k)) refl

zero_bytes : (n : ℕ) → AreBytes (replicate n 0)
zero_bytes zero i = omega arith
zero_bytes (suc n) zero = omega arith
zero_bytes (suc n) (suc i) = zero_bytes n i

below : (b : ℕ) (bs : List ℕ) → are_label_bytes (b ∷ bs) ≡ true → b < 256
below b bs h = grind (arith, nat_tests)

pub label_bytes : (bs : List ℕ) (n : ℕ) → are_label_bytes bs ≡ true → AreBytes (bs ++ replicate n 0)
label_bytes [] n h i = zero_bytes n i
label_bytes (b ∷ bs) n h zero = below b bs h
label_bytes (b ∷ bs) n h (suc i) = label_bytes bs n (others b bs h) i

pub padded_bytes : (most n : ℕ) (bytes : List ℕ) → IsPadded most n bytes → AreBytes bytes
padded_bytes most n bytes h =
    let label : is_label most (take n bytes) ≡ true = h.label in
    let good : are_label_bytes (take n bytes) ≡ true = grind (arith, nat_tests) in
    subst AreBytes h.rest (label_bytes (take n bytes) (most - length (take n bytes)) good)

-- labels compare as the bytes that keep them do
pub by_padded : (most n m : ℕ) (one other : List ℕ) → IsPadded most n one → IsPadded most m other → slice_cmp nat_cmp one other ≡ slice_cmp nat_cmp (take n one) (take m other)
by_padded most n m one other h k =
    let long : is_label most (take n one) ≡ true = h.label in
    let short : is_label most (take m other) ≡ true = k.label in
    let first : length (take n one) ≤ most = grind (arith, nat_tests) in
    let second : length (take m other) ≤ most = grind (arith, nat_tests) in
    let bytes : are_label_bytes (take n one) ≡ true = grind (arith, nat_tests) in
    let others : are_label_bytes (take m other) ≡ true = grind (arith, nat_tests) in
    sym (λ i. slice_cmp nat_cmp (h.rest i) (k.rest i)) ∙ with_zeros (take n one) (take m other) (most - length (take n one)) (most - length (take m other)) (omega arith) bytes others
