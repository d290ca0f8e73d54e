-- Digits in a fixed width say their number.
use Rattle.std.proofs.Common.{◌≡◌, ◌≢◌, ℕ, zero, suc, ◌+◌, ◌-◌, ◌*◌, ◌/◌, ◌%◌, ◌^◌, ◌<◌, ◌≤◌, true, List, [], ◌∷◌, ◌++◌, length, append-nil, append_assoc, refl, sym, arith, Ok}
use Rattle.std.proofs.lemmas.Bool.Decides.{nat_tests}
use Rattle.std.proofs.lemmas.Int.Digits.{digits_value_push}
use Rattle.std.proofs.lemmas.List.{length-append}
use Rattle.std.proofs.Math.Nat.{pow-suc}
use Rattle.std.specs.Char.{digit_value, is_ascii_digit}
use Rattle.std.specs.Str.{all_ascii_digits}
use Rattle.std.specs.Str.Parse.{digits_value}
use Rattle.gaz_ids.proofs.Numerals.{digit_is}
use Rattle.gaz_ids.specs.Numbers.{read_id}
use Rattle.gaz_fields.proofs.Both.{and-left, and-right}
use Rattle.gaz_cells.specs.Digits.{digits_in}

-- ---- as they are written

pub none_added : (w n : ℕ) (xs : List ℕ) → w ≡ 0 → xs ≡ xs ++ digits_in w n
unfolding digits_in
none_added zero n xs e = sym (append-nil xs)
none_added (suc w) n xs e = absurd (omega arith)

pub more_added : (w n : ℕ) (xs ys : List ℕ) → w ≢ 0 → ys ≡ xs ++ digits_in (w - 1) (n / 10) → ys ++ ((48 + n % 10) ∷ []) ≡ xs ++ digits_in w n
unfolding digits_in
more_added zero n xs ys h e = absurd (h refl)
more_added (suc w) n xs ys h e =
    let less : suc w - 1 ≡ w = omega arith in
    let front : ys ≡ xs ++ digits_in w (n / 10) = rw less at e in
    rw (front, append_assoc) refl

-- ---- as they are read

pub digits_size : (w n : ℕ) → length (digits_in w n) ≡ w
unfolding digits_in
digits_size zero n = refl
digits_size (suc w) n = omega (arith, length-append (digits_in w (n / 10)) ((48 + n % 10) ∷ []), digits_size w (n / 10))

all_pushed : (ds : List ℕ) (c : ℕ) → all_ascii_digits ds ≡ true → is_ascii_digit c ≡ true → all_ascii_digits (ds ++ (c ∷ [])) ≡ true
all_pushed [] c h k = rw k refl
all_pushed (d ∷ ds) c h k = rw (and-left (is_ascii_digit d) (all_ascii_digits ds) h, all_pushed ds c (and-right (is_ascii_digit d) (all_ascii_digits ds) h) k) refl

last_digit : (n : ℕ) → is_ascii_digit (48 + n % 10) ≡ true
last_digit n = let small : n % 10 < 10 = omega arith in grind (arith, nat_tests)

pub digits_all : (w n : ℕ) → all_ascii_digits (digits_in w n) ≡ true
unfolding digits_in
digits_all zero n = refl
digits_all (suc w) n = all_pushed (digits_in w (n / 10)) (48 + n % 10) (digits_all w (n / 10)) (last_digit n)

pub shorter : (w n : ℕ) → n < 10 ^ suc w → n / 10 < 10 ^ w
shorter w n h = let more : 10 ^ suc w ≡ 10 ^ w * 10 = pow-suc 10 w in omega arith

pub digits_say : (w n : ℕ) → n < 10 ^ w → digits_value 10 (digits_in w n) ≡ n
unfolding digits_in
digits_say zero n h = omega arith
digits_say (suc w) n h =
    let last : digit_value (48 + n % 10) ≡ 48 + n % 10 - 48 = digit_is (48 + n % 10) (last_digit n) in
    rw (digits_value_push 10 (digits_in w (n / 10)) (48 + n % 10), digits_say w (n / 10) (shorter w n h), last) (omega arith)

pub number_back : (w high n : ℕ) → 0 < w → n < 10 ^ w → 1 ≤ n → n ≤ high → read_id w 1 high (digits_in w n) ≡ Ok n
unfolding read_id
number_back w high n some short from to =
    let size = digits_size w n in
    rw (digits_all w n, digits_say w n short) (grind (arith, nat_tests, size, some, from, to))
