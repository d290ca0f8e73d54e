-- Facts on the numbers that digits write.
use Rattle.std.proofs.Common.{◌≡◌, ℕ, ◌+◌, ◌-◌, ◌*◌, ◌^◌, ◌<◌, ◌≤◌, Bool, true, false, List, [], ◌∷◌, length, get_or, drop, refl, arith, add-one, drop-cons, Ok}
use Rattle.std.specs.Prelude.{decimal, ◌&&◌}
use Rattle.std.proofs.lemmas.Bool.Decides.{nat_tests}
use Rattle.std.proofs.lemmas.Str.Parse.{IsNumeralModel, tells_all_ascii_digits, numerals_by_value, digits_value_short}
use Rattle.std.proofs.lemmas.Fmt.{digits_decimal, digits_value-decimal, length-decimal-le, decimal_nonempty}
use Rattle.std.specs.Char.{is_ascii_digit, digit_value}
use Rattle.std.specs.Str.{all_ascii_digits}
use Rattle.std.specs.Str.Parse.{digits_value, digits_value_after}
use Rattle.gaz_ids.specs.Numbers.{read_id}

pub digit_is : (c : ℕ) → is_ascii_digit c ≡ true → digit_value c ≡ c - 48
digit_is c h = grind (arith, nat_tests)

pub grows : (n : ℕ) (s : List ℕ) → n ≤ digits_value_after 10 n s
grows n [] = omega arith
grows n (c ∷ s) = omega (arith, grows (n * 10 + digit_value c) s)

pub number_step : (v i : ℕ) (s : List ℕ) → i < length s → is_ascii_digit (get_or s i 0) ≡ true
    → digits_value_after 10 v (drop i s) ≡ digits_value 10 s
    → digits_value_after 10 (v * 10 + (get_or s i 0 - 48)) (drop (i + 1) s) ≡ digits_value 10 s
number_step v i s h d e = rw (← digit_is (get_or s i 0) d, add-one, ← e, drop-cons s i 0) refl

pub digits_step : (i : ℕ) (s : List ℕ) (x : Bool) → i < length s → is_ascii_digit (get_or s i 0) ≡ true
    → all_ascii_digits (drop i s) ≡ x → all_ascii_digits (drop (i + 1) s) ≡ x
digits_step i s x h d e = rw (add-one, ← e, drop-cons s i 0, d) refl

and-left : (a b : Bool) → a && b ≡ true → a ≡ true
and-left true b e = refl
and-left false b e = cc e

pub digit_at : (i : ℕ) (s : List ℕ) → i < length s → all_ascii_digits (drop i s) ≡ true → is_ascii_digit (get_or s i 0) ≡ true
digit_at i s h e = and-left _ _ (rw (drop-cons s i 0 h) at e)

pub no_digit : (i : ℕ) (s : List ℕ) → i < length s → is_ascii_digit (get_or s i 0) ≡ false
    → all_ascii_digits (drop i s) ≡ all_ascii_digits s → all_ascii_digits s ≡ false
no_digit i s h d e = rw (← e, drop-cons s i 0, d) refl

pub ruleset reading_digits = (number_step, digits_step, digit_at, no_digit, grows)

pub own : IsNumeralModel (λ ds. all_ascii_digits ds ≡ true) (digits_value 10)
own = numerals_by_value (λ ds. all_ascii_digits ds ≡ true) tells_all_ascii_digits

pub short_value : (s : List ℕ) → all_ascii_digits s ≡ true → length s ≤ 18 → digits_value 10 s < 10 ^ 18
short_value s d h = digits_value_short own s 18 d h

-- what a number prints reads back
pub read_decimal : (w l h n : ℕ) → 0 < w → n < 10 ^ w → n < 2 ^ 64 → l ≤ n → n ≤ h → read_id w l h (decimal n) ≡ Ok n
unfolding read_id
read_decimal w l h n a b c d e =
    let digits = digits_decimal own n c in
    let value = digits_value-decimal own n c in
    let some = decimal_nonempty n c in
    let short = length-decimal-le w n a b c in
    rw (digits, value) (grind (arith, nat_tests, some, short, d, e))
