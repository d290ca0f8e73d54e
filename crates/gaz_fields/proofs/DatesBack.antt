-- Dates read back.
use Rattle.std.proofs.Common.{◌≡◌, ℕ, ◌+◌, ◌/◌, ◌%◌, ◌<◌, true, refl, arith, Some}
use Rattle.std.proofs.lemmas.Bool.Decides.{nat_tests}
use Rattle.std.specs.Char.{is_ascii_digit, digit_value}
use Rattle.std.specs.Str.{all_ascii_digits}
use Rattle.std.specs.Str.Parse.{digits_value}
use Rattle.gaz_fields.specs.Days.{CivilDay, date_of, date_text, four, is_day, two}

digit : (k : ℕ) → k < 10 → is_ascii_digit (48 + k) ≡ true
digit k h = grind (arith, nat_tests)

digit-is : (k : ℕ) → k < 10 → digit_value (48 + k) ≡ k
digit-is k h = grind (arith, nat_tests)

two-digits : (n : ℕ) → n < 100 → all_ascii_digits (two n) ≡ true
two-digits n h = rw (digit (n / 10) (omega arith), digit (n % 10) (omega arith)) refl

two-value : (n : ℕ) → n < 100 → digits_value 10 (two n) ≡ n
two-value n h = rw (digit-is (n / 10) (omega arith), digit-is (n % 10) (omega arith)) (omega arith)

four-digits : (n : ℕ) → n < 10000 → all_ascii_digits (four n) ≡ true
four-digits n h = rw (digit (n / 1000) (omega arith), digit (n / 100 % 10) (omega arith), digit (n / 10 % 10) (omega arith), digit (n % 10) (omega arith)) refl

four-value : (n : ℕ) → n < 10000 → digits_value 10 (four n) ≡ n
four-value n h = rw (digit-is (n / 1000) (omega arith), digit-is (n / 100 % 10) (omega arith), digit-is (n / 10 % 10) (omega arith), digit-is (n % 10) (omega arith)) (omega arith)

-- a date that was written reads back
pub date-back : (d : CivilDay) → is_day d ≡ true → date_of (date_text d) ≡ Some d
unfolding date_of
date-back d h =
    let y : d.year < 10000 = grind (arith, nat_tests, h) in
    let m : d.month < 100 = grind (arith, nat_tests, h) in
    let a : d.day < 100 = grind (arith, nat_tests, h) in
    rw (four-digits d.year y, two-digits d.month m, two-digits d.day a, four-value d.year y, two-value d.month m, two-value d.day a, h) refl
