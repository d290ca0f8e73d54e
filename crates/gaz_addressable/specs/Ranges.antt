-- How house numbers from one to another are kept: two numbers and two suffixes, each 0 where there
-- is none.
use Rattle.std.specs.Prelude.{◌≡◌, ℕ, ◌==◌, Option, Some, None, if◌then◌else◌, true}
use Rattle.gaz_addressable.specs.HouseNumbers.{HouseNumberValue, RangeValue, is_range}

abbrev pub letter_or_zero : Option ℕ → ℕ
letter_or_zero None = 0
letter_or_zero (Some c) = c

abbrev pub end_number : Option HouseNumberValue → ℕ
end_number None = 0
end_number (Some x) = x.n

abbrev pub end_letter : Option HouseNumberValue → ℕ
end_letter None = 0
end_letter (Some x) = letter_or_zero x.suffix

-- the suffix that is kept so
abbrev pub suffix_at : ℕ → Option ℕ
suffix_at c = if c == 0 then None else Some c

-- the house number that is kept so
abbrev pub house_at : ℕ → ℕ → HouseNumberValue
house_at n c = record { n = n; suffix = suffix_at c }

-- the end that is kept so
abbrev pub end_at : ℕ → ℕ → Option HouseNumberValue
end_at n c = if n == 0 then None else Some (house_at n c)

-- the house numbers that are kept so
abbrev pub range_at : (from from_suffix to to_suffix : ℕ) → RangeValue
range_at from from_suffix to to_suffix = record {
  from = house_at from from_suffix;
  to = end_at to to_suffix;
}

-- four numbers that keep house numbers
pub record KeepsRange (from from_suffix to to_suffix : ℕ) : Type 0 where
  pub range : is_range (range_at from from_suffix to to_suffix) ≡ true
  pub letter_back : letter_or_zero (suffix_at from_suffix) ≡ from_suffix
  pub end_back : end_number (end_at to to_suffix) ≡ to
  pub end_letter_back : end_letter (end_at to to_suffix) ≡ to_suffix
