-- House numbers, their order, and how they are read and written.
use Rattle.std.specs.Prelude.{◌≡◌, ℕ, ◌==◌, ◌&&◌, nat_le, List, [], ◌∷◌, ◌++◌, length, slice_index}
use Rattle.std.specs.Prelude.{Option, Some, None, option_map, if◌then◌else◌, Bool}
use Rattle.std.specs.Prelude.{true, decimal}
use Rattle.std.specs.Result.{result_ok}
use Rattle.std.specs.Ordering.{is_lt, nat_cmp, ordering_then}
use Rattle.std.specs.declared.cmp.Ordering.{Ordering}
use Rattle.std.specs.declared.cmp.Ordering.TheVariants.{Less, Equal, Greater}
use Rattle.gaz_ids.specs.Numbers.{read_id}

-- a letter from A to Z
abbrev pub is_letter : ℕ → Bool
is_letter c = nat_le 65 c && nat_le c 90

abbrev pub is_suffix : Option ℕ → Bool
is_suffix None = true
is_suffix (Some c) = is_letter c

-- a number, and a suffix or none
pub record HouseNumberValue : Type 0 where
  pub n : ℕ
  pub suffix : Option ℕ

-- the number is from 1 to 9999, the suffix from A to Z
abbrev pub is_house_number : HouseNumberValue → Bool
is_house_number x = nat_le 1 x.n && nat_le x.n 9999 && is_suffix x.suffix

-- no suffix comes before A, and A before B
abbrev pub suffix_cmp : Option ℕ → Option ℕ → Ordering
suffix_cmp None None = Equal
suffix_cmp None (Some b) = Less
suffix_cmp (Some a) None = Greater
suffix_cmp (Some a) (Some b) = nat_cmp a b

-- the order of house numbers: by the number, then by the suffix
abbrev pub house_cmp : HouseNumberValue → HouseNumberValue → Ordering
house_cmp a b = ordering_then (nat_cmp a.n b.n) (suffix_cmp a.suffix b.suffix)

abbrev pub is_before : HouseNumberValue → HouseNumberValue → Bool
is_before a b = is_lt (house_cmp a b)

-- one house number, or those up to a later one
pub record RangeValue : Type 0 where
  pub from : HouseNumberValue
  pub to : Option HouseNumberValue

abbrev pub is_before_end : HouseNumberValue → Option HouseNumberValue → Bool
is_before_end a None = true
is_before_end a (Some b) = is_before a b

-- the end, where there is one, comes after the start
abbrev pub rises : RangeValue → Bool
rises r = is_before_end r.from r.to

abbrev pub is_number_or_none : Option HouseNumberValue → Bool
is_number_or_none None = true
is_number_or_none (Some x) = is_house_number x

abbrev pub is_range : RangeValue → Bool
is_range r = is_house_number r.from && is_number_or_none r.to && rises r

-- ---- reading

-- a field that may be left empty: none where it has another form
abbrev pub optional : {A : Type 0} → (List ℕ → Option A) → List ℕ → Option (Option A)
optional read t = if length t == 0 then Some None else option_map Some (read t)

-- up to four digits that say 1 to 9999
abbrev pub house_of : List ℕ → Option (Option ℕ)
house_of t = optional (λ digits. result_ok (read_id 4 1 9999 digits)) t

-- one letter from A to Z
abbrev pub letter_in : List ℕ → Option ℕ
letter_in t =
    if (length t == 1) && is_letter (slice_index t 0) then Some (slice_index t 0) else None

abbrev pub suffix_of : List ℕ → Option (Option ℕ)
suffix_of t = optional letter_in t

-- ---- writing

abbrev pub suffix_text : Option ℕ → List ℕ
suffix_text None = []
suffix_text (Some c) = c ∷ []

-- as 12A
abbrev pub number_text : HouseNumberValue → List ℕ
number_text x = decimal x.n ++ suffix_text x.suffix

abbrev pub to_text : Option HouseNumberValue → List ℕ
to_text None = []
to_text (Some x) = 45 ∷ number_text x

-- as 12A-14, or as 12A
abbrev pub range_text : RangeValue → List ℕ
range_text r = number_text r.from ++ to_text r.to

-- ---- 12 before 12A before 12B before 13

-- a number with no suffix, and one with a letter
abbrev pub plain : ℕ → HouseNumberValue
plain n = record { n = n; suffix = None }

abbrev pub lettered : ℕ → ℕ → HouseNumberValue
lettered n letter = record { n = n; suffix = Some letter }

pub record WorkedOrder : Type 0 where
  pub letter_after_none : house_cmp (plain 12) (lettered 12 65) ≡ Less
  pub letters_in_turn : house_cmp (lettered 12 65) (lettered 12 66) ≡ Less
  pub number_foremost : house_cmp (lettered 12 90) (plain 13) ≡ Less
  pub none_after_letter : house_cmp (plain 13) (lettered 12 65) ≡ Greater
  pub same : house_cmp (lettered 12 65) (lettered 12 65) ≡ Equal
