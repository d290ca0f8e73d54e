-- Dates and how they are written.
use Rattle.std.specs.Prelude.{◌≡◌, ℕ, pos, ◌+◌, ◌*◌, ◌/◌, ◌%◌, ◌==◌, ◌&&◌, nat_le, true, List, []}
use Rattle.std.specs.Prelude.{◌∷◌, ◌++◌, length, slice_index, slice_range, Option, Some, None}
use Rattle.std.specs.Prelude.{if◌then◌else◌, Bool}
use Rattle.std.specs.Str.{all_ascii_digits}
use Rattle.std.specs.Str.Parse.{digits_value}
use Rattle.jiff_core.specs.Calendar.{days_in_month}

-- a year, a month and a day
pub record CivilDay : Type 0 where
  pub year : ℕ
  pub month : ℕ
  pub day : ℕ

-- the calendar has it, from the year 1
abbrev pub is_day : CivilDay → Bool
is_day date =
    nat_le 1 date.year && nat_le date.year 9999 && nat_le 1 date.month && nat_le date.month 12
    && nat_le 1 date.day && nat_le date.day 31
    && nat_le date.day (days_in_month (pos date.year) date.month)

-- no date, for where there is none to tell
abbrev pub no_day : CivilDay
no_day = record { year = 0; month = 0; day = 0 }

abbrev pub is_day_or_none : Option CivilDay → Bool
is_day_or_none None = true
is_day_or_none (Some date) = is_day date

-- the end date that three numbers keep; none where the year is 0
abbrev pub end_at : ℕ → ℕ → ℕ → Option CivilDay
end_at year month day =
    if year == 0 then None else Some (record { year = year; month = month; day = day })

-- how an end date is kept: as a date, or as no_day where there is none
abbrev pub kept_end : Option CivilDay → CivilDay
kept_end None = no_day
kept_end (Some date) = date

-- three numbers that keep an end date
pub record KeepsEnd (year month day : ℕ) : Type 0 where
  pub date : is_day_or_none (end_at year month day) ≡ true
  pub back : kept_end (end_at year month day) ≡ record { year = year; month = month; day = day }

abbrev pub day_of : ℕ → ℕ → ℕ → Option CivilDay
day_of year month day =
    if is_day (record { year = year; month = month; day = day })
    then Some (record { year = year; month = month; day = day }) else None

-- exactly YYYY-MM-DD
unfoldable pub date_of : List ℕ → Option CivilDay
date_of t =
    if (length t == 10) && (slice_index t 4 == 45) && (slice_index t 7 == 45)
    && all_ascii_digits (slice_range t 0 4) && all_ascii_digits (slice_range t 5 7)
    && all_ascii_digits (slice_range t 8 10)
    then day_of
    (digits_value 10 (slice_range t 0 4))
    (digits_value 10 (slice_range t 5 7))
    (digits_value 10 (slice_range t 8 10))
    else None

abbrev pub two : ℕ → List ℕ
two n = (48 + n / 10) ∷ (48 + n % 10) ∷ []

abbrev pub four : ℕ → List ℕ
four n = (48 + n / 1000) ∷ (48 + n / 100 % 10) ∷ (48 + n / 10 % 10) ∷ (48 + n % 10) ∷ []

abbrev pub date_text : CivilDay → List ℕ
date_text date = four date.year ++ (45 ∷ (two date.month ++ (45 ∷ two date.day)))

abbrev pub end_text : Option CivilDay → List ℕ
end_text None = []
end_text (Some date) = date_text date

-- a date as one number, which rises as dates do
abbrev pub stamp : CivilDay → ℕ
stamp date = (date.year * 100 + date.month) * 100 + date.day

-- one date isn't after another
abbrev pub day_le : CivilDay → CivilDay → Bool
day_le a b = nat_le (stamp a) (stamp b)

-- an end date that may be missing isn't before the start
abbrev pub ends_by : CivilDay → Option CivilDay → Bool
ends_by start None = true
ends_by start (Some end) = day_le start end
