-- Worked examples of dates, computed from the definitions.
use Rattle.std.specs.Prelude.{◌≡◌, ℕ, Some, None, codes}
use Rattle.gaz_fields.specs.Days.{CivilDay, date_of}

abbrev pub date : ℕ → ℕ → ℕ → CivilDay
date year month day = record { year = year; month = month; day = day }

pub record WorkedDates : Type 0 where
  pub leap_day : date_of (codes "2000-02-29") ≡ Some (date 2000 2 29)
  pub no_leap_day : date_of (codes "1900-02-29") ≡ None
  pub last : date_of (codes "9999-12-31") ≡ Some (date 9999 12 31)
  pub no_year : date_of (codes "0000-01-01") ≡ None
  pub no_month : date_of (codes "2001-13-01") ≡ None
  pub no_such_day : date_of (codes "2001-04-31") ≡ None
  pub short_month : date_of (codes "2001-4-01") ≡ None
  pub slashes : date_of (codes "2001/04/01") ≡ None
