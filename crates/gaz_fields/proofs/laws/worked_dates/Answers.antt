use Rattle.std.proofs.Common.{refl}
use Rattle.gaz_fields.specs.Days.{date_of}
use Rattle.gaz_fields.proofs.laws.worked_dates.Goals as goal

pub returns : goal.returns
unfolding date_of
returns c = record {
  leap_day = refl;
  no_leap_day = refl;
  last = refl;
  no_year = refl;
  no_month = refl;
  no_such_day = refl;
  short_month = refl;
  slashes = refl;
}
