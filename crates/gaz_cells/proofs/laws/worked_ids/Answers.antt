use Rattle.std.proofs.Common.{◌≤◌, arith, refl}
use Rattle.gaz_ids.specs.Numbers.{read_id}
use Rattle.gaz_cells.specs.Digits.{digits_in}
use Rattle.gaz_cells.proofs.laws.worked_ids.Goals as goal

pub returns : goal.returns
unfolding digits_in read_id
returns c = record {
  digits = refl;
  street = refl;
  name = refl;
  blpu = refl;
  lpi = refl;
  named = refl;
  too_short = refl;
  zero = refl;
  kind = refl;
  no_kind = refl;
  no_entry = refl;
  greatest = record { blpu = omega arith; street = omega arith };
  no_property = λ links. let low : 1_000_000_000_000 ≤ 999_999_999_999 = links.blpu in absurd (omega (arith, low));
  no_street = λ links. let low : 100_000_000 ≤ 99_999_999 = links.street in absurd (omega (arith, low));
}
