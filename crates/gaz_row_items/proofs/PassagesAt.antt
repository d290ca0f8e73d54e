-- What became of numbers until a volume, as it is read off the rows.
use Rattle.std.proofs.Common.{◌≡◌, ℕ, false, List, [], map, filter}
use Rattle.std.specs.Cmp.{nat_cmp_total}
use Rattle.std.specs.FinMap as finite
use Rattle.std.specs.FinMap.{find}
use Rattle.std.specs.FinSet as set
use Rattle.std.specs.List.{list_any}
use Rattle.std.specs.Ordering.{eq_by_cmp, nat_cmp}
use Rattle.gaz_records.proofs.KeyOrder.{keys_total}
use Rattle.gaz_records.specs.Keys.{key_cmp}
use Rattle.gaz_records.specs.declared.key.Key.{Key}
use Rattle.gaz_records.specs.declared.key.Key.TheVariants as key
use Rattle.gaz_views.specs.declared.custody.Custody.{Custody}
use Rattle.gaz_overlay.specs.Passages.{PassageRow, custody_after, has_passed, is_passed_by, lasts_after, passed_keys}

abbrev pub Rows : Type 0
Rows = List PassageRow

abbrev pub passings_at : ℕ → Rows → List (ℕ × Custody)
passings_at t rows = map (λ p. (p.uprn, p.custody)) (filter (lasts_after t) rows)

abbrev pub keys_at : ℕ → Rows → List Key
keys_at t rows = map (λ p. key.Blpu p.uprn) (filter (is_passed_by t) rows)

pub custody_is : (rows : Rows) (t n : ℕ) → finite.get (custody_after rows t) n ≡ find nat_cmp n (passings_at t rows)
unfolding custody_after
custody_is rows t n = finite.get-from_entries nat_cmp_total (passings_at t rows) n

pub used_is : (rows : Rows) (t : ℕ) (q : Key) → has_passed rows t q ≡ list_any (eq_by_cmp key_cmp q) (keys_at t rows)
unfolding passed_keys
used_is rows t q = set.contains-from_list keys_total (keys_at t rows) q

pub never_passed : (t : ℕ) (q : Key) → has_passed [] t q ≡ false
unfolding passed_keys
never_passed t q = set.contains-from_list keys_total [] q
