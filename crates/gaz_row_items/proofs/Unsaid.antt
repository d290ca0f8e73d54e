-- A row that says nothing of a custodian.
use Rattle.std.proofs.Common.{◌≡◌, ◌≢◌, ◌==◌, ℕ, Bool, true, false, cond, refl, ap, ne_eqb}
use Rattle.std.specs.Prelude.{None, option_map}
use Rattle.sqlite.specs.Order.{Row}
use Rattle.gaz_cells.specs.Custody.{custody_in}
use Rattle.gaz_tables.specs.Versions as table
use Rattle.gaz_row_items.specs.Versions.{custody_cells_in, history_in, item_in, living, number_in, passage_in, passing}

pub history_none : (c : ℕ) (r : Row) → item_in r ≡ None → history_in c r ≡ None
history_none c r none = by_test (number_in (table.cust_of r) == c)
  where
    by_test : (b : Bool) → cond b (option_map (living (number_in (table.born_of r)) (number_in (table.gone_of r))) (item_in r)) None ≡ None
    by_test true = ap (option_map (living (number_in (table.born_of r)) (number_in (table.gone_of r)))) none
    by_test false = refl

pub passage_none : (c : ℕ) (r : Row) → custody_in (custody_cells_in r) ≡ None → passage_in c r ≡ None
passage_none c r none = by_test (number_in (table.cust_of r) == c)
  where
    by_test : (b : Bool) → cond b (option_map (passing (number_in (table.born_of r)) (number_in (table.gone_of r))) (custody_in (custody_cells_in r))) None ≡ None
    by_test true = ap (option_map (passing (number_in (table.born_of r)) (number_in (table.gone_of r)))) none
    by_test false = refl

pub not_owned : (c : ℕ) (r : Row) → number_in (table.cust_of r) ≢ c → passage_in c r ≡ None
not_owned c r other = ap (λ b. cond b (option_map (passing (number_in (table.born_of r)) (number_in (table.gone_of r))) (custody_in (custody_cells_in r))) None) (ne_eqb (number_in (table.cust_of r)) c other)
