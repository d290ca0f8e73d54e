-- A row that is written for an item says it.
use Rattle.std.proofs.Common.{◌≡◌, ◌∙◌, ◌==◌, ℕ, pos, ◌∷◌, refl, ap, eq-eqb, ne_eqb}
use Rattle.std.specs.Prelude.{Some, None, Ok, option_map, if◌then◌else◌}
use Rattle.std.specs.Result.{result_ok}
use Rattle.sqlite.specs.declared.types.Value.{Value}
use Rattle.sqlite.specs.declared.types.Value.TheVariants.{Int}
use Rattle.gaz_ids.specs.declared.status.Status.{Status}
use Rattle.gaz_ids.specs.declared.status.Status.TheVariants.{Approved, Alternative, Provisional, Historical}
use Rattle.gaz_records.specs.declared.item.Item.{Item}
use Rattle.gaz_records.specs.declared.item.Item.TheVariants as item
use Rattle.gaz_cells.specs.Columns.{cells_of, live_number, live_of}
use Rattle.gaz_cells.specs.Reading.{read_cells}
use Rattle.gaz_row_items.specs.Versions.{cells_in, history_in, living, number_in, values_of}

-- 0 or 1, as it is written and read
abbrev written_live : ℕ → ℕ
written_live n = number_in (Int (if n == 1 then pos 1 else pos 0))

live_status : (s : Status) → written_live (live_number s) ≡ live_number s
live_status Approved = refl
live_status Alternative = refl
live_status Provisional = refl
live_status Historical = refl

live_same : (x : Item) → written_live (live_of x) ≡ live_of x
live_same (item.Street x) = refl
live_same (item.Descriptor x) = refl
live_same (item.Blpu x) = refl
live_same (item.Xref x) = refl
live_same (item.Lpi x) = live_status x.status
live_same (item.Release x) = refl
live_same (item.Adopt x) = refl

pub cells_same : (id : Value) (c born gone : ℕ) (x : Item) → cells_in (id ∷ values_of c born gone x) ≡ cells_of x
cells_same id c born gone x = λ i. record (cells_of x) { links = record ((cells_of x).links) { live = live_same x i } }

-- of its custodian
pub says : (id : Value) (c born gone : ℕ) (x : Item) → read_cells (cells_of x) ≡ Ok x → history_in c (id ∷ values_of c born gone x) ≡ Some (living born gone x)
says id c born gone x reads =
    ap (λ b. if b then option_map (living born gone) (result_ok (read_cells (cells_in (id ∷ values_of c born gone x)))) else None) (eq-eqb c c refl)
    ∙ ap (λ cells. option_map (living born gone) (result_ok (read_cells cells))) (cells_same id c born gone x)
    ∙ ap (λ r. option_map (living born gone) (result_ok r)) reads

-- and nothing of another
pub not_another : (id : Value) (c d born gone : ℕ) (x : Item) → ¬ (c ≡ d) → history_in d (id ∷ values_of c born gone x) ≡ None
not_another id c d born gone x other =
    ap (λ b. if b then option_map (living born gone) (result_ok (read_cells (cells_in (id ∷ values_of c born gone x)))) else None) (ne_eqb c d other)
