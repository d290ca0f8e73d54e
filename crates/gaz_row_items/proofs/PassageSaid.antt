-- A row that is written for a number says what became of it.
use Rattle.std.proofs.Common.{◌≡◌, ◌∙◌, ℕ, true, cond, ◌∷◌, refl, ap, eq-eqb}
use Rattle.std.specs.Prelude.{Some, None, option_map}
use Rattle.sqlite.specs.declared.types.Value.{Value}
use Rattle.gaz_records.specs.Blpus.{is_uprn}
use Rattle.gaz_views.specs.declared.custody.Custody.{Custody}
use Rattle.gaz_views.specs.declared.custody.Custody.TheVariants.{Adopted, Released}
use Rattle.gaz_cells.proofs.CustodyBack.{custody_back}
use Rattle.gaz_cells.specs.Custody.{custody_cells, custody_in, is_custody}
use Rattle.gaz_row_items.specs.Versions.{custody_cells_in, passage_in, passage_values, passing}

-- 0 or 1, as it is written and read
pub written_cells : (id : Value) (c born gone uprn : ℕ) (x : Custody) → custody_cells_in (id ∷ passage_values c born gone uprn x) ≡ custody_cells uprn x
written_cells id c born gone uprn (Released to hop) = refl
written_cells id c born gone uprn (Adopted from hop) = refl

-- of its custodian it says what became of the number
pub says_passage : (id : Value) (c born gone uprn : ℕ) (x : Custody) → is_uprn uprn ≡ true → is_custody x ≡ true → passage_in c (id ∷ passage_values c born gone uprn x) ≡ Some (passing born gone (uprn, x))
says_passage id c born gone uprn x number such =
    ap (λ b. cond b (option_map (passing born gone) (custody_in (custody_cells_in (id ∷ passage_values c born gone uprn x)))) None) (eq-eqb c c refl)
    ∙ ap (option_map (passing born gone)) (ap custody_in (written_cells id c born gone uprn x) ∙ custody_back uprn x number such)
