-- Worked examples on what is told where a store's register grows.
use Rattle.std.specs.Prelude.{◌≡◌, pos, [], ◌∷◌, codes, Ok, Err}
use Rattle.sqlite.specs.Order.{Row}
use Rattle.sqlite.specs.declared.types.Value.TheVariants.{Int, Null, Text}
use Rattle.gaz_register.specs.Registers.{CustodianValue}
use Rattle.gaz_register.specs.declared.growth.GrowFault.TheVariants as growth
use Rattle.gaz_keeper.specs.declared.fault.ShelfFault.TheVariants as shelf
use Rattle.gaz_tables.specs.Metas.{Rewrites, meta_row}
use Rattle.gaz_calls.specs.Growing.{TellsGrowth, as_kept, of_growth, of_keeper, register_then}
use Rattle.gaz_calls.specs.declared.growing.ExtendFault.TheVariants.{OtherRegister}
use Rattle.gaz_calls.specs.declared.growing.ExtendFault.TheVariants.{RemovedCustodian}
use Rattle.gaz_calls.specs.declared.growing.ExtendFault.TheVariants.{ChangedBlocks, Fault}

-- a custodian without blocks, one more, and the first with a block
abbrev pub county : CustodianValue
county = record { code = 1001; name = codes "County"; own = record { uprn = []; usrn = [] } }

abbrev pub town : CustodianValue
town = record { code = 1004; name = codes "Town"; own = record { uprn = []; usrn = [] } }

abbrev pub larger_county : CustodianValue
larger_county =
    record { code = 1001; name = codes "County"; own = record { uprn = (1, 9) ∷ []; usrn = [] } }

-- the row of `meta` with one text and with another, and a row of another id
abbrev pub first_text : Row
first_text = meta_row 2 (codes "A")

abbrev pub second_text : Row
second_text = meta_row 2 (codes "AB")

abbrev pub of_id_2 : Row
of_id_2 = Int (pos 2) ∷ Null ∷ Int (pos 2) ∷ Text (codes "A") ∷ []

pub record WorkedRows : Type 0 where
  pub gets_it : Rewrites 2 (codes "AB") (first_text ∷ []) (second_text ∷ [])
  pub alone : Rewrites 2 (codes "AB") (first_text ∷ of_id_2 ∷ []) (second_text ∷ of_id_2 ∷ [])
  pub stays : ¬ Rewrites 2 (codes "AB") (first_text ∷ []) (first_text ∷ [])
  pub gone : ¬ Rewrites 2 (codes "AB") (first_text ∷ of_id_2 ∷ []) (second_text ∷ [])

pub record WorkedGrowing : Type 0 where
  pub failure : as_kept (Err Fault) ≡ Err shelf.Store
  pub refusal : as_kept (Err OtherRegister) ≡ Err shelf.Memory
  pub done : as_kept (Ok tt) ≡ Ok tt
  pub failed : of_keeper shelf.Store ≡ Fault
  pub gone : of_growth growth.RemovedCustodian ≡ RemovedCustodian
  pub removed : TellsGrowth (county ∷ town ∷ []) (county ∷ []) (Err RemovedCustodian)
  pub changed : TellsGrowth (county ∷ []) (larger_county ∷ town ∷ []) (Err ChangedBlocks)
  pub not_changed : ¬ TellsGrowth (county ∷ []) (county ∷ town ∷ []) (Err ChangedBlocks)
  pub then_grown : register_then (county ∷ []) (county ∷ town ∷ []) (Ok tt) ≡ county ∷ town ∷ []
  pub then_old : register_then (county ∷ []) (county ∷ town ∷ []) (Err Fault) ≡ county ∷ []
  pub on_rows : WorkedRows
