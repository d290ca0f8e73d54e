-- What the next opening of a store's tables answers.
use Rattle.std.proofs.Common.{◌≡◌, inl, inr, ℕ, List, Result, Ok, Err, refl, subst}
use Rattle.sqlite.specs.Held.{Held, state}
use Rattle.sqlite.specs.Order.{Row}
use Rattle.sqlite.specs.declared.types.Value.TheVariants.{Text}
use Rattle.sqlite_trees.specs.declared.store.Store.{Ghosts}
use Rattle.gaz_register.specs.Registers.{RegisterValue}
use Rattle.gaz_register.specs.Texts.{register_text}
use Rattle.gaz_tables.specs.Metas.{register_of}
use Rattle.gaz_tables.specs.Schema.{meta}
use Rattle.gaz_tables.specs.Tables.{rows_of}
use Rattle.gaz_kept.specs.Opening.{IsJudged, IsOf}
use Rattle.gaz_kept.specs.declared.refusal.StoreRefusal.{StoreRefusal}
use Rattle.gaz_kept.specs.declared.refusal.StoreRefusal.TheVariants.{BadSchema, Fault, OtherRegister}
use Rattle.gaz_stored.specs.Reopening.{HasStoreOf, OpensAgain, OpensOrFails, OpensThen}
use Rattle.gaz_stored.proofs.Calling.{same_row}

-- rows of this register are told of so
judged : (text : List ℕ) (rows : List Row) → IsOf text rows → (answer : Result (Unit {0}) StoreRefusal) → IsJudged text rows answer → OpensOrFails answer
judged text rows whose (Ok done) is = inl refl
judged text rows whose (Err BadSchema) is = absurd (is whose.0 whose.1)
judged text rows whose (Err OtherRegister) is =
    absurd (is.2 (subst (λ r. register_of r ≡ Text text) (same_row whose.0 is.0 rows whose.1.only is.1.only) whose.2))
judged text rows whose (Err Fault) is = inr refl

module _ {S : Type 0} (g : Ghosts S) where
  pub opens : (register : RegisterValue) (conn next : Held S) → HasStoreOf register (state g conn).now → OpensThen g register conn next
  opens register conn next store answer clean judges = judged (register_text register) (rows_of (state g conn).now meta) store.whose answer (judges clean store.tables)

  pub opens_again : OpensAgain g
  opens_again = record {
    store = opens;
    left = λ register before commands responses after conn next finds may.
        let store = (finds (state g conn).now may).store in
        opens register conn next (record { tables = store.stands.kept.tables; whose = store.whose });
  }
