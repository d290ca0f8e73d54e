-- What is told where a store's register grows.
use Rattle.std.proofs.Common.{◌≡◌, ◌∙◌, inl, inr, ℕ, true, List, Result, Ok, Err, refl, sym, ap, subst}
use Rattle.std.specs.Prelude.{IsErrAnd}
use Rattle.std.proofs.lemmas.Bool.{cases_Bool}
use Rattle.sqlite.specs.Effect.{Database}
use Rattle.sqlite.specs.Held.{Held, state}
use Rattle.sqlite.specs.State.{State}
use Rattle.sqlite_trees.specs.declared.store.Store.{Ghosts}
use Rattle.gaz_register.specs.Growing.{Extends, growth_of, keeps_blocks, keeps_custodians}
use Rattle.gaz_register.specs.Registers.{RegisterValue}
use Rattle.gaz_register.specs.Texts.{register_text}
use Rattle.gaz_register.proofs.Grown.{grows}
use Rattle.gaz_keeper.specs.declared.fault.ShelfFault.{ShelfFault}
use Rattle.gaz_keeper.specs.declared.fault.ShelfFault.TheVariants as shelf
use Rattle.gaz_tables.specs.Schema.{meta}
use Rattle.gaz_tables.specs.Stores.{HasTables}
use Rattle.gaz_tables.specs.Tables.{rows_of}
use Rattle.gaz_kept.specs.Opening.{IsOf}
use Rattle.gaz_kept.specs.Rewriting.{Registers}
use Rattle.gaz_kept.proofs.Rewritten.{rewrites_stand}
use Rattle.gaz_calls.specs.Altering.{Alters, AltersTables}
use Rattle.gaz_calls.specs.Asking.{Asks, AsksTables, IsAnyway}
use Rattle.gaz_calls.specs.Growing.{TellsRegisters, TellsWhose, as_keeper, as_kept, of_keeper}
use Rattle.gaz_calls.specs.Seen.{IsUnharmed}
use Rattle.gaz_calls.specs.declared.growing.ExtendFault.{ExtendFault}
use Rattle.gaz_calls.specs.declared.tables.Tables.{Tables}
use Rattle.gaz_calls.proofs.Altering.{alters_then}
use Rattle.gaz_calls.proofs.Seeing.{tallies_then}

module _ {S : Type 0} {g : Ghosts S} where
  abbrev at : Tables S g → State
  at t = state g t.conn

  -- what is written once it is known
  pub alters_after : {A B : Type 0} (old mid new : Tables S g) (one : Result A ShelfFault) (r : Result B ShelfFault) (text : List ℕ) → AsksTables old mid one IsAnyway → AltersTables mid new r (Registers text) → AltersTables old new r (Registers text)
  alters_after old mid new one r text asks alters = record {
    alters = alters_then (at old) (at mid) (at new) one r IsAnyway (Registers text) (Registers text) asks.asks alters.alters (λ h db is. is);
    tallies = tallies_then old.failures mid.failures new.failures one r asks.tallies alters.tallies;
    at_hand = alters.at_hand ∙ asks.at_hand;
  }

-- a keeper's fault that is told is told as the keeper's
as_it_was : (e : ShelfFault) → as_keeper (of_keeper e) ≡ e
as_it_was shelf.Memory = refl
as_it_was shelf.Store = refl

told_as : (r : Result (Unit {0}) ExtendFault) (e : ShelfFault) → IsErrAnd r (λ f. f ≡ of_keeper e) → as_kept r ≡ Err e
told_as (Ok x) e h = absurd h
told_as (Err f) e h = ap Err (ap as_keeper h ∙ as_it_was e)

-- what isn't written, once it is known
pub refused_after : {S : Type 0} {g : Ghosts S} {A : Type 0} (old mid new : Tables S g) (one : Result A ShelfFault) (r : Result (Unit {0}) ShelfFault) (e : ShelfFault) (result : Result (Unit {0}) ExtendFault) (text : List ℕ)
    → AsksTables old mid one IsAnyway → AltersTables mid new r (Registers text) → r ≡ Err e → IsErrAnd result (λ f. f ≡ of_keeper e) → AltersTables old new (as_kept result) (Registers text)
refused_after old mid new one r e result text asks alters is told =
    subst (λ q. AltersTables old new q (Registers text)) (is ∙ sym (told_as result e told)) (alters_after old mid new one r text asks alters)

-- ---- the register

pub growth_is : (old grown : RegisterValue) → growth_of old grown ≡ Ok tt → Extends old grown
growth_is old grown e = elim (cases_Bool (keeps_custodians old grown)) [
  | inl kept ↦ elim (cases_Bool (keeps_blocks old grown)) [
    | inl alike ↦ grows old grown kept alike
    | inr changed ↦ absurd (let f = rw (kept, changed) at e in cc)
  ]
  | inr removed ↦ absurd (let f = rw removed at e in cc)
]

-- ---- what is told of the row of `meta`

module _ {S : Type 0} (g : Ghosts S) (before mid after : Held S) (register grown : RegisterValue) where
  abbrev text : List ℕ
  text = register_text register

  -- it was, and gets the other one
  pub grown_told : {A B : Type 0} (one : Result A ShelfFault) → Asks (state g before) (state g mid) one IsAnyway → TellsWhose g before mid text (Ok true)
      → (done : B) → Alters {T = B} (state g mid) (state g after) (Ok done) (Registers (register_text grown)) → TellsRegisters g before after register grown (Ok tt)
  grown_told one asks told done alters clean has =
      let h : IsUnharmed (state g after) = record { clean = clean; is_open = alters.is_open clean } in
      let fine = alters.harm h in
      let same = asks.rests fine has in
      let mine = (told fine.clean has).0 refl in
      let tables = subst HasTables (sym same) has in
      (mine, rewrites_stand.is_of text (register_text grown) (state g mid).now (state g after).now tables (subst (λ (db : Database). IsOf text (rows_of db meta)) (sym same) mine) (alters.done h tables))
