-- What the texts that write `received` do.
use Rattle.std.proofs.Common.{ℕ, ℤ, pos, List, [], ◌∷◌, None, Ok, Err, Result, OnOk, refl}
use Rattle.sqlite_tied.specs.Compute.{everything}
use Rattle.sqlite_rules.specs.Lists.{Has}
use Rattle.sqlite_sql.specs.declared.ops.CompareOp.TheVariants.{Eq}
use Rattle.sqlite.specs.declared.error.Error.{Error}
use Rattle.sqlite.specs.declared.types.Value.TheVariants.{Null, Int, Blob}
use Rattle.sqlite.specs.Order.{Row, column}
use Rattle.sqlite.specs.State.{State, ExecutesInside}
use Rattle.sqlite.specs.Term.{Term, lit, col}
use Rattle.gaz_sql_facts.specs.Changes.{InPlace}
use Rattle.gaz_sql_facts.specs.Meaning.{MeansAnywhere, OnTable}
use Rattle.gaz_sql_facts.specs.Selects.{equals}
use Rattle.gaz_sql_facts.proofs.Free.{free}
use Rattle.gaz_sql_facts.proofs.Inserts.{inserted, kept_row}
use Rattle.gaz_tables.proofs.Standing.{apart, changes_table, command_here, listed, rest, stands, table}
use Rattle.gaz_tables.proofs.Tests.{Test, SuitsAll, means, met}
use Rattle.gaz_sql_facts.proofs.TextMoves.{anywhere}
use Rattle.gaz_sql_facts.proofs.Updates.{updated, kept_values, changed_to}
use Rattle.gaz_tables.specs.Schema.{received, received_columns}
use Rattle.gaz_tables.specs.Stores.{ChangesTable, HasTables, AddsRow}
use Rattle.gaz_tables.specs.Tables.{rows_of, tree_of}
use Rattle.gaz_tables.specs.Receiveds.{unjudged, judged, Applies, Rejects}
use Rattle.gaz_tables.specs.Texts.{receive_text, apply_text, reject_text}
use Rattle.gaz_tables.proofs.ReceivedRows.{cust_is, volume_is}

abbrev received_uniques : List (List ℕ)
received_uniques = (1 ∷ 2 ∷ []) ∷ []

abbrev pub receive_terms : List Term
receive_terms = lit Null ∷ col 0 0 ∷ col 0 1 ∷ col 0 2 ∷ lit (Int (pos 0)) ∷ lit (Int (pos 0)) ∷ lit (Int (pos 0)) ∷ []

abbrev pub receive_on : OnTable
receive_on = OnTable.Inserts receive_terms 7

pub receive_anywhere : MeansAnywhere received receive_text receive_on
unfolding everything
receive_anywhere = anywhere received receive_text receive_on refl refl (record { read = _; is = refl; command_is = refl; no_rows = refl; no_time = refl })

module _ (old new : State) (has : HasTables old.now) (cust volume : ℕ) (bytes : List ℕ) where
  abbrev pub receive_params : Row
  receive_params = Int (pos cust) ∷ Int (pos volume) ∷ Blob bytes ∷ []

  pub receive_done : (r : Result ℕ Error) → ExecutesInside 0 receive_text receive_params old new r → OnOk r (ChangesTable received (AddsRow (unjudged cust volume bytes)) old.now new.now × InPlace old new)
  receive_done (Err e) h = tt
  receive_done (Ok count) h =
      let s = old.now.schema in
      let t = has.there.receiveds in
      let it = inserted s t.place (rest received s t) None received.name received_uniques received_columns receive_terms 7 receive_params Null (unjudged cust volume bytes) (stands received s t).listed refl
      (kept_row received_columns (unjudged cust volume bytes) ((pos cust, refl), ((pos volume, refl), ((bytes, refl), ((pos 0, refl), ((pos 0, refl), ((pos 0, refl), tt))))))) receive_text (command_here received s t receive_text receive_on receive_anywhere) old new refl count h.0 in
      (changes_table received (AddsRow (unjudged cust volume bytes)) old.now new.now it.0, it.1)

abbrev pub apply_tests : List Term
apply_tests = equals (col 1 1) (col 0 0) ∷ equals (col 1 2) (col 0 1) ∷ []

abbrev pub apply_terms : List Term
apply_terms = col 1 0 ∷ col 1 0 ∷ col 1 1 ∷ col 1 2 ∷ col 1 3 ∷ lit (Int (pos 1)) ∷ lit (Int (pos 0)) ∷ lit (Int (pos 0)) ∷ []

abbrev pub apply_on : OnTable
apply_on = OnTable.Updates apply_tests apply_terms

pub apply_anywhere : MeansAnywhere received apply_text apply_on
unfolding everything
apply_anywhere = anywhere received apply_text apply_on refl refl (record { read = _; is = refl; command_is = refl; no_rows = refl; no_time = refl })

module _ (old new : State) (has : HasTables old.now) (cust volume : ℕ) where
  abbrev pub apply_params : Row
  apply_params = Int (pos cust) ∷ Int (pos volume) ∷ []

  abbrev apply_wanted : List Test
  apply_wanted = (1, Eq, Int (pos cust)) ∷ (2, Eq, Int (pos volume)) ∷ []

  apply_suits : (r : Row) → Has (rows_of old.now received) r → SuitsAll apply_wanted r
  apply_suits r there = (cust_is old.now has r there, (volume_is old.now has r there, tt))

  pub apply_done : (r : Result ℕ Error) → ExecutesInside 0 apply_text apply_params old new r → OnOk r (ChangesTable received (Applies cust volume) old.now new.now × InPlace old new)
  apply_done (Err e) h = tt
  apply_done (Ok count) h =
      let s = old.now.schema in
      let t = has.there.receiveds in
      let set = λ (r : Row). column r 1 ∷ column r 2 ∷ column r 3 ∷ Int (pos 1) ∷ Int (pos 0) ∷ Int (pos 0) ∷ [] in
      let it = updated s t.place (rest received s t) None received.name received_uniques received_columns apply_tests apply_terms apply_params set (stands received s t).listed (λ olds news keys. free s keys (tree_of received s) olds news (apart received s t)) (λ r. refl)
      (kept_values s (table received s t) set (listed received s t) refl refl (λ r t. (t.0, (t.1.0, (t.1.1.0, ((pos 1, refl), ((pos 0, refl), ((pos 0, refl), tt)))))))) apply_text (command_here received s t apply_text apply_on apply_anywhere) old new refl count has.sound has.receiveds_shaped h.0 in (
        changes_table received (Applies cust volume) old.now new.now (changed_to (tree_of received s) (judged 1 (pos 0) 0) old.now new.now
            (λ r there p. let m = means apply_wanted r refl (apply_suits r there) p in record { of_cust = m.0; of_volume = m.1.0 })
            (λ r there fits. met apply_wanted r (apply_suits r there) (fits.of_cust, (fits.of_volume, tt))) it.0),
        it.1,
      )

abbrev pub reject_tests : List Term
reject_tests = equals (col 1 1) (col 0 0) ∷ equals (col 1 2) (col 0 1) ∷ []

abbrev pub reject_terms : List Term
reject_terms = col 1 0 ∷ col 1 0 ∷ col 1 1 ∷ col 1 2 ∷ col 1 3 ∷ lit (Int (pos 2)) ∷ col 0 2 ∷ col 0 3 ∷ []

abbrev pub reject_on : OnTable
reject_on = OnTable.Updates reject_tests reject_terms

pub reject_anywhere : MeansAnywhere received reject_text reject_on
unfolding everything
reject_anywhere = anywhere received reject_text reject_on refl refl (record { read = _; is = refl; command_is = refl; no_rows = refl; no_time = refl })

module _ (old new : State) (has : HasTables old.now) (cust volume : ℕ) (place : ℤ) (rule : ℕ) where
  abbrev pub reject_params : Row
  reject_params = Int (pos cust) ∷ Int (pos volume) ∷ Int place ∷ Int (pos rule) ∷ []

  abbrev reject_wanted : List Test
  reject_wanted = (1, Eq, Int (pos cust)) ∷ (2, Eq, Int (pos volume)) ∷ []

  reject_suits : (r : Row) → Has (rows_of old.now received) r → SuitsAll reject_wanted r
  reject_suits r there = (cust_is old.now has r there, (volume_is old.now has r there, tt))

  pub reject_done : (r : Result ℕ Error) → ExecutesInside 0 reject_text reject_params old new r → OnOk r (ChangesTable received (Rejects cust volume place rule) old.now new.now × InPlace old new)
  reject_done (Err e) h = tt
  reject_done (Ok count) h =
      let s = old.now.schema in
      let t = has.there.receiveds in
      let set = λ (r : Row). column r 1 ∷ column r 2 ∷ column r 3 ∷ Int (pos 2) ∷ Int place ∷ Int (pos rule) ∷ [] in
      let it = updated s t.place (rest received s t) None received.name received_uniques received_columns reject_tests reject_terms reject_params set (stands received s t).listed (λ olds news keys. free s keys (tree_of received s) olds news (apart received s t)) (λ r. refl)
      (kept_values s (table received s t) set (listed received s t) refl refl (λ r t. (t.0, (t.1.0, (t.1.1.0, ((pos 2, refl), ((place, refl), ((pos rule, refl), tt)))))))) reject_text (command_here received s t reject_text reject_on reject_anywhere) old new refl count has.sound has.receiveds_shaped h.0 in (
        changes_table received (Rejects cust volume place rule) old.now new.now (changed_to (tree_of received s) (judged 2 place rule) old.now new.now
            (λ r there p. let m = means reject_wanted r refl (reject_suits r there) p in record { of_cust = m.0; of_volume = m.1.0 })
            (λ r there fits. met reject_wanted r (reject_suits r there) (fits.of_cust, (fits.of_volume, tt))) it.0),
        it.1,
      )
