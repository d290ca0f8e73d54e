-- What the texts that write `version2` do.
use Rattle.std.proofs.Common.{ℕ, ℤ, pos, Bool, if◌then◌else◌, List, [], ◌∷◌, None, Ok, Err, Result, OnOk, refl}
use Rattle.sqlite_tied.specs.Compute.{everything}
use Rattle.sqlite_rules.specs.Lists.{Has}
use Rattle.sqlite_sql.specs.declared.ops.CompareOp.TheVariants.{Eq}
use Rattle.sqlite.specs.declared.error.Error.{Error}
use Rattle.sqlite.specs.declared.types.Value.TheVariants.{Null, Int, Text}
use Rattle.sqlite.specs.Order.{Row, column}
use Rattle.sqlite.specs.State.{State, ExecutesInside}
use Rattle.sqlite.specs.Term.{Term, lit, col}
use Rattle.gaz_sql_facts.specs.Changes.{InPlace}
use Rattle.gaz_sql_facts.specs.Meaning.{MeansAnywhere, OnTable}
use Rattle.gaz_sql_facts.specs.Selects.{equals}
use Rattle.gaz_sql_facts.proofs.Free.{free}
use Rattle.gaz_sql_facts.proofs.Inserts.{inserted, kept_row}
use Rattle.gaz_tables.proofs.Standing.{apart, changes_table, command_here, listed, rest, stands, table}
use Rattle.gaz_tables.proofs.Tests.{Test, SuitsAll, means, met}
use Rattle.gaz_sql_facts.proofs.TextMoves.{anywhere}
use Rattle.gaz_sql_facts.proofs.Updates.{updated, kept_values, changed_to}
use Rattle.gaz_tables.specs.Schema.{version2, version2_columns}
use Rattle.gaz_tables.specs.Stores.{ChangesTable, HasTables, AddsRow}
use Rattle.gaz_tables.specs.Tables.{rows_of, tree_of}
use Rattle.gaz_tables.specs.Texts.{insert_version_text as insert_text, close_version_text as close_text}
use Rattle.gaz_tables.specs.Versions.{version_values, Closes, gone_at}
use Rattle.gaz_tables.proofs.VersionRows.{cust_is, kind_is, id_is, born_is}

abbrev version_uniques : List (List ℕ)
version_uniques = (1 ∷ 2 ∷ 3 ∷ 8 ∷ []) ∷ []

abbrev pub insert_terms : List Term
insert_terms = lit Null ∷ col 0 0 ∷ col 0 1 ∷ col 0 2 ∷ col 0 3 ∷ col 0 4 ∷ col 0 5 ∷ col 0 6 ∷ col 0 7 ∷ col 0 8 ∷ col 0 9 ∷ col 0 10 ∷ []

abbrev pub insert_on : OnTable
insert_on = OnTable.Inserts insert_terms 12

pub insert_anywhere : MeansAnywhere version2 insert_text insert_on
unfolding everything
insert_anywhere = anywhere version2 insert_text insert_on refl refl (record { read = _; is = refl; command_is = refl; no_rows = refl; no_time = refl })

module _ (old new : State) (has : HasTables old.now) (cust kind : ℕ) (id : List ℕ) (blpu : ℤ) (street lang : ℕ) (live : Bool) (born gone : ℕ) (body : List ℕ) (hop : ℕ) where
  abbrev pub insert_params : Row
  insert_params = Int (pos cust) ∷ Int (pos kind) ∷ Text id ∷ Int blpu ∷ Int (pos street) ∷ Int (pos lang) ∷ Int (if live then pos 1 else pos 0) ∷ Int (pos born) ∷ Int (pos gone) ∷ Text body ∷ Int (pos hop) ∷ []

  pub insert_done : (r : Result ℕ Error) → ExecutesInside 0 insert_text insert_params old new r → OnOk r (ChangesTable version2 (AddsRow (version_values cust kind id blpu street lang live born gone body hop)) old.now new.now × InPlace old new)
  insert_done (Err e) h = tt
  insert_done (Ok count) h =
      let s = old.now.schema in
      let t = has.there.versions in
      let it = inserted s t.place (rest version2 s t) None version2.name version_uniques version2_columns insert_terms 12 insert_params Null (version_values cust kind id blpu street lang live born gone body hop) (stands version2 s t).listed refl
      (kept_row version2_columns (version_values cust kind id blpu street lang live born gone body hop) ((pos cust, refl), ((pos kind, refl), ((id, refl), ((blpu, refl), ((pos street, refl), ((pos lang, refl), ((if live then pos 1 else pos 0, refl), ((pos born, refl), ((pos gone, refl), ((body, refl), ((pos hop, refl), tt)))))))))))) insert_text (command_here version2 s t insert_text insert_on insert_anywhere) old new refl count h.0 in
      (changes_table version2 (AddsRow (version_values cust kind id blpu street lang live born gone body hop)) old.now new.now it.0, it.1)

abbrev pub close_tests : List Term
close_tests = equals (col 1 1) (col 0 0) ∷ equals (col 1 2) (col 0 1) ∷ equals (col 1 3) (col 0 2) ∷ equals (col 1 8) (col 0 3) ∷ []

abbrev pub close_terms : List Term
close_terms = col 1 0 ∷ col 1 0 ∷ col 1 1 ∷ col 1 2 ∷ col 1 3 ∷ col 1 4 ∷ col 1 5 ∷ col 1 6 ∷ col 1 7 ∷ col 1 8 ∷ col 0 4 ∷ col 1 10 ∷ col 1 11 ∷ []

abbrev pub close_on : OnTable
close_on = OnTable.Updates close_tests close_terms

pub close_anywhere : MeansAnywhere version2 close_text close_on
unfolding everything
close_anywhere = anywhere version2 close_text close_on refl refl (record { read = _; is = refl; command_is = refl; no_rows = refl; no_time = refl })

module _ (old new : State) (has : HasTables old.now) (cust kind : ℕ) (id : List ℕ) (born gone : ℕ) where
  abbrev pub close_params : Row
  close_params = Int (pos cust) ∷ Int (pos kind) ∷ Text id ∷ Int (pos born) ∷ Int (pos gone) ∷ []

  abbrev close_wanted : List Test
  close_wanted = (1, Eq, Int (pos cust)) ∷ (2, Eq, Int (pos kind)) ∷ (3, Eq, Text id) ∷ (8, Eq, Int (pos born)) ∷ []

  close_suits : (r : Row) → Has (rows_of old.now version2) r → SuitsAll close_wanted r
  close_suits r there = (cust_is old.now has r there, (kind_is old.now has r there, (id_is old.now has r there, (born_is old.now has r there, tt))))

  pub close_done : (r : Result ℕ Error) → ExecutesInside 0 close_text close_params old new r → OnOk r (ChangesTable version2 (Closes cust kind id born gone) old.now new.now × InPlace old new)
  close_done (Err e) h = tt
  close_done (Ok count) h =
      let s = old.now.schema in
      let t = has.there.versions in
      let set = λ (r : Row). column r 1 ∷ column r 2 ∷ column r 3 ∷ column r 4 ∷ column r 5 ∷ column r 6 ∷ column r 7 ∷ column r 8 ∷ Int (pos gone) ∷ column r 10 ∷ column r 11 ∷ [] in
      let it = updated s t.place (rest version2 s t) None version2.name version_uniques version2_columns close_tests close_terms close_params set (stands version2 s t).listed (λ olds news keys. free s keys (tree_of version2 s) olds news (apart version2 s t)) (λ r. refl)
      (kept_values s (table version2 s t) set (listed version2 s t) refl refl (λ r t. (t.0, (t.1.0, (t.1.1.0, (t.1.1.1.0, (t.1.1.1.1.0, (t.1.1.1.1.1.0, (t.1.1.1.1.1.1.0, (t.1.1.1.1.1.1.1.0, ((pos gone, refl), (t.1.1.1.1.1.1.1.1.1.0, (t.1.1.1.1.1.1.1.1.1.1.0, tt))))))))))))) close_text (command_here version2 s t close_text close_on close_anywhere) old new refl count has.sound has.versions_shaped h.0 in (
        changes_table version2 (Closes cust kind id born gone) old.now new.now (changed_to (tree_of version2 s) (gone_at gone) old.now new.now
            (λ r there p. let m = means close_wanted r refl (close_suits r there) p in record { of_key = record { of_cust = m.0; of_kind = m.1.0; of_id = m.1.1.0 }; of_born = m.1.1.1.0 })
            (λ r there fits. met close_wanted r (close_suits r there) (fits.of_key.of_cust, (fits.of_key.of_kind, (fits.of_key.of_id, (fits.of_born, tt))))) it.0),
        it.1,
      )
