-- What a query comes to, by its text and what it tells of the rows that it was shown.
use Rattle.std.proofs.Common.{ℕ, List, [], ◌∷◌, Result, IfOk, Vec, refl}
use Rattle.std.proofs.lemmas.Result.{IfErr-weaker}
use Rattle.std.specs.Prelude.{IfErr}
use Rattle.std.specs.declared.alloc.Global.{Global}
use Rattle.sqlite_value.specs.declared.keys.Key.{Key}
use Rattle.sqlite_schema.specs.declared.schema.Schema.{Schema}
use Rattle.sqlite_schema.specs.declared.schema.Table.{Table}
use Rattle.sqlite_sql.specs.Term.{eval}
use Rattle.sqlite_sql.specs.Query.{as_count}
use Rattle.sqlite.specs.Effect.{Database}
use Rattle.sqlite.specs.Held.{Held, state}
use Rattle.sqlite.specs.Order.{Row}
use Rattle.sqlite.specs.State.{CommitsShowing, FailsToQuery, HasCleanDisk, Shown, Survives}
use Rattle.sqlite.specs.Term.{Term}
use Rattle.sqlite.specs.declared.error.Error.{Error}
use Rattle.sqlite_trees.specs.declared.store.Store.{Ghosts}
use Rattle.gaz_sql_facts.specs.Meaning.{MeansAnywhere, OnTable}
use Rattle.gaz_sql_facts.specs.Selects.{Selects, selecting}
use Rattle.gaz_sql_facts.specs.Reasons.{HasReason}
use Rattle.gaz_sql_facts.proofs.Reasons.{Suits, reason_over}
use Rattle.gaz_sql_facts.proofs.Texts.{IsSelect, answers, is_select, leaves_as_before, open_query, spared_query, stays}
use Rattle.gaz_tables.proofs.Standing.{means_here, stands, table}
use Rattle.gaz_tables.specs.Stores.{HasTables, Queries}
use Rattle.gaz_tables.specs.Tables.{AreThere, HasTable, rows_of, tree_of}

-- of the table `like`, which is one of a store's
module _ {S : Type 0} (g : Ghosts S) (old new : Held S) (like : Table) (one : (schema : Schema) → AreThere schema → HasTable like schema)
    (sql : List ℕ) (names : List (List ℕ)) (tests project : List Term) (order : List (Term × Key)) (limit : Term)
    (means : MeansAnywhere like sql (OnTable.Selects tests project order limit names)) (params : Row) (r : Result (Vec Row Global) Error) where
  abbrev db : Database
  db = (state g old).now

  text : HasTables db → IsSelect db.schema sql (selecting (tree_of like db.schema) tests project order limit) names
  text has = is_select db.schema sql _ names (means_here like db.schema (one db.schema has.there) sql (OnTable.Selects tests project order limit names) means)

  reason_here : HasTables db → Suits like sql (OnTable.Selects tests project order limit names) params → (e : Error) → FailsToQuery sql params (state g old) (state g new) e → HasReason (state g old) (state g new) e
  reason_here has suits = let it = one db.schema has.there in reason_over db.schema it.place like (table like db.schema it) (stands like db.schema it) refl sql tests project order limit names (text has) params suits (state g old) (state g new) refl

  pub queries : (HasCleanDisk (state g new) → IfOk r (λ rows. Shown sql params (state g old) (state g new) rows.items))
      → (HasCleanDisk (state g new) → IfErr r (FailsToQuery sql params (state g old) (state g new)))
      → Survives (state g old) (state g new) (CommitsShowing sql params (state g old))
      → Suits like sql (OnTable.Selects tests project order limit names) params
      → (IsAnswer : List Row → List Row → Type 0)
      → (HasTables db → IfOk r (λ rows. Selects tests project order (as_count (eval limit (params ∷ []))) (rows_of db like) params rows.items)
      → IfOk r (λ rows. IsAnswer (rows_of db like) rows.items))
      → Queries g old new like r IsAnswer
  queries ok err survives suits IsAnswer tells = record {
    found = λ clean has. tells has (answers db.schema sql names (tree_of like db.schema) tests project order limit (text has) params (state g old) (state g new) refl r (ok clean));
    stays = λ clean has. stays db.schema sql names (tree_of like db.schema) tests project order limit (text has) params (state g old) (state g new) refl r (ok clean);
    was_open = λ clean. open_query sql params (state g old) (state g new) r (ok clean);
    spared = λ clean. spared_query sql params (state g old) (state g new) r (err clean);
    reason = λ clean has. IfErr-weaker r (FailsToQuery sql params (state g old) (state g new)) (HasReason (state g old) (state g new)) (reason_here has suits) (err clean);
    leaves = λ has. leaves_as_before sql params (state g old) (state g new) (λ early. (text (has early)).plain) survives;
  }
