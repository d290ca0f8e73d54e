-- What an INSERT, UPDATE or DELETE is over one table, it is over another that reads alike, wherever that stands.
use Rattle.std.proofs.Common.{◌≡◌, ℕ, ◌+◌, true, ◌==◌, if◌then◌else◌, List, [], ◌∷◌, length, Option, Some, Ok, Err, refl, ◌∙◌}
use Rattle.std.specs.List.{list_all}
use Rattle.std.proofs.lemmas.Bool.{and_parts}
use Rattle.sqlite_ast.specs.declared.Expr.{Expr}
use Rattle.sqlite_ast.specs.declared.Rows.{Rows}
use Rattle.sqlite_ast.specs.declared.Rows.TheVariants as rows
use Rattle.sqlite_sql.specs.Term.{Term}
use Rattle.sqlite_schema.specs.declared.command.Command.TheVariants.{Insert}
use Rattle.sqlite_schema.specs.declared.command.Source.{Source}
use Rattle.sqlite_schema.specs.declared.command.Source.TheVariants as source
use Rattle.sqlite_schema.specs.declared.schema.Schema.{Schema}
use Rattle.sqlite_schema.specs.declared.schema.Table.{Table}
use Rattle.sqlite_resolve.specs.declared.error.CompileError.TheVariants.{Unsupported}
use Rattle.sqlite_resolve.specs.declared.state.State.{State}
use Rattle.sqlite_resolve.specs.declared.write.NewRows.{NewRows}
use Rattle.sqlite_resolve.specs.declared.write.NewRows.TheVariants as new
use Rattle.sqlite_resolve.specs.Compile.{new_rows, queried, source_of, insert}
use Rattle.sqlite_resolve.specs.Lowering.{Checked, and_then, fresh, max_budget}
use Rattle.sqlite_resolve.specs.Program.{program}
use Rattle.sqlite_resolve.specs.Scope.{Name}
use Rattle.sqlite_resolve.specs.Body.{all}
use Rattle.sqlite_resolve.specs.Write.{with_place, place, places, row, cell, absent, leaves_computed, simple, value_row, value_rows, value_rows_from, values, inserted}
use Rattle.gaz_sql_facts.specs.Simple.{none_known, is_simple, are_simple_rows}
use Rattle.gaz_sql_facts.specs.Standing.{StandsAt}
use Rattle.gaz_sql_facts.proofs.Looks.{as_read, same_outside}
use Rattle.gaz_sql_facts.proofs.Lower.{all_same}
use Rattle.gaz_sql_facts.proofs.Typing.{taken}

-- ---- a row is laid out alike over both tables

module _ (like table : Table) where
  pub row_same : (fill : Option ℕ) (at : List ℕ) (done values : List Term) → row (as_read like table) fill at done values ≡ row like fill at done values
  unfolding row cell absent leaves_computed
  row_same fill at done values = refl

  pub places_same : (names : List Name) → places (as_read like table) names ≡ places like names
  unfolding places with_place place
  places_same names = refl

-- ---- INSERT .. VALUES

module _ (s s' : Schema) (like table : Table) (base : ℕ) where
  row_read : (at : List ℕ) (done : List Term) (es : List Expr) → list_all (is_simple none_known) es ≡ true → (st : State) → value_row s (as_read like table) base at done es st ≡ value_row s' like base at done es st
  unfolding value_row all
  row_read at done es h st =
      λ i. and_then (all_same none_known _ _ (same_outside s s') [] es h (record st { budget = max_budget }) i) (λ r. and_then (row_same like table (Some base) at done r.0 i) (λ longer. Ok (longer, r.1)))

  rows_read : (at : List ℕ) (all : List (List Expr)) → list_all (list_all (is_simple none_known)) all ≡ true → (done : List Term) (st : State)
      → value_rows_from s (as_read like table) base at done all st ≡ value_rows_from s' like base at done all st
  rows_read at [] h done st = refl
  rows_read at (r ∷ more) h done st =
      let p = and_parts _ _ h in
      λ i. and_then (row_read at done r p.0 st i) (λ x. rows_read at more p.1 x.0 x.1 i)

  values_read : (at : List ℕ) (all : List (List Expr)) → list_all (list_all (is_simple none_known)) all ≡ true → values s (as_read like table) base at all ≡ values s' like base at all
  unfolding values value_rows
  values_read at all h = λ i. and_then (rows_read at all h [] (fresh 1 max_budget) i) (λ r.
      if length r.1.steps == 0 then Ok (new.Values r.0) else (if length all == 1 then Ok (new.Query [] (simple r.1.steps [] r.0)) else Err Unsupported))

  inserted_read : (columns : List Name) (all : Rows) → are_simple_rows all ≡ true → inserted s (as_read like table) base columns all ≡ inserted s' like base columns all
  unfolding inserted
  inserted_read columns (rows.Values all) h = λ i. and_then (places_same like table columns i) (λ at. values_read at all h i)
  inserted_read columns rest h = absurd (cc)

-- rows of values are what they are in any schema
by_values : (s s' : Schema) (width : ℕ) (it : NewRows) (terms : List Term) (n : ℕ) → source_of s' width it ≡ Ok (source.Values terms n) → source_of s width it ≡ Ok (source.Values terms n)
unfolding source_of queried
by_values s s' width (new.Values all) terms n h = h
by_values s s' width (new.Query lets d) terms n h =
    let q = taken (program s' lets d) _ _ h in
    absurd (let clash : ◌≡◌ {A = Checked Source} (Ok (source.Query q.0)) (Ok (source.Values terms n)) = q.2 in cc)

-- the INSERT is of values
abbrev pub IsValues : Source → Type 0
IsValues it = (terms : List Term) × (width : ℕ) × (it ≡ source.Values terms width)

module _ (s s' : Schema) (at at' : ℕ) (like table : Table) (stands : StandsAt s at (as_read like table)) (stands' : StandsAt s' at' like) where
  pub insert_is : (base : ℕ) (columns : List Name) (all : Rows) → insert s base like.name columns all ≡ and_then (new_rows s (as_read like table) base columns all) (λ src. Ok (Insert at src))
  unfolding insert
  insert_is base columns all = rw (stands.named, stands.listed)

  pub insert_was : (base : ℕ) (columns : List Name) (all : Rows) → insert s' base like.name columns all ≡ and_then (new_rows s' like base columns all) (λ src. Ok (Insert at' src))
  unfolding insert
  insert_was base columns all = rw (stands'.named, stands'.listed)

  pub rows_move : (base : ℕ) (columns : List Name) (all : Rows) (terms : List Term) (width : ℕ) → are_simple_rows all ≡ true → new_rows s' like base columns all ≡ Ok (source.Values terms width) → new_rows s (as_read like table) base columns all ≡ Ok (source.Values terms width)
  unfolding new_rows
  rows_move base columns all terms width h is =
      let it = taken (inserted s' like base columns all) _ _ is in
      (λ i. and_then ((inserted_read s s' like table base columns all h ∙ it.1) i) (source_of s (length like.columns + 1))) ∙ by_values s s' _ it.0 terms width it.2
