-- What an UPDATE or a DELETE is over one table, it is over another that reads alike, wherever that stands.
use Rattle.std.proofs.Common.{◌≡◌, ℕ, true, false, if◌then◌else◌, List, [], ◌∷◌, ◌++◌, Option, None, Some, Ok, Err, refl, sym, ap, subst, ◌∙◌}
use Rattle.std.proofs.lemmas.Bool.{and_parts}
use Rattle.sqlite_ast.specs.declared.Expr.{Expr}
use Rattle.sqlite_sql.specs.Term.{Term, col}
use Rattle.sqlite_sql.specs.Query.{inner, end}
use Rattle.sqlite_schema.specs.declared.schema.Schema.{Schema}
use Rattle.sqlite_schema.specs.declared.schema.Table.{Table}
use Rattle.sqlite_draft.specs.declared.join.Step.TheVariants.{Inner}
use Rattle.sqlite_draft.specs.declared.query.Draft.{Draft}
use Rattle.sqlite_draft.specs.Join.{chain}
use Rattle.sqlite_resolve.specs.declared.error.CompileError.TheVariants.{Unsupported}
use Rattle.sqlite_resolve.specs.declared.state.Carried.{Carried}
use Rattle.sqlite_resolve.specs.declared.state.State.{State}
use Rattle.sqlite_resolve.specs.Lowering.{Checked, and_then, fail, pure, fresh, max_budget}
use Rattle.sqlite_resolve.specs.Body.{tests}
use Rattle.sqlite_resolve.specs.Expr.{lower}
use Rattle.sqlite_resolve.specs.Reach.{any_scans}
use Rattle.sqlite_resolve.specs.Scope.{Name, Context, column}
use Rattle.sqlite_resolve.specs.Select.{value_of}
use Rattle.sqlite_resolve.specs.Write.{with_place, place, row, simple, sets_from, sets, assigned, picked, updated_in, updated, deleted}
use Rattle.gaz_sql_facts.specs.Simple.{known_in, is_simple_or_none, are_simple_sets}
use Rattle.gaz_sql_facts.specs.Standing.{StandsAt}
use Rattle.gaz_sql_facts.proofs.InsertMoves.{row_same}
use Rattle.gaz_sql_facts.proofs.Looks.{Same, as_read, column_of, column_is, over, same_over, term_at}
use Rattle.gaz_sql_facts.proofs.Lower.{lower_same, tests_same}
use Rattle.gaz_sql_facts.proofs.SelectMoves.{no_step}
use Rattle.gaz_sql_facts.proofs.Steady.{IsSteady, sets_steady}
use Rattle.gaz_sql_facts.proofs.Typing.{at_tree, same_ok, through}

by_column : (st : State) (r : Checked (Term × Carried)) → IsSteady {A = Term} st (and_then {A = (Term × Carried) × State} (and_then r (λ a. Ok (a, st))) (λ x. Ok (x.0.0, record x.1 { last = x.0.1 })))
by_column st (Ok found) = refl
by_column st (Err e) = tt

term_steady : (t : Table) (o : Option ℕ) (st : State) → IsSteady st (term_at t o st)
term_steady t (Some k) st = by_column st (column_of t k)
term_steady t None st = refl

abbrev Placed : Type 0
Placed = List ℕ × List Term

module _ (s s' : Schema) (at at' : ℕ) (like table : Table) (stands : StandsAt s at (as_read like table)) (stands' : StandsAt s' at' like) where
  abbrev c : Context
  c = over s at like.name [] false

  abbrev d : Context
  d = over s' at' like.name [] false

  same : Same (known_in like) c d
  same = same_over s s' at at' like table stands stands' like.name [] false

  looked : (n : Name) → known_in like n ≡ true → (st : State) → IsSteady st (column d None n st)
  looked n h st = subst (λ (r : Checked (Term × State)). IsSteady st r) (sym (column_is s' at' like stands' like.name [] false n h st)) (term_steady like _ st)

  -- ---- SET

  sets_same : (all : List (Name × Expr)) → are_simple_sets (known_in like) all ≡ true → (done : Placed) (st : State) → sets_from c (as_read like table) done all st ≡ sets_from d like done all st
  unfolding with_place place
  sets_same [] h done st = refl
  sets_same (x ∷ more) h done st =
      let p = and_parts _ _ h in
      λ i. and_then (with_place like done.0 x.0) (λ at. and_then (lower_same (known_in like) c d same 700 x.1 p.0 st i) (λ r. sets_same more p.1 (at, done.1 ++ r.0 ∷ []) r.1 i))

  -- where no step was taken, none scans a table
  abbrev unless_scanned : ℕ → Placed × State → Checked (Placed × State)
  unless_scanned tree r = (if any_scans tree r.1.steps then fail Unsupported else pure r.0) r.1

  by_steps : (st : State) (r : Checked (Placed × State)) → st.steps ≡ [] → IsSteady st r → and_then r (unless_scanned table.tree) ≡ and_then r (unless_scanned like.tree)
  unfolding any_scans
  by_steps st (Ok r) none h = rw (h ∙ none)
  by_steps st (Err e) none h = refl

  assigned_same : (all : List (Name × Expr)) → are_simple_sets (known_in like) all ≡ true → (st : State) → st.steps ≡ [] → assigned c (as_read like table) all st ≡ assigned d like all st
  unfolding assigned sets
  assigned_same all h st none =
      (λ i. and_then (sets_same all h ([], []) st i) (unless_scanned table.tree))
      ∙ by_steps st (sets_from d like ([], []) all st) none (sets_steady (known_in like) d looked like all h ([], []) st)

  -- ---- WHERE

  module _ (project : List Term) where
    abbrev drawn : ℕ → List Term × State → Checked Draft
    drawn tree r = Ok (simple (Inner tree ∷ r.1.steps) r.0 project)

    by_tests : (r : Checked (List Term × State)) (it : Draft) → it.from ≡ inner like.tree end → and_then r (drawn like.tree) ≡ Ok it → and_then r (drawn table.tree) ≡ Ok (at_tree table.tree it)
    by_tests (Ok r) it from h =
        let same : simple (Inner like.tree ∷ r.1.steps) r.0 project ≡ it = same_ok h in
        let none : chain r.1.steps ≡ end = no_step like.tree like.tree (chain r.1.steps) (ap (λ (d : Draft). d.from) same ∙ from) in
        (λ i. Ok (record (simple [] r.0 project) { from = inner table.tree (none i) })) ∙ ap {B = Checked Draft} (λ (d : Draft). Ok (at_tree table.tree d)) same
    by_tests (Err e) it from h = absurd (cc)

    by_value : (tree : ℕ) (r : Checked (List Term × State)) → value_of (and_then {B = Draft × State} r (λ x. Ok (simple (Inner tree ∷ x.1.steps) x.0 project, record x.1 { steps = [] }))) ≡ and_then r (drawn tree)
    by_value tree (Ok x) = refl
    by_value tree (Err e) = refl

    pub picked_moves : (test : Option Expr) → is_simple_or_none (known_in like) test ≡ true → (st : State) (it : Draft) → it.from ≡ inner like.tree end
        → value_of (picked d like project test st) ≡ Ok it → value_of (picked c (as_read like table) project test st) ≡ Ok (at_tree table.tree it)
    unfolding picked
    picked_moves test h st it from is =
        by_value table.tree (tests lower c [] test st)
        ∙ (λ i. and_then (tests_same (known_in like) c d same [] test h st i) (drawn table.tree))
        ∙ by_tests (tests lower d [] test st) it from (sym (by_value like.tree (tests lower d [] test st)) ∙ is)

  pub deleted_moves : (test : Option Expr) → is_simple_or_none (known_in like) test ≡ true → (it : Draft) → it.from ≡ inner like.tree end
      → deleted s' at' like test ≡ Ok it → deleted s at (as_read like table) test ≡ Ok (at_tree table.tree it)
  unfolding deleted
  deleted_moves test h it from is = picked_moves (col 1 0 ∷ []) test h (fresh 2 max_budget) it from is

  -- ---- UPDATE

  abbrev laid : Table → (Placed × State) → Checked (List Term)
  laid t r = row t None r.0.0 (col 1 0 ∷ []) r.0.1

  pub updated_moves : (all : List (Name × Expr)) (test : Option Expr) → are_simple_sets (known_in like) all ≡ true → is_simple_or_none (known_in like) test ≡ true → (it : Draft) → it.from ≡ inner like.tree end
      → updated s' at' like all test ≡ Ok it → updated s at (as_read like table) all test ≡ Ok (at_tree table.tree it)
  unfolding updated updated_in
  updated_moves all test h k it from is =
      (λ i. and_then (assigned_same all h (fresh 2 max_budget) refl i) (λ r. and_then (row_same like table None r.0.0 (col 1 0 ∷ []) r.0.1 i) (λ project. value_of (picked c (as_read like table) project test r.1))))
      ∙ through (assigned d like all (fresh 2 max_budget)) _ _ it (at_tree table.tree it) (λ r. through (laid like r) _ _ it (at_tree table.tree it) (λ project. picked_moves project test k r.1 it from)) is
