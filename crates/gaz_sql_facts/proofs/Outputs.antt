-- Columns of a result and terms of ORDER BY, where they are simple, mean the same in contexts that say the same of their names.
use Rattle.std.proofs.Common.{◌≡◌, ℕ, Bool, true, if◌then◌else◌, List, [], ◌∷◌, ◌++◌, Option, None, Some, is_some, unwrap_or, refl}
use Rattle.std.proofs.lemmas.Bool.{and_parts}
use Rattle.sqlite_value.specs.declared.keys.Key.{Key}
use Rattle.sqlite_ast.specs.declared.Expr.{Expr}
use Rattle.sqlite_ast.specs.declared.Expr.TheOpen.{Shown-F}
use Rattle.sqlite_ast.specs.declared.Shown.{Shown, out-Shown}
use Rattle.sqlite_ast.specs.declared.Sort.{Sort, out-Sort}
use Rattle.sqlite_ast.specs.Layer.{ShownLayer}
use Rattle.sqlite_sql.specs.Term.{Term, reads_below}
use Rattle.sqlite_resolve.specs.declared.error.CompileError.TheVariants.{Unsupported}
use Rattle.sqlite_resolve.specs.declared.scope.Bound.{Bound}
use Rattle.sqlite_resolve.specs.declared.scope.Output.{Output}
use Rattle.sqlite_resolve.specs.declared.state.State.{State}
use Rattle.sqlite_resolve.specs.Body.{is_column, shown_at, shown, outputs_from}
use Rattle.sqlite_resolve.specs.Expr.{lower}
use Rattle.sqlite_resolve.specs.Lowering.{and_then, ◌>>=◌, pure, fail, lift, last}
use Rattle.sqlite_resolve.specs.Order.{is_numeral, place_in, alias_in, peeled, collation_of, placed, key, aliased_or, sort, sorts_from}
use Rattle.sqlite_resolve.specs.Scope.{Name, Context, shown_again}
use Rattle.gaz_sql_facts.specs.Simple.{is_simple, is_simple_shown, are_simple_shown, are_simple_sorts}
use Rattle.gaz_sql_facts.proofs.Looks.{Same}
use Rattle.gaz_sql_facts.proofs.Lower.{lower_same, heading_same}

module _ (known : Name → Bool) (c d : Context) (same : Same known c d) where
  layer_same : (ts us : List Bound) (done : List Output) (x : ShownLayer) → is_simple_shown known x ≡ true → (st : State) → shown_at lower c ts done x st ≡ shown_at lower d us done x st
  layer_same ts us done (Shown-F.One e alias text) h st =
      λ i. ((λ s. lower_same known c d same 700 e h s i) >>= (λ t. last >>= (λ q. pure (done ++ record { name = unwrap_or alias (heading_same known c d same e text h i); is_alias = is_some alias; is_column = is_column e; term = t; carried = q } ∷ [])))) st
  layer_same ts us done x h st = absurd (cc)

  pub outputs_same : (ts us : List Bound) (all : List Shown) → are_simple_shown known all ≡ true → (done : List Output) (st : State) → outputs_from lower c ts done all st ≡ outputs_from lower d us done all st
  unfolding shown
  outputs_same ts us [] h done st = refl
  outputs_same ts us (x ∷ more) h done st =
      let p = and_parts _ _ h in
      λ i. and_then (layer_same ts us done (out-Shown x) p.0 st i) (λ r. outputs_same ts us more p.1 r.0 r.1 i)

  aliased_same : (all : List Output) (e : Expr) (o : Option ℕ) → is_simple known e ≡ true → (st : State) → aliased_or lower c all e o st ≡ aliased_or lower d all e o st
  unfolding key
  aliased_same all e (Some at) h st = refl
  aliased_same all e None h st =
      λ i. ((λ s. lower_same known c d same 700 e h s i) >>= (λ t. if is_numeral e then lift (place_in t) >>= shown_again (same.grouping i) all else (if reads_below 1 t then fail Unsupported else pure t))) st

  pub sorts_same : (all : List Output) (order : List Sort) → are_simple_sorts known order ≡ true → (done : List (Term × Key)) (st : State) → sorts_from lower c all done order st ≡ sorts_from lower d all done order st
  unfolding sort
  sorts_same all [] h done st = refl
  sorts_same all (x ∷ more) h done st =
      let p = and_parts _ _ h in
      let k = (out-Sort x).key in
      λ i. ((λ s. aliased_same all (peeled k) (alias_in all (peeled k)) p.0 s i) >>= (λ t. collation_of k >>= (λ how. placed done (record { collation = how; descending = (out-Sort x).descending }) (out-Sort x).nulls_first t))
      >>= (λ longer. λ s. sorts_same all more p.1 longer s i)) st
