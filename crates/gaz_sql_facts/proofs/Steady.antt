-- A simple expression is read without a step behind FROM.
use Rattle.std.proofs.Common.{◌≡◌, ℕ, zero, suc, Bool, true, false, nat_lt, ◌-◌, if◌then◌else◌, List, [], ◌∷◌, ◌++◌, None, Ok, Err, refl, ◌∙◌}
use Rattle.std.proofs.lemmas.Bool.{and_parts}
use Rattle.sqlite_value.specs.declared.keys.Collation.{Collation}
use Rattle.sqlite_ast.specs.declared.Binary.{Binary}
use Rattle.sqlite_ast.specs.declared.Binary.TheVariants as binary
use Rattle.sqlite_ast.specs.declared.Expr.{Expr, out-Expr}
use Rattle.sqlite_ast.specs.declared.Expr.TheOpen.{Expr-F}
use Rattle.sqlite_ast.specs.Layer.{Layer}
use Rattle.sqlite_sql.specs.Term.{Term, lit}
use Rattle.sqlite_value.specs.declared.value.Value.{Value}
use Rattle.sqlite_schema.specs.declared.schema.Table.{Table}
use Rattle.sqlite_resolve.specs.declared.error.CompileError.TheVariants.{TooBig}
use Rattle.sqlite_resolve.specs.declared.state.State.{State}
use Rattle.sqlite_resolve.specs.Expr.{combine, wanted_truth, tests_truth, tests_alias, both, operation, node_at, opened, node, lower_to, lower}
use Rattle.sqlite_resolve.specs.Literal.{integer}
use Rattle.sqlite_resolve.specs.Lowering.{Checked, and_then, Lowering, spend, begin, finish, chosen}
use Rattle.sqlite_resolve.specs.Scope.{Name, Context, column}
use Rattle.sqlite_resolve.specs.Write.{with_place, sets_from}
use Rattle.gaz_sql_facts.specs.Simple.{is_plain_operator, is_simple_layer, is_simple_to, are_simple_sets}

-- the state behind has the steps of the one before
abbrev pub IsSteady : {A : Type 0} → State → Checked (A × State) → Type 0
IsSteady st (Ok r) = r.1.steps ≡ st.steps
IsSteady st (Err e) = Unit {0}

steady_from : {A : Type 0} (st mid : State) (r : Checked (A × State)) → mid.steps ≡ st.steps → IsSteady mid r → IsSteady st r
steady_from st mid (Ok r) same h = h ∙ same
steady_from st mid (Err e) same h = tt

pub steady_then : {A B : Type 0} (st : State) (r : Checked (A × State)) (f : A × State → Checked (B × State)) → IsSteady st r → ((x : A × State) → IsSteady x.1 (f x)) → IsSteady st (and_then r f)
steady_then st (Ok x) f h each = steady_from st x.1 (f x) h (each x)
steady_then st (Err e) f h each = tt

by_budget : (st mid : State) (b : Bool) → mid.steps ≡ st.steps → IsSteady {A = Unit {0}} st (if b then Ok (tt, mid) else Err TooBig)
by_budget st mid true same = same
by_budget st mid false same = tt

spent : (st : State) (n : ℕ) → IsSteady st (spend n st)
unfolding spend
spent st n = by_budget st (record st { budget = st.budget - n }) (nat_lt n st.budget) refl

module _ (known : Name → Bool) (c : Context) (looked : (n : Name) → known n ≡ true → (st : State) → IsSteady st (column c None n st)) where
  combined : (op : Binary) (how : Collation) (a b : Term) (st : State) → is_plain_operator op ≡ true → IsSteady st (combine c op how a b st)
  unfolding combine
  combined binary.And how a b st h = refl
  combined binary.Or how a b st h = refl
  combined binary.Eq how a b st h = refl
  combined binary.Ne how a b st h = refl
  combined binary.Lt how a b st h = refl
  combined binary.Le how a b st h = refl
  combined binary.Gt how a b st h = refl
  combined binary.Ge how a b st h = refl
  combined op how a b st h = absurd (cc)

  written : (st : State) (v : Checked Value) → IsSteady st (and_then {A = Value × State} (and_then v (λ a. Ok (a, st))) (λ x. Ok (lit x.0, x.1)))
  written st (Ok v) = refl
  written st (Err e) = tt

  module _ (below : Context → Expr → Lowering Term) (r : Expr → Bool) (kept : (e : Expr) → r e ≡ true → (st : State) → IsSteady st (below c e st)) where
    paired : (op : Binary) (a b : Expr) (st : State) → is_plain_operator op ≡ true → r a ≡ true → r b ≡ true
        → IsSteady st (and_then (below c a st) (λ x. and_then (below c b x.1) (λ y. combine c op (chosen x.1.last y.1.last) x.0 y.0 y.1)))
    paired op a b st h ha hb = steady_then st (below c a st) _ (kept a ha st) (λ x. steady_then x.1 (below c b x.1) _ (kept b hb x.1) (λ y. combined op (chosen x.1.last y.1.last) x.0 y.0 y.1 h))

    pair : (op : Binary) (a b : Expr) (st : State) → is_plain_operator op ≡ true → r a ≡ true → r b ≡ true → IsSteady st (operation below c op a b st)
    unfolding operation both wanted_truth tests_truth tests_alias
    pair binary.And a b st h ha hb = paired binary.And a b st h ha hb
    pair binary.Or a b st h ha hb = paired binary.Or a b st h ha hb
    pair binary.Eq a b st h ha hb = paired binary.Eq a b st h ha hb
    pair binary.Ne a b st h ha hb = paired binary.Ne a b st h ha hb
    pair binary.Lt a b st h ha hb = paired binary.Lt a b st h ha hb
    pair binary.Le a b st h ha hb = paired binary.Le a b st h ha hb
    pair binary.Gt a b st h ha hb = paired binary.Gt a b st h ha hb
    pair binary.Ge a b st h ha hb = paired binary.Ge a b st h ha hb
    pair op a b st h ha hb = absurd (cc)

    layer : (l : Layer) → is_simple_layer known r l ≡ true → (st : State) → IsSteady st (node_at below c l st)
    layer (Expr-F.Integer text) h st = written st (integer false text)
    layer (Expr-F.Parameter n) h st = refl
    layer (Expr-F.Column None name) h st = looked name h st
    layer (Expr-F.Binary op a b) h st = let p = and_parts _ _ h in let q = and_parts _ _ p.1 in pair op a b st p.0 q.0 q.1
    layer l h st = absurd (cc)

    node_steady : (e : Expr) → is_simple_layer known r (out-Expr e) ≡ true → (st : State) → IsSteady st (node below c e st)
    unfolding node opened begin finish
    node_steady e h st = steady_then st (spend 1 st) _ (spent st 1) (λ x. steady_then x.1 (node_at below c (out-Expr e) (record x.1 { written = None; last = record { collation = None; is_written = false } })) _ (layer (out-Expr e) h _) (λ y. refl))

  lowered : (n : ℕ) (e : Expr) → is_simple_to known n e ≡ true → (st : State) → IsSteady st (lower_to n c e st)
  unfolding lower_to
  lowered zero e h st = tt
  lowered (suc n) e h st = node_steady (lower_to n) (is_simple_to known n) (lowered n) e h st

  placed : (r : Checked (List ℕ)) (st : State) (f : List ℕ → Checked ((List ℕ × List Term) × State)) → ((at : List ℕ) → IsSteady st (f at)) → IsSteady st (and_then r f)
  placed (Ok at) st f each = each at
  placed (Err e) st f each = tt

  pub sets_steady : (table : Table) (all : List (Name × Expr)) → are_simple_sets known all ≡ true → (done : List ℕ × List Term) (st : State) → IsSteady st (sets_from c table done all st)
  sets_steady table [] h done st = refl
  sets_steady table (x ∷ more) h done st =
      let p = and_parts _ _ h in
      placed (with_place table done.0 x.0) st _ (λ at. steady_then st (lower c x.1 st) _ (lowered 700 x.1 p.0 st) (λ r. sets_steady table more p.1 (at, done.1 ++ r.0 ∷ []) r.1))
