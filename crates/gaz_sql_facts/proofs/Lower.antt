-- A simple expression means the same in contexts that say the same of its names, and takes no step.
use Rattle.std.proofs.Common.{◌≡◌, ℕ, zero, suc, Bool, true, List, [], ◌∷◌, ◌++◌, Option, None, Some, Ok, refl}
use Rattle.std.proofs.lemmas.Bool.{and_parts}
use Rattle.sqlite_value.specs.declared.keys.Collation.{Collation}
use Rattle.sqlite_ast.specs.declared.Binary.{Binary}
use Rattle.sqlite_ast.specs.declared.Binary.TheVariants as binary
use Rattle.sqlite_ast.specs.declared.Expr.{Expr, out-Expr}
use Rattle.sqlite_ast.specs.declared.Expr.TheOpen.{Expr-F}
use Rattle.sqlite_ast.specs.Layer.{Layer}
use Rattle.sqlite_sql.specs.declared.ops.BinaryOp.{BinaryOp}
use Rattle.sqlite_sql.specs.declared.ops.BinaryOp.TheVariants as by
use Rattle.sqlite_sql.specs.declared.ops.CompareOp.TheVariants as compare
use Rattle.sqlite_sql.specs.Term.{Term, lit, col, op1, op2, case}
use Rattle.sqlite_resolve.specs.declared.state.State.{State}
use Rattle.sqlite_resolve.specs.Lowering.{Lowering, and_then, ◌>>=◌, ◌>>◌, pure, spend, begin, finish, chosen}
use Rattle.sqlite_resolve.specs.Scope.{Name, Context}
use Rattle.sqlite_resolve.specs.Terms.{conjuncts}
use Rattle.sqlite_resolve.specs.Compare.{affinity_of, converted, compared}
use Rattle.sqlite_resolve.specs.Body.{all_from, tests, heading, heading_at}
use Rattle.sqlite_resolve.specs.Expr.{combine, wanted_truth, tests_truth, tests_alias, passes, both, operation, node_at, opened, node, lower_to, lower}
use Rattle.gaz_sql_facts.specs.Simple.{is_plain_operator, is_simple_layer, is_simple_to, is_simple, is_simple_or_none}
use Rattle.gaz_sql_facts.proofs.Looks.{Same}
use Rattle.std.specs.List.{list_all}

module _ (known : Name → Bool) (c d : Context) (same : Same known c d) where
  affinity_same : (t : Term) → affinity_of c t ≡ affinity_of d t
  unfolding affinity_of
  affinity_same (lit v) = refl
  affinity_same (col slot at) = same.places slot at
  affinity_same (op1 op a) = refl
  affinity_same (op2 op a b) = refl
  affinity_same (case t a b) = refl

  compared_same : (op : BinaryOp) (a b : Term) → compared c op a b ≡ compared d op a b
  unfolding compared
  compared_same op a b = λ i. op2 op (converted (affinity_same a i) (affinity_same b i) a) (converted (affinity_same b i) (affinity_same a i) b)

  combined_same : (op : Binary) (how : Collation) (a b : Term) (st : State) → is_plain_operator op ≡ true → combine c op how a b st ≡ combine d op how a b st
  unfolding combine
  combined_same binary.And how a b st h = refl
  combined_same binary.Or how a b st h = refl
  combined_same binary.Eq how a b st h = λ i. Ok (compared_same (by.Compare compare.Eq how) a b i, st)
  combined_same binary.Ne how a b st h = λ i. Ok (compared_same (by.Compare compare.Ne how) a b i, st)
  combined_same binary.Lt how a b st h = λ i. Ok (compared_same (by.Compare compare.Lt how) a b i, st)
  combined_same binary.Le how a b st h = λ i. Ok (compared_same (by.Compare compare.Le how) a b i, st)
  combined_same binary.Gt how a b st h = λ i. Ok (compared_same (by.Compare compare.Gt how) a b i, st)
  combined_same binary.Ge how a b st h = λ i. Ok (compared_same (by.Compare compare.Ge how) a b i, st)
  combined_same op how a b st h = absurd (cc)

  module _ (below : Context → Expr → Lowering Term) (r : Expr → Bool) (kept : (e : Expr) → r e ≡ true → (st : State) → below c e st ≡ below d e st) where
    abbrev paired : Context → Binary → Expr → Expr → Lowering Term
    paired k op a b = λ s. and_then (below k a s) (λ x. and_then (below k b x.1) (λ y. combine k op (chosen x.1.last y.1.last) x.0 y.0 y.1))

    paired_same : (op : Binary) (a b : Expr) (st : State) → is_plain_operator op ≡ true → r a ≡ true → r b ≡ true → paired c op a b st ≡ paired d op a b st
    paired_same op a b st h ha hb = λ i. and_then (kept a ha st i) (λ x. and_then (kept b hb x.1 i) (λ y. combined_same op (chosen x.1.last y.1.last) x.0 y.0 y.1 h i))

    pair_same : (op : Binary) (a b : Expr) (st : State) → is_plain_operator op ≡ true → r a ≡ true → r b ≡ true → operation below c op a b st ≡ operation below d op a b st
    unfolding operation both wanted_truth tests_truth tests_alias
    pair_same binary.And a b st h ha hb = paired_same binary.And a b st h ha hb
    pair_same binary.Or a b st h ha hb = paired_same binary.Or a b st h ha hb
    pair_same binary.Eq a b st h ha hb = paired_same binary.Eq a b st h ha hb
    pair_same binary.Ne a b st h ha hb = paired_same binary.Ne a b st h ha hb
    pair_same binary.Lt a b st h ha hb = paired_same binary.Lt a b st h ha hb
    pair_same binary.Le a b st h ha hb = paired_same binary.Le a b st h ha hb
    pair_same binary.Gt a b st h ha hb = paired_same binary.Gt a b st h ha hb
    pair_same binary.Ge a b st h ha hb = paired_same binary.Ge a b st h ha hb
    pair_same op a b st h ha hb = absurd (cc)

    layer_same : (l : Layer) → is_simple_layer known r l ≡ true → (st : State) → node_at below c l st ≡ node_at below d l st
    layer_same (Expr-F.Integer text) h st = refl
    layer_same (Expr-F.Parameter n) h st = refl
    layer_same (Expr-F.Column None name) h st = same.columns name h st
    layer_same (Expr-F.Binary op a b) h st = let p = and_parts _ _ h in let q = and_parts _ _ p.1 in pair_same op a b st p.0 q.0 q.1
    layer_same l h st = absurd (cc)

    node_same : (e : Expr) → is_simple_layer known r (out-Expr e) ≡ true → (st : State) → node below c e st ≡ node below d e st
    unfolding node opened
    node_same e h st = λ i. (spend 1 >> (begin >>= (λ outer. (λ s. layer_same (out-Expr e) h s i) >>= (λ t. finish outer (passes e) >> pure t)))) st

  pub lower_same : (n : ℕ) (e : Expr) → is_simple_to known n e ≡ true → (st : State) → lower_to n c e st ≡ lower_to n d e st
  unfolding lower_to
  lower_same zero e h st = refl
  lower_same (suc n) e h st = node_same (lower_to n) (is_simple_to known n) (lower_same n) e h st

  pub tests_same : (done : List Term) (test : Option Expr) → is_simple_or_none known test ≡ true → (st : State) → tests lower c done test st ≡ tests lower d done test st
  unfolding tests
  tests_same done None h st = refl
  tests_same done (Some e) h st = λ i. and_then (lower_same 700 e h st i) (λ x. Ok (done ++ conjuncts x.0, x.1))

  pub all_same : (done : List Term) (es : List Expr) → list_all (is_simple known) es ≡ true → (st : State) → all_from lower c done es st ≡ all_from lower d done es st
  all_same done [] h st = refl
  all_same done (e ∷ es) h st = let p = and_parts _ _ h in λ i. and_then (lower_same 700 e p.0 st i) (λ x. all_same (done ++ x.0 ∷ []) es p.1 x.1 i)

  heading_at_same : (text : Name) (n : ℕ) (l : Layer) → is_simple_layer known (is_simple_to known n) l ≡ true → heading_at c text l ≡ heading_at d text l
  heading_at_same text n (Expr-F.Integer t) h = refl
  heading_at_same text n (Expr-F.Parameter k) h = refl
  heading_at_same text n (Expr-F.Column None name) h = same.headings name text h
  heading_at_same text n (Expr-F.Binary op a b) h = refl
  heading_at_same text n l h = absurd (cc)

  pub heading_same : (e : Expr) (text : Name) → is_simple known e ≡ true → heading c e text ≡ heading d e text
  unfolding heading
  heading_same e text h = heading_at_same text 699 (out-Expr e) h
