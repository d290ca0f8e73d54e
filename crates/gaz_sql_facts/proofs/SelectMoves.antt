-- What a SELECT is over one table, it is over another that reads alike, wherever that stands.
use Rattle.std.proofs.Common.{◌≡◌, ℕ, ◌+◌, negsuc, Bool, true, false, ◌==◌, if◌then◌else◌, List, [], ◌∷◌, length, Option, None, Some, map, option_map, Ok, Err, refl, sym, ap, subst, ◌∙◌}
use Rattle.sqlite_value.specs.declared.keys.Collation.{Collation}
use Rattle.sqlite_value.specs.declared.keys.Key.{Key}
use Rattle.sqlite_value.specs.declared.value.Value.TheVariants.{Int}
use Rattle.sqlite_ast.specs.declared.Core.{Core, out-Core}
use Rattle.sqlite_ast.specs.declared.Expr.{Expr}
use Rattle.sqlite_ast.specs.declared.Select.{Select, out-Select}
use Rattle.sqlite_ast.specs.declared.Sort.{Sort}
use Rattle.sqlite_sql.specs.Query.{Join, inner, end}
use Rattle.sqlite_sql.specs.Term.{Term, lit}
use Rattle.sqlite_schema.specs.declared.command.Command.{Command}
use Rattle.sqlite_schema.specs.declared.command.Command.TheVariants.{Select as Selects}
use Rattle.sqlite_schema.specs.declared.program.Program.{Program}
use Rattle.sqlite_schema.specs.declared.program.Table.{Table as Let}
use Rattle.sqlite_schema.specs.declared.schema.Schema.{Schema}
use Rattle.sqlite_schema.specs.declared.schema.Table.{Table}
use Rattle.sqlite_draft.specs.declared.join.Step.TheVariants.{Inner}
use Rattle.sqlite_draft.specs.declared.query.Draft.{Draft}
use Rattle.sqlite_draft.specs.declared.query.Grouping.{Grouping}
use Rattle.sqlite_draft.specs.Join.{chain}
use Rattle.sqlite_draft.specs.Query.{grouping_of, query_of}
use Rattle.sqlite_resolve.specs.declared.error.CompileError.TheVariants.{Unsupported}
use Rattle.sqlite_resolve.specs.declared.scope.Output.{Output}
use Rattle.sqlite_resolve.specs.declared.state.State.{State}
use Rattle.sqlite_resolve.specs.Compile.{read}
use Rattle.sqlite_resolve.specs.Lowering.{Checked, and_then, fresh, max_budget}
use Rattle.sqlite_resolve.specs.Program.{program, query, Shown as Answered}
use Rattle.sqlite_resolve.specs.Scope.{Name}
use Rattle.sqlite_resolve.specs.Select.{assembled, completed, finished, grouped, regrouped, ungrouped, value_of, named, paging, constant, constant_or, stepless}
use Rattle.sqlite_resolve.specs.Terms.{number}
use Rattle.gaz_sql_facts.specs.Meaning.{asking}
use Rattle.gaz_sql_facts.specs.Simple.{known_in, none_known, is_simple_or_none, is_simple_select}
use Rattle.gaz_sql_facts.specs.Standing.{StandsAt}
use Rattle.gaz_sql_facts.proofs.Looks.{Same, as_read, bound, over, same_over, same_outside}
use Rattle.gaz_sql_facts.proofs.Lower.{lower_same, tests_same}
use Rattle.gaz_sql_facts.proofs.Outputs.{outputs_same, sorts_same}
use Rattle.gaz_sql_facts.proofs.Parts.{IsSimpleSelect, select_is}
use Rattle.gaz_sql_facts.proofs.Queries.{answered, asked, begun, clauses, is_grouped, made, named_is, outs, sorted, tested}
use Rattle.gaz_sql_facts.proofs.Readings.{query_is, query_parts, read_is}
use Rattle.gaz_sql_facts.proofs.Typing.{at_tree, drafted, program_moves, query_at, same_ok, taken, through}

-- a chain that is one table has no step behind it
pub no_step : (m n : ℕ) (more : Join) → inner m more ≡ inner n end → more ≡ end
no_step m n more h = cc

no_group : (g : Grouping) (d e : Draft) → d ≡ e → d.group ≡ Some g → e.group ≡ None → ⊥
no_group g d e same some none = absurd (let both : ◌≡◌ {A = Option Grouping} (Some g) None = sym some ∙ ap (λ (d : Draft). d.group) same ∙ none in cc)

-- what is grouped, is so
grouped_is : (d e : Draft) (g : Grouping) → grouped d g ≡ Ok e → e.group ≡ None → ⊥
unfolding grouped
grouped_is d e g h none = let x = taken (regrouped d g) _ e h in no_group _ _ e (same_ok x.2) refl none

finished_is : (d e : Draft) (by : List Term) (how : List Collation) (kept : List Term) (n : ℕ) (s : State) → finished d by how kept n s ≡ Ok e → e.group ≡ None → ⊥
unfolding finished
finished_is d e by how kept n s h none =
    let r = taken (value_of (completed d by how kept (record s { next = if length by == 0 then n + 1 else s.next }))) _ e h in
    grouped_is r.0.0 e r.0.1 r.2 none

abbrev answer_at : ℕ → Answered → Answered
answer_at tree it = (at_tree tree it.0, it.1, it.2)

module _ (like table : Table) (place : ℕ) (core : Core) (page : Term × Term) (all : List Output) (filter : List Term) (order : List (Term × Key)) (st : State) (it : Answered) (alone : it.0.group ≡ None) (from : it.0.from ≡ inner like.tree end) where
  abbrev after : Table → Bool → Checked Answered
  after t g = answered core page (clauses (made place t all filter) g order, st)

  abbrev draft : Draft
  draft = ungrouped (Inner like.tree ∷ st.steps) filter all (out-Core core).distinct order page.0 page.1

  abbrev whole : Draft → Answered
  whole d = (d, map (λ o. o.name) all, map (λ o. o.carried.collation) all)

  answer_moves : (g : Bool) → after like g ≡ Ok it → after (as_read like table) g ≡ Ok (answer_at table.tree it)
  unfolding assembled ungrouped
  answer_moves false h =
      let same : whole draft ≡ it = same_ok h in
      let none : chain st.steps ≡ end = no_step like.tree like.tree (chain st.steps) (ap (λ (x : Answered). x.0.from) same ∙ from) in
      (λ i. Ok (whole (record draft { from = inner table.tree (none i) }))) ∙ ap {B = Checked Answered} (λ (x : Answered). Ok (answer_at table.tree x)) same
  answer_moves true h =
      let d = taken (finished draft [] [] [] 1 (record st { steps = [] })) _ it h in
      absurd (finished_is draft d.0 [] [] [] 1 (record st { steps = [] }) d.1 (ap (λ (x : Answered). x.0.group) (same_ok d.2) ∙ alone))

module _ (s s' : Schema) (at at' : ℕ) (like table : Table) (stands : StandsAt s at (as_read like table)) (stands' : StandsAt s' at' like) (sel : Select) (simple : IsSimpleSelect like sel) where
  abbrev core : Core
  core = (out-Select sel).first

  abbrev order : List Sort
  order = (out-Select sel).order

  same_at : (all : List Output) (may : Bool) → Same (known_in like) (over s at like.name all may) (over s' at' like.name all may)
  same_at all may = same_over s s' at at' like table stands stands' like.name all may

  module _ (page : Term × Term) where
    across : asked s at (as_read like table) core order page
        ≡ and_then (outs s' at' like core order page) (λ q. and_then (tested s' at' like core order page q) (λ f. and_then (sorted s' at' like core order page q f) (λ o. answered core page (clauses (made at' (as_read like table) q.0 f.0) (is_grouped f.1) o.0, o.1))))
    unfolding assembled
    across =
        λ i. and_then (outputs_same (known_in like) _ _ (same_at [] true) (bound at like.name ∷ []) (bound at' like.name ∷ []) (out-Core core).shown simple.shown [] begun i) (λ q.
        and_then (tests_same (known_in like) _ _ (same_at q.0 false) [] (out-Core core).filter simple.filter q.1 i) (λ f.
        and_then (sorts_same (known_in like) _ _ (same_at q.0 (is_grouped f.1)) q.0 order simple.order [] f.1 i) (λ o. answered core page (clauses (made at' (as_read like table) q.0 f.0) (is_grouped f.1) o.0, o.1))))

    named_moves : (it : Answered) → it.0.group ≡ None → it.0.from ≡ inner like.tree end → named s' core order page ≡ Ok it → named s core order page ≡ Ok (answer_at table.tree it)
    named_moves it alone from h =
        named_is s at (as_read like table) core order page stands simple.src simple.plain
        ∙ across
        ∙ through (outs s' at' like core order page) _ _ it (answer_at table.tree it) (λ q. through (tested s' at' like core order page q) _ _ it (answer_at table.tree it) (λ f. through (sorted s' at' like core order page q f) _ _ it (answer_at table.tree it)
        (λ o. answer_moves like table at' core page q.0 f.0 o.0 o.1 it alone from (is_grouped f.1)))) (sym (named_is s' at' like core order page stands' simple.src simple.plain) ∙ h)

  constant_same : (absent : Term) (e : Option Expr) → is_simple_or_none none_known e ≡ true → constant_or s absent e ≡ constant_or s' absent e
  unfolding constant_or constant stepless
  constant_same absent None h = refl
  constant_same absent (Some e) h = λ i. and_then (lower_same none_known _ _ (same_outside s s') 700 e h (fresh 1 max_budget) i) (λ r. if length r.1.steps == 0 then Ok r.0 else Err Unsupported)

  paging_same : paging s sel ≡ paging s' sel
  unfolding paging
  paging_same = λ i. and_then (constant_same (lit (Int (negsuc 0))) (out-Select sel).limit simple.limit i) (λ limit. and_then (constant_same (number 0) (out-Select sel).offset simple.offset i) (λ offset. Ok (limit, offset)))

pub ungrouped_is : (o : Option Grouping) → option_map grouping_of o ≡ None → o ≡ None
ungrouped_is None h = refl
ungrouped_is (Some g) h = absurd (cc)

same_program : {p q : Program} {m n : List Name} → ◌≡◌ {A = Command} (Selects p m) (Selects q n) → p ≡ q
same_program e = cc

same_names : {p q : Program} {m n : List Name} → ◌≡◌ {A = Command} (Selects p m) (Selects q n) → m ≡ n
same_names e = cc

module _ (s s' : Schema) (at at' : ℕ) (like table : Table) (stands : StandsAt s at (as_read like table)) (stands' : StandsAt s' at' like) (bare : s'.views ≡ []) (sel : Select) (simple : is_simple_select like sel ≡ true) where
  -- the query computes no table before it, and moves
  pub query_alone : (q : Answered × List Let) → query s' sel ≡ Ok q → q.1 ≡ []
  query_alone q h =
      let parts = select_is like sel simple in
      ap (λ (x : Answered × List Let). x.1) (query_parts s' like.name sel parts.src parts.alone parts.plain bare q h).is

  pub query_moves : (q : Answered × List Let) → q.0.0.group ≡ None → q.0.0.from ≡ inner like.tree end → query s' sel ≡ Ok q → query s sel ≡ Ok (answer_at table.tree q.0, [])
  query_moves q alone from h =
      let parts = select_is like sel simple in
      let r = query_parts s' like.name sel parts.src parts.alone parts.plain bare q h in
      let d_alone : r.it.0.group ≡ None = ap (λ (x : Answered × List Let). x.0.0.group) (sym r.is) ∙ alone in
      let d_from : r.it.0.from ≡ inner like.tree end = ap (λ (x : Answered × List Let). x.0.0.from) (sym r.is) ∙ from in
      query_is s like.name sel parts.src parts.alone parts.plain r.page (paging_same s s' at at' like table stands stands' sel parts ∙ r.paged) (answer_at table.tree r.it)
      (named_moves s s' at at' like table stands stands' sel parts r.page r.it d_alone d_from r.named_is)
      ∙ ap {B = Checked (Answered × List Let)} (λ (x : Answered × List Let). Ok (answer_at table.tree x.0, [])) (sym r.is)

  pub read_moves : (p : Program) (names : List Name) → p.body.group ≡ None → p.body.from ≡ inner like.tree end → read s' sel ≡ Ok (Selects p names) → read s sel ≡ Ok (Selects (asking (query_at table.tree p.body)) names)
  unfolding read
  read_moves p names alone from h =
      let parts = select_is like sel simple in
      let q = taken (query s' sel) _ _ h in
      let typed = taken (program s' q.0.1 q.0.0.0) _ _ q.2 in
      let same = same_ok typed.2 in
      let r = query_parts s' like.name sel parts.src parts.alone parts.plain bare q.0 q.1 in
      let good : program s' [] r.it.0 ≡ Ok typed.0 = subst (λ q. program s' q.1 q.0.0 ≡ Ok typed.0) r.is typed.1 in
      let body : asking (query_of r.it.0) ≡ p = drafted s' r.it.0 typed.0 good ∙ same_program same in
      let named : r.it.1 ≡ names = ap (λ q. q.0.1) (sym r.is) ∙ same_names same in
      let d_alone = ungrouped_is r.it.0.group (ap (λ (p : Program). p.body.group) body ∙ alone) in
      let d_from = ap (λ (p : Program). p.body.from) body ∙ from in
      read_is s like.name sel parts.src parts.alone parts.plain r.page (answer_at table.tree r.it) _ (paging_same s s' at at' like table stands stands' sel parts ∙ r.paged)
      (named_moves s s' at at' like table stands stands' sel parts r.page r.it d_alone d_from r.named_is)
      (program_moves s at like table stands s' at' stands' r.it.0 typed.0 d_from good)
      ∙ (λ i. Ok (Selects (asking (query_at table.tree (body i).body)) (named i)))
