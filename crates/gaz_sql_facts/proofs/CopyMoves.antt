-- What an INSERT of rows of one table into another is where these stand alone, it is wherever both stand.
use Rattle.std.proofs.Common.{◌≡◌, ℕ, ◌+◌, true, List, [], length, None, Some, Ok, sym, ap, subst, ◌∙◌}
use Rattle.sqlite_value.specs.declared.keys.Collation.{Collation}
use Rattle.sqlite_ast.specs.declared.Rows.TheVariants as rows
use Rattle.sqlite_ast.specs.declared.Select.{Select}
use Rattle.sqlite_sql.specs.Query.{inner, end}
use Rattle.sqlite_sql.specs.Term.{Term}
use Rattle.sqlite_schema.specs.declared.command.Command.{Command}
use Rattle.sqlite_schema.specs.declared.command.Command.TheVariants.{Insert}
use Rattle.sqlite_schema.specs.declared.command.Source.{Source}
use Rattle.sqlite_schema.specs.declared.command.Source.TheVariants as source
use Rattle.sqlite_schema.specs.declared.program.Program.{Program}
use Rattle.sqlite_schema.specs.declared.program.Table.{Table as Let}
use Rattle.sqlite_schema.specs.declared.schema.Schema.{Schema}
use Rattle.sqlite_schema.specs.declared.schema.Table.{Table}
use Rattle.sqlite_draft.specs.declared.query.Draft.{Draft}
use Rattle.sqlite_draft.specs.Query.{query_of}
use Rattle.sqlite_resolve.specs.declared.write.NewRows.{NewRows}
use Rattle.sqlite_resolve.specs.declared.write.NewRows.TheVariants as new
use Rattle.sqlite_resolve.specs.Compile.{insert, new_rows, queried, source_of}
use Rattle.sqlite_resolve.specs.Lowering.{Checked, and_then}
use Rattle.sqlite_resolve.specs.Program.{program, query, Shown as Answered}
use Rattle.sqlite_resolve.specs.Scope.{Name}
use Rattle.sqlite_resolve.specs.Write.{as_row, inserted, moved, places, selected}
use Rattle.gaz_sql_facts.specs.Meaning.{asking}
use Rattle.gaz_sql_facts.specs.Simple.{is_simple_select}
use Rattle.gaz_sql_facts.specs.Standing.{StandsAt}
use Rattle.gaz_sql_facts.proofs.InsertMoves.{insert_is, insert_was, places_same, row_same}
use Rattle.gaz_sql_facts.proofs.Looks.{as_read}
use Rattle.gaz_sql_facts.proofs.SelectMoves.{query_alone, query_moves, ungrouped_is}
use Rattle.gaz_sql_facts.proofs.Typing.{at_tree, drafted, program_moves, query_at, same_ok, taken}

-- the draft with a row's terms
abbrev laid_as : Draft → List Term × List Collation → Draft
laid_as d r = record d { project = r.0; collations = r.1 }

same_query : {p q : Program} → ◌≡◌ {A = Source} (source.Query p) (source.Query q) → p ≡ q
same_query e = cc

same_source : {k : ℕ} {p q : Source} → ◌≡◌ {A = Command} (Insert k p) (Insert k q) → p ≡ q
same_source e = cc

-- a row is laid out alike, whichever table it comes from
module _ (target into : Table) (base : ℕ) (to : List ℕ) where
  as_row_same : (tree : ℕ) (d : Draft) → as_row (as_read target into) base to (at_tree tree d) ≡ as_row target base to d
  unfolding as_row
  as_row_same tree d = λ i. and_then (row_same target into (Some base) to [] d.project i) (λ project. Ok (project, moved to d.collations (length project)))

module _ (s s' : Schema) (place place' at at' : ℕ) (from_like from target into : Table) (reads : StandsAt s place (as_read from_like from)) (reads' : StandsAt s' place' from_like)
    (writes : StandsAt s at (as_read target into)) (writes' : StandsAt s' at' target) (bare : s'.views ≡ []) (sel : Select) (simple : is_simple_select from_like sel ≡ true) where
  abbrev u : Table
  u = as_read target into

  abbrev laid : Table → ℕ → List ℕ → Answered × List Let → Checked NewRows
  laid t base to q = and_then (as_row t base to q.0.0) (λ r. Ok (new.Query q.1 (laid_as q.0.0 r)))

  -- ---- what is selected, once it is known which query it was

  module _ (base : ℕ) (to : List ℕ) (q : Answered × List Let) (r : List Term × List Collation) (asked : query s' sel ≡ Ok q) (row_is : as_row target base to q.0.0 ≡ Ok r) (p : Program) (typed : program s' q.1 (laid_as q.0.0 r) ≡ Ok p)
      (alone : p.body.group ≡ None) (over : p.body.from ≡ inner from_like.tree end) where
    good : program s' [] (laid_as q.0.0 r) ≡ Ok p
    good = subst (λ lets. program s' lets (laid_as q.0.0 r) ≡ Ok p) (query_alone s s' place place' from_like from reads reads' bare sel simple q asked) typed

    body : asking (query_of (laid_as q.0.0 r)) ≡ p
    body = drafted s' (laid_as q.0.0 r) p good

    d_alone : q.0.0.group ≡ None
    d_alone = ungrouped_is q.0.0.group (ap (λ (p : Program). p.body.group) body ∙ alone)

    d_from : q.0.0.from ≡ inner from_like.tree end
    d_from = ap (λ (p : Program). p.body.from) body ∙ over

    selected_moves : selected s u base to sel ≡ Ok (new.Query [] (at_tree from.tree (laid_as q.0.0 r)))
    unfolding selected
    selected_moves =
        (λ i. and_then (query_moves s s' place place' from_like from reads reads' bare sel simple q d_alone d_from asked i) (laid u base to))
        ∙ (λ i. and_then (as_row_same target into base to from.tree q.0.0 i) (λ r. Ok (new.Query [] (laid_as (at_tree from.tree q.0.0) r))))
        ∙ (λ i. and_then (row_is i) (λ r. Ok (new.Query [] (laid_as (at_tree from.tree q.0.0) r))))

    source_moves : (width : ℕ) → source_of s width (new.Query [] (at_tree from.tree (laid_as q.0.0 r))) ≡ Ok (source.Query (asking (query_at from.tree p.body)))
    unfolding source_of queried
    source_moves width =
        (λ i. and_then (program_moves s place from_like from reads s' place' reads' (laid_as q.0.0 r) p d_from good i) (λ p. Ok (source.Query p)))
        ∙ (λ i. Ok (source.Query (asking (query_at from.tree (body i).body))))

  -- ---- the rows that are inserted, and the INSERT

  copied_rows : (base : ℕ) (columns : List Name) (p : Program) → p.body.group ≡ None → p.body.from ≡ inner from_like.tree end → new_rows s' target base columns (rows.Select sel) ≡ Ok (source.Query p)
      → new_rows s u base columns (rows.Select sel) ≡ Ok (source.Query (asking (query_at from.tree p.body)))
  unfolding new_rows inserted selected source_of queried
  copied_rows base columns p alone over h =
      let width = length target.columns + 1 in
      let it = taken (inserted s' target base columns (rows.Select sel)) (source_of s' width) _ h in
      let to = taken (places target columns) (λ to. selected s' target base to sel) it.0 it.1 in
      let q = taken (query s' sel) (laid target base to.0) it.0 to.2 in
      let r = taken (as_row target base to.0 q.0.0.0) (λ r. Ok (new.Query q.0.1 (laid_as q.0.0.0 r))) it.0 q.2 in
      let made : new.Query q.0.1 (laid_as q.0.0.0 r.0) ≡ it.0 = same_ok r.2 in
      let typed = taken (program s' q.0.1 (laid_as q.0.0.0 r.0)) (λ p. Ok (source.Query p)) _ (subst (λ (n : NewRows). source_of s' width n ≡ Ok (source.Query p)) (sym made) it.2) in
      let good = subst (λ (p : Program). program s' q.0.1 (laid_as q.0.0.0 r.0) ≡ Ok p) (same_query (same_ok typed.2)) typed.1 in
      (λ i. and_then (and_then (places_same target into columns i) (λ to. selected s u base to sel)) (source_of s width))
      ∙ (λ i. and_then (and_then (to.1 i) (λ to. selected s u base to sel)) (source_of s width))
      ∙ (λ i. and_then (selected_moves base to.0 q.0 r.0 q.1 r.1 p good alone over i) (source_of s width))
      ∙ source_moves base to.0 q.0 r.0 q.1 r.1 p good alone over width

  pub copy_moves : (base : ℕ) (columns : List Name) (p : Program) → p.body.group ≡ None → p.body.from ≡ inner from_like.tree end → insert s' base target.name columns (rows.Select sel) ≡ Ok (Insert at' (source.Query p))
      → insert s base target.name columns (rows.Select sel) ≡ Ok (Insert at (source.Query (asking (query_at from.tree p.body))))
  copy_moves base columns p alone over h =
      let src = taken (new_rows s' target base columns (rows.Select sel)) (λ src. Ok (Insert at' src)) _ (sym (insert_was s s' at at' target into writes writes' base columns (rows.Select sel)) ∙ h) in
      let same : src.0 ≡ source.Query p = same_source (same_ok src.2) in
      insert_is s s' at at' target into writes writes' base columns (rows.Select sel)
      ∙ (λ i. and_then (copied_rows base columns p alone over (src.1 ∙ ap {B = Checked Source} (λ (x : Source). Ok x) same) i) (λ src. Ok (Insert at src)))
