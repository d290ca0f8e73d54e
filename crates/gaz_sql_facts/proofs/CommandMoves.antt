-- What a statement commands over one table, it commands over another that reads alike, wherever that stands.
use Rattle.std.proofs.Common.{◌≡◌, ℕ, true, List, [], Option, None, Ok, refl, sym, ap, subst, ◌∙◌}
use Rattle.sqlite_ast.specs.declared.Expr.{Expr}
use Rattle.sqlite_ast.specs.declared.Rows.{Rows}
use Rattle.sqlite_ast.specs.declared.Select.{Select}
use Rattle.sqlite_sql.specs.Query.{inner, end}
use Rattle.sqlite_schema.specs.declared.command.Command.{Command}
use Rattle.sqlite_schema.specs.declared.command.Command.TheVariants as command
use Rattle.sqlite_schema.specs.declared.program.Program.{Program}
use Rattle.sqlite_schema.specs.declared.schema.Schema.{Schema}
use Rattle.sqlite_schema.specs.declared.schema.Table.{Table}
use Rattle.sqlite_draft.specs.declared.query.Draft.{Draft}
use Rattle.sqlite_draft.specs.Query.{query_of}
use Rattle.sqlite_resolve.specs.Compile.{read, insert, update, delete, new_rows}
use Rattle.sqlite_resolve.specs.Lowering.{Checked, and_then}
use Rattle.sqlite_resolve.specs.Program.{program, query}
use Rattle.sqlite_resolve.specs.Scope.{Name}
use Rattle.sqlite_resolve.specs.Write.{updated, deleted}
use Rattle.gaz_sql_facts.specs.Meaning.{asking}
use Rattle.gaz_sql_facts.specs.Simple.{are_simple_rows, are_simple_sets, is_simple_or_none, is_simple_select, known_in}
use Rattle.gaz_sql_facts.specs.Standing.{StandsAt}
use Rattle.gaz_sql_facts.proofs.InsertMoves.{IsValues, insert_is, insert_was, rows_move}
use Rattle.gaz_sql_facts.proofs.Looks.{as_read}
use Rattle.gaz_sql_facts.proofs.SelectMoves.{read_moves}
use Rattle.gaz_sql_facts.proofs.Typing.{at_tree, drafted, program_moves, query_at, same_ok, taken}
use Rattle.gaz_sql_facts.proofs.UpdateMoves.{deleted_moves, updated_moves}

-- the command on a table at another place and tree
abbrev pub moved : ℕ → ℕ → Command → Command
moved at tree (command.Select p names) = command.Select (asking (query_at tree p.body)) names
moved at tree (command.Insert k src) = command.Insert at src
moved at tree (command.Update k p) = command.Update at (asking (query_at tree p.body))
moved at tree (command.Delete k p) = command.Delete at (asking (query_at tree p.body))
moved at tree c = c

-- the program is one query over the table at a tree
pub record IsOverTree (tree : ℕ) (p : Program) : Type 0 where
  pub alone : p.body.group ≡ None
  pub from : p.body.from ≡ inner tree end

abbrev pub IsOverOne : ℕ → Command → Type 0
IsOverOne tree (command.Select p names) = IsOverTree tree p
IsOverOne tree (command.Insert k src) = IsValues src
IsOverOne tree (command.Update k p) = IsOverTree tree p
IsOverOne tree (command.Delete k p) = IsOverTree tree p
IsOverOne tree c = Unit {0}

module _ (s s' : Schema) (at at' : ℕ) (like table : Table) (stands : StandsAt s at (as_read like table)) (stands' : StandsAt s' at' like) where
  abbrev pub u : Table
  u = as_read like table

  -- an old command goes over into a new one
  abbrev pub Moves : Checked Command → Checked Command → Type 0
  Moves old new = (c : Command) → IsOverOne like.tree c → old ≡ Ok c → new ≡ Ok (moved at table.tree c)

  pub select_moves : s'.views ≡ [] → (sel : Select) → is_simple_select like sel ≡ true → Moves (read s' sel) (read s sel)
  unfolding read
  select_moves bare sel simple c one h =
      let q = taken (query s' sel) _ c h in
      let p = taken (program s' q.0.1 q.0.0.0) _ c q.2 in
      let same : command.Select p.0 q.0.0.1 ≡ c = same_ok p.2 in
      let over = subst (IsOverOne like.tree) (sym same) one in
      read_moves s s' at at' like table stands stands' bare sel simple p.0 q.0.0.1 over.alone over.from (h ∙ ap {B = Checked Command} Ok (sym same)) ∙ ap {B = Checked Command} (λ c. Ok (moved at table.tree c)) same

  -- ---- a write by a draft

  module _ (kind kind' : Program → Command) (moves : (p : Program) → moved at table.tree (kind' p) ≡ kind (asking (query_at table.tree p.body))) (shape : (p : Program) → IsOverOne like.tree (kind' p) → IsOverTree like.tree p) where
    draft_moves : (old new : Checked Draft) → ((it : Draft) → it.from ≡ inner like.tree end → old ≡ Ok it → new ≡ Ok (at_tree table.tree it))
        → Moves (and_then old (λ d. and_then (program s' [] d) (λ p. Ok (kind' p)))) (and_then new (λ d. and_then (program s [] d) (λ p. Ok (kind p))))
    draft_moves old new each c one h =
        let d = taken old _ c h in
        let p = taken (program s' [] d.0) _ c d.2 in
        let same : kind' p.0 ≡ c = same_ok p.2 in
        let over = shape p.0 (subst (IsOverOne like.tree) (sym same) one) in
        let body : asking (query_of d.0) ≡ p.0 = drafted s' d.0 p.0 p.1 in
        let from : d.0.from ≡ inner like.tree end = ap (λ (p : Program). p.body.from) body ∙ over.from in
        (λ i. and_then (each d.0 from d.1 i) (λ d. and_then (program s [] d) (λ p. Ok (kind p))))
        ∙ (λ i. and_then (program_moves s at like table stands s' at' stands' d.0 p.0 from p.1 i) (λ p. Ok (kind p)))
        ∙ (λ i. Ok (kind (asking (query_at table.tree (body i).body))))
        ∙ ap {B = Checked Command} Ok (sym (moves p.0) ∙ ap (moved at table.tree) same)

  update_is : (sets : List (Name × Expr)) (test : Option Expr) → update s like.name sets test ≡ and_then (updated s at u sets test) (λ d. and_then (program s [] d) (λ p. Ok (command.Update at p)))
  unfolding update
  update_is sets test = rw (stands.named, stands.listed)

  update_was : (sets : List (Name × Expr)) (test : Option Expr) → update s' like.name sets test ≡ and_then (updated s' at' like sets test) (λ d. and_then (program s' [] d) (λ p. Ok (command.Update at' p)))
  unfolding update
  update_was sets test = rw (stands'.named, stands'.listed)

  pub update_moves : (sets : List (Name × Expr)) (test : Option Expr) → are_simple_sets (known_in like) sets ≡ true → is_simple_or_none (known_in like) test ≡ true → Moves (update s' like.name sets test) (update s like.name sets test)
  update_moves sets test h k c one is =
      update_is sets test
      ∙ draft_moves (command.Update at) (command.Update at') (λ p. refl) (λ p over. over) (updated s' at' like sets test) (updated s at u sets test) (updated_moves s s' at at' like table stands stands' sets test h k) c one (sym (update_was sets test) ∙ is)

  delete_is : (test : Option Expr) → delete s like.name test ≡ and_then (deleted s at u test) (λ d. and_then (program s [] d) (λ p. Ok (command.Delete at p)))
  unfolding delete
  delete_is test = rw (stands.named, stands.listed)

  delete_was : (test : Option Expr) → delete s' like.name test ≡ and_then (deleted s' at' like test) (λ d. and_then (program s' [] d) (λ p. Ok (command.Delete at' p)))
  unfolding delete
  delete_was test = rw (stands'.named, stands'.listed)

  pub delete_moves : (test : Option Expr) → is_simple_or_none (known_in like) test ≡ true → Moves (delete s' like.name test) (delete s like.name test)
  delete_moves test k c one is =
      delete_is test
      ∙ draft_moves (command.Delete at) (command.Delete at') (λ p. refl) (λ p over. over) (deleted s' at' like test) (deleted s at u test) (deleted_moves s s' at at' like table stands stands' test k) c one (sym (delete_was test) ∙ is)

  pub insert_moves : (base : ℕ) (columns : List Name) (all : Rows) → are_simple_rows all ≡ true → Moves (insert s' base like.name columns all) (insert s base like.name columns all)
  insert_moves base columns all h c one is =
      let src = taken (new_rows s' like base columns all) _ c (sym (insert_was s s' at at' like table stands stands' base columns all) ∙ is) in
      let same : command.Insert at' src.0 ≡ c = same_ok src.2 in
      let values : IsValues src.0 = subst (IsOverOne like.tree) (sym same) one in
      insert_is s s' at at' like table stands stands' base columns all
      ∙ (λ i. and_then (rows_move s s' at at' like table stands stands' base columns all values.0 values.1 h (src.1 ∙ (λ j. Ok (values.2 j))) i) (λ src. Ok (command.Insert at src)))
      ∙ (λ i. Ok (command.Insert at (sym values.2 i)))
      ∙ ap {B = Checked Command} (λ c. Ok (moved at table.tree c)) same
