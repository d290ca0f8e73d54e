-- What a text that makes a table or an index asks of a schema: whether a name is free, and where a table stands.
use Rattle.std.proofs.Common.{◌≡◌, ℕ, List, [], Bool, true, false, not, if◌then◌else◌, Option, None, Some, slice_get, Ok, Err, refl, sym, ap, subst, ◌∙◌}
use Rattle.sqlite_ast.specs.declared.CreateIndex.{CreateIndex as Wanted}
use Rattle.sqlite_ast.specs.declared.CreateTable.{CreateTable}
use Rattle.sqlite_ast.specs.declared.Keyed.{Keyed}
use Rattle.sqlite_value.specs.declared.keys.Order.{Order}
use Rattle.sqlite_ast.specs.declared.Statement.{Statement}
use Rattle.sqlite_ast.specs.declared.Statement.TheVariants as written
use Rattle.sqlite_syntax.specs.declared.statement.Parsed.{Parsed}
use Rattle.sqlite_schema.specs.declared.command.Command.{Command}
use Rattle.sqlite_schema.specs.declared.command.Command.TheVariants.{CreateIndex, Nothing}
use Rattle.sqlite_schema.specs.declared.command.Returning.{Returning}
use Rattle.sqlite_schema.specs.declared.schema.Index.{Index}
use Rattle.sqlite_schema.specs.declared.schema.Schema.{Schema}
use Rattle.sqlite_schema.specs.declared.schema.Table.{Table}
use Rattle.sqlite_schema.specs.Names.{same_name, table_named}
use Rattle.sqlite_resolve.specs.declared.compiled.Compiled.{Compiled}
use Rattle.sqlite_resolve.specs.declared.error.CompileError.TheVariants.{Misuse}
use Rattle.sqlite_resolve.specs.Compile.{first, compiled, with_command, planned, meaning, returning, command, timed, create_table, create_index, creates, is_attached, is_reserved}
use Rattle.sqlite_resolve.specs.Define.{declared, index as defined, key_for, order_of, places, sorted}
use Rattle.sqlite_resolve.specs.Lowering.{Checked, and_then}
use Rattle.sqlite_resolve.specs.Scope.{Name}
use Rattle.gaz_sql_facts.specs.Making.{IndexesMadeAnywhere, IsFree, TablesMadeAnywhere, index_made, index_of, table_of, told_of}
use Rattle.gaz_sql_facts.specs.Standing.{StandsAt, alone}
use Rattle.gaz_sql_facts.proofs.Looks.{as_read}
use Rattle.gaz_sql_facts.proofs.Sound.{itself}
use Rattle.gaz_sql_facts.proofs.TextMoves.{is_as_read}
use Rattle.gaz_sql_facts.proofs.Typing.{same_ok, taken}

abbrev Plan : Type 0
Plan = List Name × (Command × Option Returning)

abbrev planning : List Name → Checked Command → Checked Plan
planning formats r = and_then {A = Command × Option Returning} (and_then r (λ c. Ok (c, None))) (λ found. Ok (formats, found))

module _ (s : Schema) (p : Parsed) where
  planned_table : (def : CreateTable) → p.statement ≡ written.CreateTable def → planned s p ≡ planning [] (create_table s p.formats def)
  unfolding planned meaning timed returning command
  planned_table def is = rw is

  planned_index : (def : Wanted) → p.statement ≡ written.CreateIndex def → planned s p ≡ planning p.formats (create_index s def)
  unfolding planned meaning timed returning command
  planned_index def is = rw is

-- ---- a table

table_alike : (one other : Schema) (formats : List Name) (def : CreateTable) → IsFree one def.name → IsFree other def.name → create_table one formats def ≡ create_table other formats def
unfolding create_table is_attached
table_alike one other formats def free also = rw (free.no_table, free.no_index, free.no_view, also.no_table, also.no_index, also.no_view)

module _ (one other : Schema) (name : Name) (free : IsFree one name) (also : IsFree other name) where
  by_statement : (p : Parsed) (st : Statement) → p.statement ≡ st → table_of st ≡ Some name → planned one p ≡ planned other p
  by_statement p (written.CreateTable def) is h =
      let same : def.name ≡ name = cc in
      planned_table one p def is
      ∙ ap (planning []) (table_alike one other p.formats def (subst (IsFree one) (sym same) free) (subst (IsFree other) (sym same) also))
      ∙ sym (planned_table other p def is)
  by_statement p st is h = absurd (cc)

  by_read : (r : Checked Parsed) → told_of table_of r ≡ Some name → and_then r (λ p. and_then (planned one p) (λ plan. Ok (with_command p plan))) ≡ and_then r (λ p. and_then (planned other p) (λ plan. Ok (with_command p plan)))
  by_read (Ok p) h = ap (λ (r : Checked Plan). and_then r (λ plan. Ok (with_command p plan))) (by_statement p p.statement refl h)
  by_read (Err e) h = absurd (cc)

pub tables_made_anywhere : TablesMadeAnywhere
unfolding compiled
tables_made_anywhere text name is one other free also = by_read one other name free also (first text) is

-- ---- an index

sorted_alike : (like table : Table) (keys : List Keyed) → sorted (as_read like table) keys ≡ sorted like keys
unfolding sorted places order_of key_for declared
sorted_alike like table keys = refl

-- an index of these columns in this order
abbrev pub index_by : Name → Wanted → ℕ → List ℕ × Order → Index
index_by name def tree at = record { name = def.name; tree = 0; table = tree; columns = at.0; order = at.1; is_unique = def.is_unique }

abbrev pub defining : Wanted → Name → ℕ → Checked (List ℕ × Order) → Checked Index
defining def name tree r = if not (same_name name def.table) then Err Misuse else and_then r (λ at. Ok (index_by name def tree at))

pub defined_is : (like table : Table) (def : Wanted) → defined (as_read like table) def ≡ defining def like.name table.tree (sorted like def.columns)
unfolding defined
defined_is like table def = ap (defining def like.name table.tree) (sorted_alike like table def.columns)

pub defined_was : (like : Table) (def : Wanted) → defined like def ≡ defining def like.name like.tree (sorted like def.columns)
unfolding defined
defined_was like def = refl

-- what is made of the table at a place, once the index is defined and its name is free
abbrev indexing : Bool → Checked Bool → ℕ → Checked Index → Checked Command
indexing reserved new at r = if reserved then Err Misuse else and_then new (λ is_new. if is_new then and_then r (λ _. Ok (CreateIndex at)) else Ok Nothing)

index_is : (s : Schema) (at : ℕ) (table : Table) (def : Wanted) → table_named s def.table ≡ Some at → slice_get s.tables at ≡ Some table → IsFree s def.name
    → create_index s def ≡ indexing (is_reserved def.table) (creates def.if_missing def.name None None) at (defined table def)
unfolding create_index
index_is s at table def named listed free = rw (named, listed, free.no_table, free.no_index, free.no_view)

-- what is defined of one table is of another that reads alike
indexing_moves : (def : Wanted) (name : Name) (at tree other : ℕ) (reserved : Bool) (new : Checked Bool) (r : Checked (List ℕ × Order)) (b : Bool)
    → indexing reserved new 0 (if b then Err Misuse else and_then r (λ x. Ok (index_by name def tree x))) ≡ Ok (CreateIndex 0)
    → indexing reserved new at (if b then Err Misuse else and_then r (λ x. Ok (index_by name def other x))) ≡ Ok (CreateIndex at)
indexing_moves def name at tree other true new r b h = absurd (cc)
indexing_moves def name at tree other false (Err e) r b h = absurd (cc)
indexing_moves def name at tree other false (Ok false) r b h = absurd (cc)
indexing_moves def name at tree other false (Ok true) r true h = absurd (cc)
indexing_moves def name at tree other false (Ok true) (Err e) false h = absurd (cc)
indexing_moves def name at tree other false (Ok true) (Ok x) false h = refl

by_command : (formats : List Name) (at : ℕ) (old new : Checked Command) → (old ≡ Ok (CreateIndex 0) → new ≡ Ok (CreateIndex at)) → (plan : Plan) → plan.1.0 ≡ CreateIndex 0 → planning formats old ≡ Ok plan
    → planning formats new ≡ Ok (plan.0, (CreateIndex at, plan.1.1))
by_command formats at (Err e) new moves plan is h = absurd (cc)
by_command formats at (Ok c) new moves plan is h =
    let same : (formats, (c, None)) ≡ plan = same_ok h in
    let now = moves (ap {B = Checked Command} Ok (ap (λ (x : Plan). x.1.0) same ∙ is)) in
    ap (planning formats) now ∙ ap {B = Checked Plan} (λ (x : Plan). Ok (x.0, (CreateIndex at, x.1.1))) same

module _ (s : Schema) (at : ℕ) (like table : Table) (name : Name) (stands : StandsAt s at (as_read like table)) (free : IsFree s name) (also : IsFree (alone like) name) where
  index_moves : (def : Wanted) → def.name ≡ name → def.table ≡ like.name → create_index (alone like) def ≡ Ok (CreateIndex 0) → create_index s def ≡ Ok (CreateIndex at)
  index_moves def same on h =
      let first : table_named (alone like) def.table ≡ Some 0 = ap (table_named (alone like)) on ∙ rw (itself like.name) in
      let was : create_index (alone like) def ≡ indexing (is_reserved def.table) (creates def.if_missing def.name None None) 0 (defining def like.name like.tree (sorted like def.columns)) =
      index_is (alone like) 0 like def first refl (subst (IsFree (alone like)) (sym same) also) ∙ ap (indexing (is_reserved def.table) (creates def.if_missing def.name None None) 0) (defined_was like def) in
      let now : create_index s def ≡ indexing (is_reserved def.table) (creates def.if_missing def.name None None) at (defining def like.name table.tree (sorted like def.columns)) =
      index_is s at (as_read like table) def (ap (table_named s) on ∙ stands.named) stands.listed (subst (IsFree s) (sym same) free)
      ∙ ap (indexing (is_reserved def.table) (creates def.if_missing def.name None None) at) (defined_is like table def) in
      now ∙ indexing_moves def like.name at like.tree table.tree (is_reserved def.table) (creates def.if_missing def.name None None) (sorted like def.columns) (not (same_name like.name def.table)) (sym was ∙ h)

  module _ (p : Parsed) (plan : Plan) (is : plan.1.0 ≡ CreateIndex 0) where
    index_planned : (st : Statement) → p.statement ≡ st → index_of st ≡ Some (name, like.name) → planned (alone like) p ≡ Ok plan → planned s p ≡ Ok (plan.0, (CreateIndex at, plan.1.1))
    index_planned (written.CreateIndex def) stated h was =
        let both : (def.name, def.table) ≡ (name, like.name) = cc in
        planned_index s p def stated
        ∙ by_command p.formats at (create_index (alone like) def) (create_index s def) (index_moves def (ap (λ (x : Name × Name). x.0) both) (ap (λ (x : Name × Name). x.1) both)) plan is (sym (planned_index (alone like) p def stated) ∙ was)
    index_planned st stated h was = absurd (cc)

  index_read : (text : List ℕ) (read : Compiled) → index_made text ≡ Some (name, like.name) → compiled (alone like) text ≡ Ok read → read.command ≡ CreateIndex 0 → compiled s text ≡ Ok (record read { command = CreateIndex at })
  unfolding compiled
  index_read text read made is command =
      let p = taken (first text) _ read is in
      let plan = taken (planned (alone like) p.0) _ read p.2 in
      let same : with_command p.0 plan.0 ≡ read = same_ok plan.2 in
      let stated : index_of p.0.statement ≡ Some (name, like.name) = subst (λ (r : Checked Parsed). told_of index_of r ≡ Some (name, like.name)) p.1 made in
      let now = index_planned p.0 plan.0 (ap (λ (c : Compiled). c.command) same ∙ command) p.0.statement refl stated plan.1 in
      (λ i. and_then (p.1 i) (λ p. and_then (planned s p) (λ plan. Ok (with_command p plan))))
      ∙ (λ i. and_then (now i) (λ plan. Ok (with_command p.0 plan)))
      ∙ ap {B = Checked Compiled} (λ (c : Compiled). Ok (record c { command = CreateIndex at })) same

pub indexes_made_anywhere : IndexesMadeAnywhere
indexes_made_anywhere like text name read made also is command schema at table reads stands free =
    index_read schema at like table name (subst (StandsAt schema at) (is_as_read like table reads) stands) free also text read made is command
