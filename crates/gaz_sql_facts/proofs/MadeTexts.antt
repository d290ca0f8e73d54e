-- A text that makes a table or an index over a small schema, over any other.
use Rattle.std.proofs.Common.{◌≡◌, ℕ, List, [], Bool, true, false, not, if◌then◌else◌, None, Some, Ok, Err, refl, sym, ap, subst, ◌∙◌}
use Rattle.sqlite_ast.specs.declared.CreateIndex.{CreateIndex as Wanted}
use Rattle.sqlite_ast.specs.declared.Statement.{Statement}
use Rattle.sqlite_ast.specs.declared.Statement.TheVariants as written
use Rattle.sqlite_syntax.specs.declared.statement.Parsed.{Parsed}
use Rattle.sqlite_value.specs.declared.keys.Order.{Order}
use Rattle.sqlite_schema.specs.declared.command.Command.TheVariants.{CreateIndex}
use Rattle.sqlite_schema.specs.declared.schema.Index.{Index}
use Rattle.sqlite_schema.specs.declared.schema.Schema.{Schema}
use Rattle.sqlite_schema.specs.declared.schema.Table.{Table}
use Rattle.sqlite_resolve.specs.declared.compiled.Compiled.{Compiled}
use Rattle.sqlite_resolve.specs.declared.error.CompileError.TheVariants.{Misuse}
use Rattle.sqlite_schema.specs.Names.{same_name}
use Rattle.sqlite.proofs.Callers.{IsPlain, command_of, statement_of}
use Rattle.sqlite_resolve.specs.Compile.{compiled, first, index_defined_by, index_in}
use Rattle.sqlite_resolve.specs.Define.{sorted}
use Rattle.sqlite_resolve.specs.Lowering.{Checked, and_then}
use Rattle.sqlite_resolve.specs.Scope.{Name}
use Rattle.sqlite.specs.Listing.{if_select, listing_schema, misses_table, understood}
use Rattle.sqlite.specs.State.{text_of}
use Rattle.gaz_sql_facts.specs.Making.{IsFree, index_made, index_of, table_made, told_of}
use Rattle.gaz_sql_facts.specs.Standing.{ReadsAs, StandsAt, alone}
use Rattle.gaz_sql_facts.proofs.Gains.{IsIndexText, IsTableText}
use Rattle.gaz_sql_facts.proofs.Looks.{as_read}
use Rattle.gaz_sql_facts.proofs.Making.{defined_is, defined_was, index_by, indexes_made_anywhere, tables_made_anywhere}
use Rattle.gaz_sql_facts.proofs.TextMoves.{is_as_read}
use Rattle.gaz_sql_facts.proofs.Typing.{same_ok, taken}

-- what a text is understood to be hangs on what it is read as
abbrev by_compiled : List ℕ → Checked Compiled → Checked Compiled
by_compiled sql r = if misses_table r then if_select (compiled listing_schema sql) else r

understood_is : (s : Schema) (sql : List ℕ) → understood s sql ≡ by_compiled sql (compiled s sql)
unfolding understood
understood_is s sql = refl

-- ---- a table

module _ (text : List ℕ) (name : Name) (made : table_made text ≡ Some name) (one other : Schema) (free : IsFree one name) (also : IsFree other name) where
  understood_alike : understood one text ≡ understood other text
  understood_alike = understood_is one text ∙ ap (by_compiled text) (tables_made_anywhere text name made one other free also) ∙ sym (understood_is other text)

  pub table_text : (table : Table) → IsTableText one text table → IsTableText other text table
  table_text table it = record {
    is = sym (ap command_of understood_alike) ∙ it.is;
    text = sym (ap (statement_of text) understood_alike) ∙ it.text;
    plain = subst IsPlain understood_alike it.plain;
    defined = it.defined;
  }

-- ---- an index

-- over its table alone, the text makes this index of it
pub record IsIndexAlone (like : Table) (text : List ℕ) (name : Name) (index : Index) : Type 0 where
  pub made : index_made text ≡ Some (name, like.name)
  pub free : IsFree (alone like) name
  pub read : Compiled
  pub is : compiled (alone like) text ≡ Ok read
  pub command_is : read.command ≡ CreateIndex 0
  pub no_rows : read.returning ≡ None
  pub no_time : read.formats ≡ []
  pub whole : text_of text read ≡ text
  pub defined : index_defined_by like text ≡ Ok index

-- an index of one table, defined of another that reads alike, is one of that
defining_moves : (def : Wanted) (name : Name) (tree other : ℕ) (b : Bool) (r : Checked (List ℕ × Order)) (index : Index)
    → (if b then Err Misuse else and_then r (λ x. Ok (index_by name def tree x))) ≡ Ok index → (if b then Err Misuse else and_then r (λ x. Ok (index_by name def other x))) ≡ Ok (record index { table = other })
defining_moves def name tree other true r index h = absurd (cc)
defining_moves def name tree other false (Err e) index h = absurd (cc)
defining_moves def name tree other false (Ok x) index h = ap {B = Checked Index} (λ (i : Index). Ok (record i { table = other })) (same_ok h)

module _ (like table : Table) (name : Name) (index : Index) where
  by_statement : (st : Statement) → index_of st ≡ Some (name, like.name) → index_in like st ≡ Ok index → index_in (as_read like table) st ≡ Ok (record index { table = table.tree })
  unfolding index_in
  by_statement (written.CreateIndex def) made h =
      defined_is like table def ∙ defining_moves def like.name like.tree table.tree (not (same_name like.name def.table)) (sorted like def.columns) index (sym (defined_was like def) ∙ h)
  by_statement st made h = absurd (cc)

  defined_there : (text : List ℕ) → index_made text ≡ Some (name, like.name) → index_defined_by like text ≡ Ok index → index_defined_by (as_read like table) text ≡ Ok (record index { table = table.tree })
  unfolding index_defined_by
  defined_there text made h =
      let p = taken (first text) _ index h in
      let stated : index_of p.0.statement ≡ Some (name, like.name) = subst (λ (r : Checked Parsed). told_of index_of r ≡ Some (name, like.name)) p.1 made in
      (λ i. and_then (p.1 i) (λ p. index_in (as_read like table) p.statement)) ∙ by_statement p.0.statement stated p.2

module _ (like : Table) (text : List ℕ) (name : Name) (index : Index) (it : IsIndexAlone like text name index) (s : Schema) (at : ℕ) (table : Table) (reads : ReadsAs like table) (stands : StandsAt s at table) (free : IsFree s name) where
  abbrev read_there : Compiled
  read_there = record it.read { command = CreateIndex at }

  known : understood s text ≡ Ok read_there
  known = understood_is s text ∙ ap (by_compiled text) (indexes_made_anywhere like text name it.read it.made it.free it.is it.command_is s at table reads stands free)

  pub index_text : IsIndexText s text at table (record index { table = table.tree })
  index_text = record {
    is = rw known refl;
    text = rw known it.whole;
    plain = rw known (it.no_rows, it.no_time);
    defined = subst (λ (t : Table). index_defined_by t text ≡ Ok (record index { table = t.tree })) (sym (is_as_read like table reads)) (defined_there like table name index text it.made it.defined);
  }
