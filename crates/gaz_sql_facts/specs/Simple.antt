-- Statements that ask a schema for one table, or for two of which one is copied into the other, and
-- for nothing else.
use Rattle.std.specs.Prelude.{ℕ, zero, suc, Bool, true, false, not, ◌&&◌, ◌||◌, List, [], ◌∷◌}
use Rattle.std.specs.Prelude.{Option, None, Some, is_none, is_some, Ok, Err, bytes_eq}
use Rattle.std.specs.List.{list_all}
use Rattle.sqlite_ast.specs.declared.Binary.{Binary}
use Rattle.sqlite_ast.specs.declared.Binary.TheVariants as binary
use Rattle.sqlite_ast.specs.declared.Conflict.{Conflict}
use Rattle.sqlite_ast.specs.declared.Conflict.TheVariants.{Abort}
use Rattle.sqlite_ast.specs.declared.Core.{Core, out-Core}
use Rattle.sqlite_ast.specs.declared.Expr.{Expr, out-Expr}
use Rattle.sqlite_ast.specs.declared.Expr.TheOpen.{Expr-F, Shown-F}
use Rattle.sqlite_ast.specs.declared.Origin.{Origin}
use Rattle.sqlite_ast.specs.declared.Origin.TheVariants as origin
use Rattle.sqlite_ast.specs.declared.Rows.{Rows}
use Rattle.sqlite_ast.specs.declared.Rows.TheVariants as rows
use Rattle.sqlite_ast.specs.declared.Select.{Select, out-Select}
use Rattle.sqlite_ast.specs.declared.Shown.{Shown, out-Shown}
use Rattle.sqlite_ast.specs.declared.Sort.{Sort, out-Sort}
use Rattle.sqlite_ast.specs.declared.Source.{Source, out-Source}
use Rattle.sqlite_ast.specs.declared.Statement.{Statement}
use Rattle.sqlite_ast.specs.declared.Statement.TheVariants as written
use Rattle.sqlite_ast.specs.Layer.{Layer, ShownLayer}
use Rattle.sqlite_schema.specs.declared.schema.Table.{Table}
use Rattle.sqlite_schema.specs.Names.{column_named}
use Rattle.sqlite_syntax.specs.declared.statement.Parsed.{Parsed}
use Rattle.sqlite_resolve.specs.Compile.{first}
use Rattle.sqlite_resolve.specs.Lowering.{Checked}
use Rattle.sqlite_resolve.specs.Order.{peeled}
use Rattle.sqlite_resolve.specs.Scope.{Name, is_rowid}

-- a comparison, AND or OR
abbrev pub is_plain_operator : Binary → Bool
is_plain_operator binary.And = true
is_plain_operator binary.Or = true
is_plain_operator binary.Eq = true
is_plain_operator binary.Ne = true
is_plain_operator binary.Lt = true
is_plain_operator binary.Le = true
is_plain_operator binary.Gt = true
is_plain_operator binary.Ge = true
is_plain_operator _ = false

abbrev pub is_empty : {A : Type 0} → List A → Bool
is_empty [] = true
is_empty (x ∷ more) = false

-- integers, parameters and columns that are known by their names alone, under plain operators
module _ (known : Name → Bool) where
  abbrev pub is_simple_layer : (Expr → Bool) → Layer → Bool
  is_simple_layer below (Expr-F.Integer text) = true
  is_simple_layer below (Expr-F.Parameter n) = true
  is_simple_layer below (Expr-F.Column None name) = known name
  is_simple_layer below (Expr-F.Binary op a b) = is_plain_operator op && (below a && below b)
  is_simple_layer below _ = false

  abbrev pub is_simple_to : ℕ → Expr → Bool
  is_simple_to zero e = true
  is_simple_to (suc depth) e = is_simple_layer (is_simple_to depth) (out-Expr e)

  -- as deep as a tree is read
  abbrev pub is_simple : Expr → Bool
  is_simple = is_simple_to 700

  abbrev pub is_simple_or_none : Option Expr → Bool
  is_simple_or_none None = true
  is_simple_or_none (Some e) = is_simple e

  abbrev pub is_simple_shown : ShownLayer → Bool
  is_simple_shown (Shown-F.One e alias text) = is_simple e
  is_simple_shown _ = false

  abbrev pub are_simple_shown : List Shown → Bool
  are_simple_shown = list_all (λ x. is_simple_shown (out-Shown x))

  abbrev pub are_simple_sorts : List Sort → Bool
  are_simple_sorts = list_all (λ x. is_simple (peeled (out-Sort x).key))

  abbrev pub are_simple_sets : List (Name × Expr) → Bool
  are_simple_sets = list_all (λ x. is_simple x.1)

abbrev pub none_known : Name → Bool
none_known name = false

-- the names of the table's columns and of its rowid
abbrev pub known_in : Table → Name → Bool
known_in table name = is_some (column_named table name) || is_rowid name

abbrev pub names_table : Name → Origin Select → Bool
names_table name (origin.Table table) = bytes_eq table name
names_table name (origin.Query query) = false

-- FROM the table by its name
abbrev pub is_bare_source : Name → Source → Bool
is_bare_source name s =
    names_table name (out-Source s).origin
    && (not (out-Source s).is_left
    && (is_none (out-Source s).alias
    && (is_none (out-Source s).on && is_empty (out-Source s).using)))

abbrev pub is_bare_from : Name → List Source → Bool
is_bare_from name [] = false
is_bare_from name (s ∷ []) = is_bare_source name s
is_bare_from name (s ∷ t ∷ more) = false

-- SELECT .. FROM the table WHERE .. ORDER BY .. LIMIT .. OFFSET ..
abbrev pub is_simple_core : Table → Core → Bool
is_simple_core table core =
    is_bare_from table.name (out-Core core).from
    && (is_empty (out-Core core).group
    && (is_none (out-Core core).having
    && (are_simple_shown (known_in table) (out-Core core).shown
    && is_simple_or_none (known_in table) (out-Core core).filter)))

abbrev pub is_simple_select : Table → Select → Bool
is_simple_select table s =
    is_empty (out-Select s).with
    && (is_empty (out-Select s).others
    && (is_simple_core table (out-Select s).first
    && (are_simple_sorts (known_in table) (out-Select s).order
    && (is_simple_or_none none_known (out-Select s).limit
    && is_simple_or_none none_known (out-Select s).offset))))

-- VALUES, without a column
abbrev pub are_simple_rows : Rows → Bool
are_simple_rows (rows.Values all) = list_all (list_all (is_simple none_known)) all
are_simple_rows _ = false

abbrev pub is_abort : Conflict → Bool
is_abort Abort = true
is_abort _ = false

-- a SELECT, or an INSERT, UPDATE or DELETE that gives back no rows
abbrev pub is_simple_statement : Table → Statement → Bool
is_simple_statement table (written.Select s) = is_simple_select table s
is_simple_statement table (written.Insert way name columns all clauses shown) =
    bytes_eq name table.name
    && (is_abort way && (are_simple_rows all && (is_empty clauses && is_empty shown)))
is_simple_statement table (written.Update name sets test shown) =
    bytes_eq name table.name
    && (are_simple_sets (known_in table) sets
    && (is_simple_or_none (known_in table) test && is_empty shown))
is_simple_statement table (written.Delete name test shown) =
    bytes_eq name table.name && (is_simple_or_none (known_in table) test && is_empty shown)
is_simple_statement table _ = false

-- the rows of one SELECT over the table
abbrev pub is_simple_query : Table → Rows → Bool
is_simple_query source (rows.Select s) = is_simple_select source s
is_simple_query source _ = false

-- an INSERT into one table of what is selected from another, that gives back no rows
abbrev pub is_copy_statement : Table → Table → Statement → Bool
is_copy_statement source target (written.Insert way name columns all clauses shown) =
    bytes_eq name target.name
    && (is_abort way && (is_simple_query source all && (is_empty clauses && is_empty shown)))
is_copy_statement source target _ = false

abbrev pub is_simple_read : Table → Checked Parsed → Bool
is_simple_read table (Ok p) = is_simple_statement table p.statement
is_simple_read table (Err e) = false

-- the text is such a statement over this table
abbrev pub is_simple_text : Table → List ℕ → Bool
is_simple_text table text = is_simple_read table (first text)

abbrev pub is_copy_read : Table → Table → Checked Parsed → Bool
is_copy_read source target (Ok p) = is_copy_statement source target p.statement
is_copy_read source target (Err e) = false

-- the text is such an INSERT of rows of `source` into `target`
abbrev pub is_simple_copy : Table → Table → List ℕ → Bool
is_simple_copy source target text = is_copy_read source target (first text)
