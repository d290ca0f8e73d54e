-- What a text means over one table, it means over another that reads alike, wherever that stands.
use Rattle.std.proofs.Common.{◌≡◌, ℕ, false, nat_le, ◌^◌, ◌+◌, true, List, [], ◌++◌, Option, None, Ok, Err, refl, sym, ap, subst, ◌∙◌}
use Rattle.std.proofs.lemmas.Bool.{and_parts}
use Rattle.std.proofs.lemmas.Slice.Eq.{bytes_eq-Decides}
use Rattle.sqlite_ast.specs.declared.Conflict.{Conflict}
use Rattle.sqlite_ast.specs.declared.Conflict.TheVariants as conflict
use Rattle.sqlite_ast.specs.declared.Expr.{Expr}
use Rattle.sqlite_ast.specs.declared.Rows.{Rows}
use Rattle.sqlite_ast.specs.declared.Select.{Select}
use Rattle.sqlite_ast.specs.declared.Statement.{Statement}
use Rattle.sqlite_ast.specs.declared.Statement.TheVariants as written
use Rattle.sqlite_syntax.specs.declared.statement.Parsed.{Parsed}
use Rattle.sqlite_schema.specs.declared.command.Command.{Command}
use Rattle.sqlite_schema.specs.declared.command.Returning.{Returning}
use Rattle.sqlite_schema.specs.declared.schema.Schema.{Schema}
use Rattle.sqlite_schema.specs.declared.schema.Table.{Table}
use Rattle.sqlite_resolve.specs.declared.compiled.Compiled.{Compiled}
use Rattle.sqlite_resolve.specs.Compile.{first, compiled, with_command, planned, meaning, returning, shows, command, timed, small, formats_of, read, insert, insert_or_abort, update, delete}
use Rattle.sqlite_resolve.specs.Lowering.{Checked, and_then}
use Rattle.sqlite_resolve.specs.Scope.{Name}
use Rattle.gaz_sql_facts.specs.Laws.{TextsStandAlone}
use Rattle.gaz_sql_facts.specs.Meaning.{Means, MeansAnywhere, OnTable, placed}
use Rattle.gaz_sql_facts.specs.Simple.{is_abort, is_simple_read, is_simple_statement, is_simple_text}
use Rattle.gaz_sql_facts.specs.Standing.{ReadsAs, StandsAt, alone}
use Rattle.gaz_sql_facts.proofs.CommandMoves.{IsOverOne, Moves, delete_moves, insert_moves, moved, select_moves, update_moves}
use Rattle.gaz_sql_facts.proofs.Looks.{as_read}
use Rattle.gaz_sql_facts.proofs.Parts.{empty_is}
use Rattle.gaz_sql_facts.proofs.Sound.{stands_alone}
use Rattle.gaz_sql_facts.proofs.Typing.{same_ok, taken}

pub abort_is : (way : Conflict) → is_abort way ≡ true → way ≡ conflict.Abort
abort_is conflict.Abort h = refl
abort_is way h = absurd (cc)

-- what is planned: in which formats the time is asked for, the command, and what is given back
abbrev pub Plan : Type 0
Plan = List Name × (Command × Option Returning)

abbrev pub planning : List Name → Checked Command → Checked Plan
planning formats r = and_then {A = Command × Option Returning} (and_then r (λ c. Ok (c, None))) (λ found. Ok (formats, found))

module _ (s : Schema) (p : Parsed) where
  planned_select : (sel : Select) → p.statement ≡ written.Select sel → planned s p ≡ planning p.formats (read s sel)
  unfolding planned meaning timed returning command
  planned_select sel is = rw is

  planned_update : (name : Name) (sets : List (Name × Expr)) (test : Option Expr) → p.statement ≡ written.Update name sets test [] → planned s p ≡ planning p.formats (update s name sets test)
  unfolding planned meaning timed returning shows command
  planned_update name sets test is = rw is

  planned_delete : (name : Name) (test : Option Expr) → p.statement ≡ written.Delete name test [] → planned s p ≡ planning p.formats (delete s name test)
  unfolding planned meaning timed returning shows command
  planned_delete name test is = rw is

  abbrev pub inserting : Name → List Name → Rows → List Name → Checked Plan
  inserting name columns all formats = planning (p.formats ++ formats) (insert s (small p.names + small (p.formats ++ formats)) name columns all)

  pub planned_insert : (name : Name) (columns : List Name) (all : Rows) → p.statement ≡ written.Insert conflict.Abort name columns all [] [] → planned s p ≡ inserting name columns all (formats_of s name)
  unfolding planned meaning timed returning shows command insert_or_abort
  planned_insert name columns all is = rw is

module _ (s s' : Schema) (at at' : ℕ) (like table : Table) (stands : StandsAt s at (as_read like table)) (stands' : StandsAt s' at' like) (bare : s'.views ≡ []) where
  abbrev moved_plan : Plan → Plan
  moved_plan plan = (plan.0, (moved at table.tree plan.1.0, plan.1.1))

  by_command : (formats : List Name) (old new : Checked Command) → Moves s s' at at' like table stands stands' old new → (plan : Plan) → IsOverOne like.tree plan.1.0 → planning formats old ≡ Ok plan → planning formats new ≡ Ok (moved_plan plan)
  by_command formats (Ok c) new moves plan one h =
      let same : (formats, (c, None)) ≡ plan = same_ok h in
      (λ i. planning formats (moves c (subst (λ (x : Plan). IsOverOne like.tree x.1.0) (sym same) one) refl i)) ∙ ap {B = Checked Plan} (λ (x : Plan). Ok (moved_plan x)) same
  by_command formats (Err e) new moves plan one h = absurd (cc)

  pub formats_are : formats_of s like.name ≡ like.stamps.formats
  formats_are = rw (stands.named, stands.listed)

  pub formats_were : formats_of s' like.name ≡ like.stamps.formats
  formats_were = rw (stands'.named, stands'.listed)

  module _ (p : Parsed) (plan : Plan) (one : IsOverOne like.tree plan.1.0) where
    by_statement : (st : Statement) → p.statement ≡ st → is_simple_statement like st ≡ true → planned s' p ≡ Ok plan → planned s p ≡ Ok (moved_plan plan)
    by_statement (written.Select sel) is h was =
        planned_select s p sel is
        ∙ by_command p.formats (read s' sel) (read s sel) (select_moves s s' at at' like table stands stands' bare sel h) plan one (sym (planned_select s' p sel is) ∙ was)
    by_statement (written.Insert way name columns all clauses shown) is h was =
        let named = and_parts _ _ h in
        let aborts = and_parts _ _ named.1 in
        let simple = and_parts _ _ aborts.1 in
        let rest = and_parts _ _ simple.1 in
        let now : p.statement ≡ written.Insert conflict.Abort like.name columns all [] [] =
        is ∙ (λ i. written.Insert (abort_is way aborts.0 i) ((bytes_eq-Decides name like.name).0 named.0 i) columns all (empty_is clauses rest.0 i) (empty_is shown rest.1 i)) in
        let formats = p.formats ++ like.stamps.formats in
        let base = small p.names + small formats in
        planned_insert s p like.name columns all now
        ∙ ap (inserting s p like.name columns all) formats_are
        ∙ by_command formats (insert s' base like.name columns all) (insert s base like.name columns all) (insert_moves s s' at at' like table stands stands' base columns all simple.0) plan one
        (sym (planned_insert s' p like.name columns all now ∙ ap (inserting s' p like.name columns all) formats_were) ∙ was)
    by_statement (written.Update name sets test shown) is h was =
        let named = and_parts _ _ h in
        let simple = and_parts _ _ named.1 in
        let rest = and_parts _ _ simple.1 in
        let now : p.statement ≡ written.Update like.name sets test [] = is ∙ (λ i. written.Update ((bytes_eq-Decides name like.name).0 named.0 i) sets test (empty_is shown rest.1 i)) in
        planned_update s p like.name sets test now
        ∙ by_command p.formats (update s' like.name sets test) (update s like.name sets test) (update_moves s s' at at' like table stands stands' sets test simple.0 rest.0) plan one
        (sym (planned_update s' p like.name sets test now) ∙ was)
    by_statement (written.Delete name test shown) is h was =
        let named = and_parts _ _ h in
        let rest = and_parts _ _ named.1 in
        let now : p.statement ≡ written.Delete like.name test [] = is ∙ (λ i. written.Delete ((bytes_eq-Decides name like.name).0 named.0 i) test (empty_is shown rest.1 i)) in
        planned_delete s p like.name test now
        ∙ by_command p.formats (delete s' like.name test) (delete s like.name test) (delete_moves s s' at at' like table stands stands' test rest.0) plan one (sym (planned_delete s' p like.name test now) ∙ was)
    by_statement st is h was = absurd (cc)

  -- what is placed is over one table, and goes where it is placed
  over_one : (it : OnTable) → IsOverOne like.tree (placed at' like.tree it)
  over_one (OnTable.Selects tests project order limit names) = record { alone = refl; from = refl }
  over_one (OnTable.Inserts terms width) = (terms, width, refl)
  over_one (OnTable.Updates tests project) = record { alone = refl; from = refl }
  over_one (OnTable.Deletes tests project) = record { alone = refl; from = refl }

  goes : (it : OnTable) → moved at table.tree (placed at' like.tree it) ≡ placed at table.tree it
  goes (OnTable.Selects tests project order limit names) = refl
  goes (OnTable.Inserts terms width) = refl
  goes (OnTable.Updates tests project) = refl
  goes (OnTable.Deletes tests project) = refl

  text_moves : (text : List ℕ) (it : OnTable) → is_simple_text like text ≡ true → Means s' text (placed at' like.tree it) → Means s text (placed at table.tree it)
  unfolding compiled
  text_moves text it simple means =
      let p = taken (first text) _ means.read means.is in
      let plan = taken (planned s' p.0) _ means.read p.2 in
      let same : with_command p.0 plan.0 ≡ means.read = same_ok plan.2 in
      let commands : plan.0.1.0 ≡ placed at' like.tree it = ap (λ (c : Compiled). c.command) same ∙ means.command_is in
      let good : is_simple_statement like p.0.statement ≡ true = subst (λ (r : Checked Parsed). is_simple_read like r ≡ true) p.1 simple in
      let now = by_statement p.0 plan.0 (subst (IsOverOne like.tree) (sym commands) (over_one it)) p.0.statement refl good plan.1 in
      record {
        read = with_command p.0 (moved_plan plan.0);
        is = (λ i. and_then (p.1 i) (λ p. and_then (planned s p) (λ plan. Ok (with_command p plan)))) ∙ (λ i. and_then (now i) (λ plan. Ok (with_command p.0 plan)));
        command_is = ap (moved at table.tree) commands ∙ goes it;
        no_rows = ap (λ (c : Compiled). c.returning) same ∙ means.no_rows;
        no_time = ap (λ (c : Compiled). c.formats) same ∙ means.no_time;
      }

-- a table that reads as another one is that one, but for what no text asks
pub is_as_read : (like table : Table) → ReadsAs like table → table ≡ as_read like table
is_as_read like table reads = λ i. record table { name = reads.name i; columns = reads.columns i; key = reads.key i; computed = reads.computed i; stamps = reads.stamps i }

pub texts_stand_alone : TextsStandAlone
texts_stand_alone like text it first simple means schema at table reads stands =
    text_moves schema (alone like) at 0 like table (subst (StandsAt schema at) (is_as_read like table reads) stands) first refl text it simple means

-- so it is, where it is computed over a table that a store has
pub anywhere : (table : Table) (text : List ℕ) (it : OnTable) → nat_le (2 ^ 31) table.tree ≡ false → is_simple_text table text ≡ true → Means (alone table) text (placed 0 table.tree it) → MeansAnywhere table text it
anywhere table text it low simple means = texts_stand_alone table text it (stands_alone table low) simple means
