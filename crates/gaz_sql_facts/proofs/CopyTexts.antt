-- What a text means that copies one table into another where these are alone, it means wherever both stand.
use Rattle.std.proofs.Common.{◌≡◌, ℕ, ◌+◌, true, List, [], ◌++◌, None, Ok, Err, refl, sym, ap, subst, ◌∙◌}
use Rattle.std.proofs.lemmas.Bool.{and_parts}
use Rattle.std.proofs.lemmas.Slice.Eq.{bytes_eq-Decides}
use Rattle.sqlite_value.specs.declared.keys.Collation.{Collation}
use Rattle.sqlite_ast.specs.declared.Conflict.TheVariants as conflict
use Rattle.sqlite_ast.specs.declared.Rows.{Rows}
use Rattle.sqlite_ast.specs.declared.Rows.TheVariants as rows
use Rattle.sqlite_ast.specs.declared.Statement.{Statement}
use Rattle.sqlite_ast.specs.declared.Statement.TheVariants as written
use Rattle.sqlite_syntax.specs.declared.statement.Parsed.{Parsed}
use Rattle.sqlite_sql.specs.Term.{Term}
use Rattle.sqlite_schema.specs.declared.command.Command.{Command}
use Rattle.sqlite_schema.specs.declared.program.Program.{Program}
use Rattle.sqlite_schema.specs.declared.schema.Schema.{Schema}
use Rattle.sqlite_schema.specs.declared.schema.Table.{Table}
use Rattle.sqlite_resolve.specs.declared.compiled.Compiled.{Compiled}
use Rattle.sqlite_resolve.specs.Compile.{compiled, first, insert, planned, small, with_command}
use Rattle.sqlite_resolve.specs.Lowering.{Checked, and_then}
use Rattle.sqlite_resolve.specs.Scope.{Name}
use Rattle.gaz_sql_facts.specs.Copies.{copying}
use Rattle.gaz_sql_facts.specs.Laws.{CopiesStandAlone}
use Rattle.gaz_sql_facts.specs.Meaning.{Means, asking, copied}
use Rattle.gaz_sql_facts.specs.Simple.{is_copy_read, is_copy_statement, is_simple_copy, is_simple_query}
use Rattle.gaz_sql_facts.specs.Standing.{StandsAt, together}
use Rattle.gaz_sql_facts.proofs.CopyMoves.{copy_moves}
use Rattle.gaz_sql_facts.proofs.Looks.{as_read}
use Rattle.gaz_sql_facts.proofs.Parts.{empty_is}
use Rattle.gaz_sql_facts.proofs.TextMoves.{Plan, abort_is, formats_are, formats_were, inserting, is_as_read, planned_insert, planning}
use Rattle.gaz_sql_facts.proofs.Typing.{same_ok, taken}

-- where one command is read as another, so it is planned
by_command : (formats : List Name) (old new : Checked Command) (c d : Command) → (old ≡ Ok c → new ≡ Ok d) → (plan : Plan) → plan.1.0 ≡ c → planning formats old ≡ Ok plan → planning formats new ≡ Ok (plan.0, (d, plan.1.1))
by_command formats (Ok b) new c d moves plan is h =
    let same : (formats, (b, None)) ≡ plan = same_ok h in
    let read : b ≡ c = ap (λ (x : Plan). x.1.0) same ∙ is in
    (λ i. planning formats (moves (λ j. Ok (read j)) i)) ∙ ap {B = Checked Plan} (λ (x : Plan). Ok (x.0, (d, x.1.1))) same
by_command formats (Err e) new c d moves plan is h = absurd (cc)

module _ (s s' : Schema) (place place' at at' : ℕ) (source from target into : Table) (reads : StandsAt s place (as_read source from)) (reads' : StandsAt s' place' source)
    (writes : StandsAt s at (as_read target into)) (writes' : StandsAt s' at' target) (bare : s'.views ≡ []) (project : List Term) (collations : List Collation) where
  abbrev was : Command
  was = copied at' source.tree project collations

  abbrev now : Command
  now = copied at from.tree project collations

  abbrev old_program : Program
  old_program = asking (copying source.tree project collations)

  module _ (p : Parsed) (plan : Plan) (one : plan.1.0 ≡ was) where
    by_rows : (columns : List Name) (all : Rows) → p.statement ≡ written.Insert conflict.Abort target.name columns all [] [] → is_simple_query source all ≡ true → planned s' p ≡ Ok plan → planned s p ≡ Ok (plan.0, (now, plan.1.1))
    by_rows columns (rows.Select sel) is simple h =
        let formats = p.formats ++ target.stamps.formats in
        let base = small p.names + small formats in
        planned_insert s p target.name columns (rows.Select sel) is
        ∙ ap (inserting s p target.name columns (rows.Select sel)) (formats_are s s' at at' target into writes writes' bare)
        ∙ by_command formats (insert s' base target.name columns (rows.Select sel)) (insert s base target.name columns (rows.Select sel)) was now
        (copy_moves s s' place place' at at' source from target into reads reads' writes writes' bare sel simple base columns old_program refl refl) plan one
        (sym (planned_insert s' p target.name columns (rows.Select sel) is ∙ ap (inserting s' p target.name columns (rows.Select sel)) (formats_were s s' at at' target into writes writes' bare)) ∙ h)
    by_rows columns all is simple h = absurd (cc)

    by_statement : (st : Statement) → p.statement ≡ st → is_copy_statement source target st ≡ true → planned s' p ≡ Ok plan → planned s p ≡ Ok (plan.0, (now, plan.1.1))
    by_statement (written.Insert way name columns all clauses shown) is h good =
        let named = and_parts _ _ h in
        let aborts = and_parts _ _ named.1 in
        let simple = and_parts _ _ aborts.1 in
        let rest = and_parts _ _ simple.1 in
        let plain : p.statement ≡ written.Insert conflict.Abort target.name columns all [] [] =
        is ∙ (λ i. written.Insert (abort_is way aborts.0 i) ((bytes_eq-Decides name target.name).0 named.0 i) columns all (empty_is clauses rest.0 i) (empty_is shown rest.1 i)) in
        by_rows columns all plain simple.0 good
    by_statement st is h good = absurd (cc)

  text_copies : (text : List ℕ) → is_simple_copy source target text ≡ true → Means s' text was → Means s text now
  unfolding compiled
  text_copies text simple means =
      let p = taken (first text) _ means.read means.is in
      let plan = taken (planned s' p.0) _ means.read p.2 in
      let same : with_command p.0 plan.0 ≡ means.read = same_ok plan.2 in
      let commands : plan.0.1.0 ≡ was = ap (λ (c : Compiled). c.command) same ∙ means.command_is in
      let good : is_copy_statement source target p.0.statement ≡ true = subst (λ (r : Checked Parsed). is_copy_read source target r ≡ true) p.1 simple in
      let moved = by_statement p.0 plan.0 commands p.0.statement refl good plan.1 in
      record {
        read = with_command p.0 (plan.0.0, (now, plan.0.1.1));
        is = (λ i. and_then (p.1 i) (λ p. and_then (planned s p) (λ plan. Ok (with_command p plan)))) ∙ (λ i. and_then (moved i) (λ plan. Ok (with_command p.0 plan)));
        command_is = refl;
        no_rows = ap (λ (c : Compiled). c.returning) same ∙ means.no_rows;
        no_time = ap (λ (c : Compiled). c.formats) same ∙ means.no_time;
      }

pub copies_stand_alone : CopiesStandAlone
copies_stand_alone source target text project collations first second simple means schema place at from into reads_from stands_from reads_into stands_into =
    text_copies schema (together source target) place 0 at 1 source from target into (subst (StandsAt schema place) (is_as_read source from reads_from) stands_from) first
    (subst (StandsAt schema at) (is_as_read target into reads_into) stands_into) second refl project collations text simple means
