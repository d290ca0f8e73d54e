-- Why a query over one table fails.
use Rattle.std.proofs.Common.{◌≡◌, inl, inr, ◌∙◌, ℕ, Bool, true, false, nat_le, ◌≤◌, ◌^◌, pos, map, ◌&&◌, ◌==◌, List, [], ◌∷◌, length, Some, Ok, Err, refl, sym, ap, subst, subst₂, append-nil, eqb-true}
use Rattle.std.proofs.lemmas.Bool.{and_parts, leb-true}
use Rattle.sqlite_syntax.specs.declared.statement.Parsed.{Parsed}
use Rattle.sqlite_schema.specs.declared.schema.Column.{Column}
use Rattle.sqlite_schema.specs.declared.schema.Kind.TheVariants as kind
use Rattle.sqlite_schema.specs.declared.schema.Schema.{Schema}
use Rattle.sqlite_schema.specs.declared.schema.Table.{Table}
use Rattle.sqlite_value.specs.declared.keys.Key.{Key}
use Rattle.sqlite_sql.specs.Program.{ProgramOverflows}
use Rattle.sqlite_sql.specs.Query.{Query}
use Rattle.sqlite_trees.specs.Tree.{Trees}
use Rattle.sqlite_trees.specs.declared.error.StoreError.{StoreError}
use Rattle.sqlite_trees.specs.declared.error.StoreError.TheVariants.{OutOfMemory, Io, Corrupt, Full, Broken, Unstorable}
use Rattle.sqlite_typing.specs.Types.{accepts_after, accepts_over, class_in, column_class, is_count, row_classes}
use Rattle.sqlite_resolve.specs.declared.compiled.Compiled.{Compiled}
use Rattle.sqlite_resolve.specs.Compile.{compiled, first, planned, with_command}
use Rattle.sqlite_resolve.specs.Lowering.{Checked}
use Rattle.sqlite.specs.Order.{Row}
use Rattle.sqlite.specs.Term.{Term, lit}
use Rattle.sqlite.specs.declared.types.Value.TheVariants.{Int}
use Rattle.sqlite.specs.Clock.{timed}
use Rattle.sqlite.specs.Command.TheVariants.{Select}
use Rattle.sqlite.specs.Effect.{RefusesToRead}
use Rattle.sqlite.specs.Listing.{IsSourceOf, reads_listing, understood}
use Rattle.sqlite.specs.State.{FailsToQuery, FailsToShow, Fails, HasCause, IsNoStatement, IsNotRun, IsStatement, State, store_error}
use Rattle.sqlite.specs.declared.error.Error.{Error}
use Rattle.sqlite.proofs.Callers.{IsPlain, command_of}
use Rattle.gaz_sql_facts.specs.Meaning.{OnTable}
use Rattle.gaz_sql_facts.specs.Reasons.{HasReason}
use Rattle.gaz_sql_facts.specs.Selects.{selecting}
use Rattle.gaz_sql_facts.specs.Standing.{StandsAt, alone}
use Rattle.gaz_sql_facts.proofs.Sound.{stands_alone}
use Rattle.gaz_sql_facts.proofs.Texts.{IsSelect}
use Rattle.gaz_sql_facts.proofs.Typing.{same_ok, taken}

-- ---- a text, whatever the schema

-- it is one statement that asks for so many values
abbrev pub asks_read : ℕ → ℕ → Checked Parsed → Bool
asks_read n size (Ok p) = nat_le size p.tail && (length p.names == n)
asks_read n size (Err e) = false

abbrev pub asks : ℕ → List ℕ → Bool
asks n sql = asks_read n (length sql) (first sql)

-- what it is compiled to is one statement, with so many parameters
module _ (schema : Schema) (sql : List ℕ) (n : ℕ) (asked : asks n sql ≡ true) (c : Compiled) (is : compiled schema sql ≡ Ok c) where
  asked_of : (length sql ≤ c.tail) × (length c.names ≡ n)
  unfolding compiled
  asked_of =
      let p = taken (first sql) _ c is in
      let plan = taken (planned schema p.0) _ c p.2 in
      let same : with_command p.0 plan.0 ≡ c = same_ok plan.2 in
      let parts : (nat_le (length sql) p.0.tail ≡ true) × ((length p.0.names == n) ≡ true) = and_parts _ _ (subst (λ (r : Checked Parsed). asks_read n (length sql) r ≡ true) p.1 asked) in
      let whole : length sql ≤ p.0.tail = leb-true _ _ parts.0 in
      (subst (λ (k : Compiled). length sql ≤ k.tail) same whole, subst (λ (k : Compiled). length k.names ≡ n) same (eqb-true _ _ parts.1))

-- ---- the values that are given

-- they are of types that a query over the one table takes
abbrev takes : Table → OnTable → Row → Bool
takes table (OnTable.Selects tests project order limit names) params = accepts_over (alone table) [] (selecting table.tree tests project order limit) params
takes table other params = false

-- a query of a table takes these values, as many as it asks for
pub record Suits (table : Table) (sql : List ℕ) (on : OnTable) (params : Row) : Type 0 where
  pub low : nat_le (2 ^ 31) table.tree ≡ false
  pub asked : asks (length params) sql ≡ true
  pub typed : takes table on params ≡ true

module _ (schema : Schema) (at : ℕ) (table : Table) (stands : StandsAt schema at table) (tests project : List Term) (order : List (Term × Key)) (limit : Term) (params : Row) where
  abbrev query : Query
  query = selecting table.tree tests project order limit

  typed_by : accepts_over schema [] query params ≡ (accepts_after params query (Some (row_classes table ∷ [])) && (is_count params limit && is_count params query.offset))
  typed_by = rw (stands.stored, stands.by_tree) refl

-- wherever a table stands that has the same columns
typed_here : (schema : Schema) (at : ℕ) (like table : Table) → StandsAt schema at table → table.columns ≡ like.columns → (sql : List ℕ) (tests project : List Term) (order : List (Term × Key)) (limit : Term) (names : List (List ℕ))
    (params : Row) → Suits like sql (OnTable.Selects tests project order limit names) params → accepts_over schema [] (selecting table.tree tests project order limit) params ≡ true
typed_here schema at like table stands same sql tests project order limit names params suits =
    typed_by schema at table stands tests project order limit params
    ∙ ap (λ (cs : List Column). accepts_after params (selecting 0 tests project order limit) (Some ((column_class kind.Integer ∷ map class_in cs) ∷ [])) && (is_count params limit && is_count params (lit (Int (pos 0))))) same
    ∙ sym (typed_by (alone like) 0 like (stands_alone like suits.low) tests project order limit params)
    ∙ suits.typed

-- ---- what came of a query

-- no SUM overflows where none is asked for
no_overflow : (db : Trees) (tree : ℕ) (tests project : List Term) (order : List (Term × Key)) (limit : Term) (params : Row) → ¬ ProgramOverflows db params [] [] (selecting tree tests project order limit)
no_overflow db tree tests project order limit params (inl none) = none
no_overflow db tree tests project order limit params (inr more) = more.4

by_cause : (old new : State) (e : Error) → Fails old new ⊥ e → HasReason old new e
by_cause old new e fails = by fails.0 fails.1 fails.2
  where
    by : (cause : StoreError) → e ≡ store_error cause → HasCause old new ⊥ cause → HasReason old new e
    by OutOfMemory is why = inl is
    by Io is why = inr (inl why)
    by Corrupt is why = inr (inl why)
    by Full is why = inr (inl why)
    by Broken is why = inr (inr (inl why))
    by Unstorable is why = absurd why

-- a query whose text takes the values that it is given, and asks for no SUM
module _ (schema : Schema) (sql : List ℕ) (names : List (List ℕ)) (query : Query) (text : IsSelect schema sql query names) (params : Row) (old new : State) (has : old.now.schema ≡ schema)
    (asked : asks (length params) sql ≡ true) (typed : accepts_over schema [] query params ≡ true) (calm : ¬ ProgramOverflows old.now.trees params [] [] query) where
  plain_now : IsPlain (understood old.now.schema sql)
  plain_now = subst (λ s. IsPlain (understood s sql)) (sym has) text.plain

  compiled_is : (c : Compiled) → understood old.now.schema sql ≡ Ok c → compiled schema sql ≡ Ok c
  unfolding understood
  compiled_is c is = rw text.unlisted at (subst (λ s. understood s sql ≡ Ok c) has is)

  asked_now : (c : Compiled) → understood old.now.schema sql ≡ Ok c → (length sql ≤ c.tail) × (length c.names ≡ length params)
  asked_now c is = asked_of schema sql (length params) asked c (compiled_is c is)

  is_statement : (e : Error) → ¬ IsNoStatement old sql params e
  is_statement e (inl (fault, is, rest)) = subst IsPlain is plain_now
  is_statement e (inr (c, is, inl more)) = more.0 (asked_now c is).0
  is_statement e (inr (c, is, inr (inl other))) = other.0 (sym (asked_now c is).1)
  is_statement e (inr (c, is, inr (inr clock))) = clock.0 (subst IsPlain is plain_now).1

  by_run : (e : Error) (c : Compiled) (it : IsStatement old sql params c) → FailsToShow old new sql c (timed params c.formats it.now) e c.returning → HasReason old new e
  by_run e c it fails =
      let bare = subst IsPlain it.is plain_now in
      let shown = rw (bare.0, bare.1, append-nil params) at fails in
      let unlisted : reads_listing old.now.schema sql ≡ false = ap (λ s. reads_listing s sql) has ∙ text.unlisted in
      let db : shown.0 ≡ old.now = subst (λ b. IsSourceOf b old.now shown.0) unlisted shown.1 in
      let command : c.command ≡ Select (record { lets = []; body = query }) names = ap command_of (sym it.is ∙ ap (λ s. understood s sql) has) ∙ text.is in
      by_refusal e (subst₂ (λ k d. RefusesToRead old.step_limit k d params e) command db shown.2)
    where
      by_refusal : (e : Error) → RefusesToRead old.step_limit (Select (record { lets = []; body = query }) names) old.now params e → HasReason old new e
      by_refusal e (inl (is, refused)) = absurd (let fine : accepts_over old.now.schema [] query params ≡ true = subst (λ s. accepts_over s [] query params ≡ true) (sym has) typed in cc)
      by_refusal e (inr (inl (is, over))) = absurd (calm over)
      by_refusal e (inr (inr (is, limited))) = inr (inr (inr limited))

  pub query_reason : (e : Error) → FailsToQuery sql params old new e → HasReason old new e
  unfolding FailsToQuery IsNotRun
  query_reason e (inl (inl none)) = absurd (is_statement e none.0)
  query_reason e (inl (inr fails)) = by_cause old new e fails
  query_reason e (inr run) = by_run e run.0 run.1 run.2

-- a query over a table that takes the values that it is given, wherever the table stands
pub reason_over : (schema : Schema) (at : ℕ) (like table : Table) → StandsAt schema at table → table.columns ≡ like.columns → (sql : List ℕ) (tests project : List Term) (order : List (Term × Key)) (limit : Term) (names : List (List ℕ))
    → IsSelect schema sql (selecting table.tree tests project order limit) names → (params : Row) → Suits like sql (OnTable.Selects tests project order limit names) params
    → (old new : State) → old.now.schema ≡ schema → (e : Error) → FailsToQuery sql params old new e → HasReason old new e
reason_over schema at like table stands same sql tests project order limit names text params suits old new has =
    query_reason schema sql names _ text params old new has suits.asked (typed_here schema at like table stands same sql tests project order limit names params suits)
    (no_overflow old.now.trees table.tree tests project order limit params)
