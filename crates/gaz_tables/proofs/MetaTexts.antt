-- What the texts over `meta` mean and do.
use Rattle.std.proofs.Common.{◌≡◌, ◌⊎◌, inl, inr, ℕ, pos, List, [], ◌∷◌, codes, Some, Ok, Err, Result, IfOk, OnOk, Vec, true≢false, refl, ap, sym, subst, ◌∙◌}
use Rattle.std.specs.Prelude.{IfErr, IsSome, IsTrue}
use Rattle.std.proofs.lemmas.Result.{IfErr-weaker}
use Rattle.std.specs.declared.alloc.Global.{Global}
use Rattle.sqlite_tied.specs.Compute.{everything}
use Rattle.sqlite_rules.specs.Lists.{Has}
use Rattle.sqlite_rules.proofs.ListLemmas.{all_has}
use Rattle.sqlite_rules.proofs.TableLemmas.{int_is}
use Rattle.sqlite_sql.specs.declared.ops.CompareOp.TheVariants.{Eq}
use Rattle.sqlite_trees.specs.Tree.{rowid}
use Rattle.sqlite.specs.Cast.{cast, cast_all}
use Rattle.sqlite.specs.Kind.TheVariants as kind
use Rattle.sqlite.specs.declared.error.Error.{Error}
use Rattle.sqlite.specs.declared.types.Value.TheVariants.{Null, Int, Text}
use Rattle.sqlite.specs.Edit.{id_in}
use Rattle.sqlite.specs.Effect.{Database}
use Rattle.sqlite.specs.Order.{Row}
use Rattle.sqlite.specs.State.{State, ExecutesInside, FailsToQuery, IsTooLate}
use Rattle.sqlite.proofs.Callers.{IsPlain}
use Rattle.sqlite_schema.specs.declared.schema.Schema.{Schema}
use Rattle.sqlite.specs.Term.{Term, lit, col}
use Rattle.sqlite.specs.View.{is_int}
use Rattle.gaz_sql_facts.specs.Changes.{InPlace}
use Rattle.gaz_sql_facts.specs.Meaning.{MeansAnywhere, OnTable}
use Rattle.gaz_sql_facts.specs.Reasons.{HasReason}
use Rattle.gaz_sql_facts.specs.Selects.{selecting, equals, Selects}
use Rattle.gaz_sql_facts.proofs.Reasons.{Suits, reason_over}
use Rattle.gaz_sql_facts.proofs.Free.{free}
use Rattle.gaz_sql_facts.proofs.Inserts.{inserted}
use Rattle.gaz_tables.specs.Shows.{IsAnyRow}
use Rattle.gaz_tables.proofs.Shown.{answered, shows_some}
use Rattle.gaz_tables.proofs.Standing.{apart, changes_table, command_here, means_here, rest, stands, table}
use Rattle.gaz_tables.proofs.Tests.{Test, SuitsAll, means, met}
use Rattle.gaz_sql_facts.proofs.TextMoves.{anywhere}
use Rattle.gaz_sql_facts.proofs.Texts.{IsSelect, is_select}
use Rattle.gaz_sql_facts.proofs.Typed.{cast_null, cast_int}
use Rattle.gaz_sql_facts.proofs.Updates.{updated, changed_to}
use Rattle.gaz_tables.specs.Metas.{AddsMeta, FindsTwo, Rewrites, id_of, rows_text}
use Rattle.gaz_tables.specs.Schema.{meta_columns, meta}
use Rattle.gaz_tables.specs.Stores.{ChangesTable, HasTables}
use Rattle.gaz_tables.specs.Tables.{HasTable, rows_of, tree_of}
use Rattle.gaz_tables.specs.Texts.{insert_meta_text as insert_text, rewrite_meta_text as rewrite_text}

abbrev pub rows_terms : List Term
rows_terms = col 1 0 ∷ col 1 2 ∷ col 1 3 ∷ []

abbrev pub rows_on : OnTable
rows_on = OnTable.Selects [] rows_terms [] (lit (Int (pos 2))) (codes "id" ∷ codes "number" ∷ codes "register" ∷ [])

pub rows_anywhere : MeansAnywhere meta rows_text rows_on
unfolding everything
rows_anywhere = anywhere meta rows_text rows_on refl refl (record { read = _; is = refl; command_is = refl; no_rows = refl; no_time = refl })

pub rows_here : (db : Database) → HasTable meta db.schema → IsSelect db.schema rows_text (selecting (tree_of meta db.schema) [] rows_terms [] (lit (Int (pos 2)))) (codes "id" ∷ codes "number" ∷ codes "register" ∷ [])
rows_here db has = is_select db.schema rows_text _ _ (means_here meta db.schema has rows_text rows_on rows_anywhere)

rows_suits : Suits meta rows_text rows_on []
unfolding everything
rows_suits = record { low = refl; asked = refl; typed = refl }

pub rows_reason : (old new : State) (r : Result (Vec Row Global) Error) → HasTable meta old.now.schema → IfErr r (λ e. FailsToQuery rows_text [] old new e ⊎ IsTooLate rows_text [] old new e) → IfErr r (HasReason old new)
rows_reason old new r has fails = IfErr-weaker r (λ e. FailsToQuery rows_text [] old new e ⊎ IsTooLate rows_text [] old new e) (HasReason old new) by_sort fails
  where
    s : Schema
    s = old.now.schema

    by_sort : (e : Error) → FailsToQuery rows_text [] old new e ⊎ IsTooLate rows_text [] old new e → HasReason old new e
    by_sort e (inl fails) =
        reason_over s has.place meta (table meta s has) (stands meta s has) refl rows_text [] rows_terms [] (lit (Int (pos 2))) (codes "id" ∷ codes "number" ∷ codes "register" ∷ []) (rows_here old.now has) [] rows_suits old new refl e fails
    -- a query writes nothing, for which it could be too late
    by_sort e (inr late) = absurd (true≢false (sym (subst IsSome (subst IsPlain late.1.is (rows_here old.now has).plain).0 late.2)))

pub rows_found : (db : Database) (r : Result (Vec Row Global) Error) → IfOk r (λ rows. Selects [] rows_terms [] (Some 2) (rows_of db meta) [] rows.items) → IfOk r (λ rows. FindsTwo (rows_of db meta) rows.items)
rows_found db r h = answered r (λ answer s. shows_some [] rows_terms [] (rows_of db meta) IsAnyRow (λ r there p. tt) (λ r there fits. refl) 2 answer s) h

abbrev pub insert_terms : List Term
insert_terms = lit (Int (pos 1)) ∷ lit Null ∷ col 0 0 ∷ col 0 1 ∷ []

abbrev pub insert_on : OnTable
insert_on = OnTable.Inserts insert_terms 4

pub insert_anywhere : MeansAnywhere meta insert_text insert_on
unfolding everything
insert_anywhere = anywhere meta insert_text insert_on refl refl (record { read = _; is = refl; command_is = refl; no_rows = refl; no_time = refl })

abbrev pub first_tests : List Term
first_tests = equals (col 1 0) (lit (Int (pos 1))) ∷ []

abbrev pub rewrite_terms : List Term
rewrite_terms = col 1 0 ∷ col 1 0 ∷ lit Null ∷ col 0 0 ∷ col 0 1 ∷ []

abbrev pub rewrite_on : OnTable
rewrite_on = OnTable.Updates first_tests rewrite_terms

pub rewrite_anywhere : MeansAnywhere meta rewrite_text rewrite_on
unfolding everything
rewrite_anywhere = anywhere meta rewrite_text rewrite_on refl refl (record { read = _; is = refl; command_is = refl; no_rows = refl; no_time = refl })

kept_values : (number : ℕ) (register : List ℕ) → cast_all meta_columns (Null ∷ Int (pos number) ∷ Text register ∷ []) ≡ Null ∷ Int (pos number) ∷ Text register ∷ []
kept_values number register = ap (λ v. v ∷ cast kind.Integer (Int (pos number)) ∷ Text register ∷ []) cast_null ∙ ap (λ v. Null ∷ v ∷ Text register ∷ []) (cast_int (pos number))

module _ (old new : State) (has : HasTables old.now) (number : ℕ) (register : List ℕ) where
  abbrev pub meta_params : Row
  meta_params = Int (pos number) ∷ Text register ∷ []

  abbrev values : Row
  values = Null ∷ Int (pos number) ∷ Text register ∷ []

  pub insert_done : (r : Result ℕ Error) → ExecutesInside 0 insert_text meta_params old new r → OnOk r (ChangesTable meta (AddsMeta number register) old.now new.now × InPlace old new)
  insert_done (Err e) h = tt
  insert_done (Ok count) h =
      let s = old.now.schema in
      let t = has.there.metas in
      let it = inserted s t.place (rest meta s t) (Some 0) meta.name [] meta_columns insert_terms 4 meta_params (Int (pos 1)) values (stands meta s t).listed refl
      (ap (λ v. v ∷ cast_all meta_columns values) (cast_int (pos 1)) ∙ ap (λ vs. Int (pos 1) ∷ vs) (kept_values number register)) insert_text (command_here meta s t insert_text insert_on insert_anywhere) old new refl count h.0 in
      (changes_table meta (AddsMeta number register) old.now new.now it.0, it.1)

  abbrev wanted : List Test
  wanted = (0, Eq, Int (pos 1)) ∷ []

  suits : (r : Row) → Has (rows_of old.now meta) r → SuitsAll wanted r
  suits r there = let e = int_is (rowid r) (all_has (λ x. IsTrue (is_int (rowid x))) (rows_of old.now meta) r has.metas_shaped.1 there) in ((id_in (rowid r), e), tt)

  pub rewrite_done : (r : Result ℕ Error) → ExecutesInside 0 rewrite_text meta_params old new r → OnOk r (ChangesTable meta (Rewrites number register) old.now new.now × InPlace old new)
  rewrite_done (Err e) h = tt
  rewrite_done (Ok count) h =
      let s = old.now.schema in
      let t = has.there.metas in
      let it = updated s t.place (rest meta s t) (Some 0) meta.name [] meta_columns first_tests rewrite_terms meta_params (λ r. values) (stands meta s t).listed (λ olds news keys. free s keys (tree_of meta s) olds news (apart meta s t)) (λ r. refl) (λ _ _ _ _ _. kept_values number register)
      rewrite_text (command_here meta s t rewrite_text rewrite_on rewrite_anywhere) old new refl count has.sound has.metas_shaped h.0 in
      (changes_table meta (Rewrites number register) old.now new.now (changed_to (tree_of meta s) (λ r. id_of r ∷ values) old.now new.now (λ r there p. (means wanted r refl (suits r there) p).0) (λ r there fits. met wanted r (suits r there) (fits, tt)) it.0), it.1)
