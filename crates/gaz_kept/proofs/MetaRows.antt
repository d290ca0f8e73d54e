-- What the rows of `meta` tell, from what is shown of them.
use Rattle.std.proofs.Common.{◌≡◌, ◌≢◌, ◌≤◌, ◌∙◌, ◌&&◌, inl, inr, ℕ, pos, Bool, true, false, not, codes, List, [], ◌∷◌, filter, map, take, Ok, Err, Result, IfOk, Vec, IsPermutation, arith, refl, sym, ap, subst}
use Rattle.std.specs.Prelude.{IfErr, IsSome}
use Rattle.std.specs.declared.alloc.Global.{Global}
use Rattle.std.proofs.lemmas.List.Sorted.{IsPermutation-sym}
use Rattle.sqlite.proofs.Callers.{one_permutation}
use Rattle.sqlite.specs.Effect.{Database}
use Rattle.sqlite.specs.Held.{Held, state}
use Rattle.sqlite.specs.Order.{Row, column}
use Rattle.sqlite.specs.Schema.{Schema}
use Rattle.sqlite.specs.State.{Shown}
use Rattle.sqlite.specs.Table.{Table}
use Rattle.std.specs.List.{list_any}
use Rattle.gaz_sql_facts.specs.Reasons.{HasReason}
use Rattle.gaz_sql_facts.proofs.Texts.{answers}
use Rattle.gaz_tables.proofs.Standing.{listed, table}
use Rattle.gaz_tables.proofs.MetaTexts.{rows_found, rows_here}
use Rattle.sqlite.specs.declared.error.Error.{Error}
use Rattle.sqlite.specs.declared.types.Value.TheVariants.{Int, Text}
use Rattle.sqlite_rules.specs.Lists.{Has}
use Rattle.sqlite_rules.proofs.ListLemmas.{some_from, some_has}
use Rattle.std.proofs.lemmas.Bool.{and_from, and_parts, cases_Bool, or_left, or_right}
use Rattle.sqlite_schema.specs.Names.{same_name}
use Rattle.sqlite_trees.specs.declared.store.Store.{Ghosts}
use Rattle.gaz_tables.specs.Metas.{FindsTwo, meta_row, meta_shown, rows_text}
use Rattle.gaz_tables.specs.Schema.{meta, received, version, version2}
use Rattle.gaz_tables.specs.Stores.{HasTables}
use Rattle.gaz_tables.specs.Tables.{AreThere, HasTable, IsListed, rows_of}
use Rattle.gaz_kept.specs.Numbered.{HasMeta, IsAnswer, IsJudged, IsNumbered, IsOne, IsTold}
use Rattle.gaz_kept.specs.Opening.{CreateOpens, has_all, has_any, has_name, is_like, schema_number}
use Rattle.gaz_kept.specs.OpeningFirst.{has_first}
use Rattle.gaz_kept.proofs.Rewritten.{alone}
use Rattle.gaz_kept.specs.declared.refusal.StoreRefusal.{StoreRefusal}
use Rattle.gaz_kept.specs.declared.refusal.StoreRefusal.TheVariants.{BadSchema, OtherRegister, Fault}

-- a table that stands has its name and its columns
has_version2 : (schema : Schema) → HasTable version2 schema → list_any (is_like version2) schema.tables ≡ true
unfolding same_name
has_version2 schema has = some_from (is_like version2) schema.tables (table version2 schema has) (listed version2 schema has) refl

pub has_received : (schema : Schema) → HasTable received schema → list_any (is_like received) schema.tables ≡ true
unfolding same_name
has_received schema has = some_from (is_like received) schema.tables (table received schema has) (listed received schema has) refl

pub has_meta : (schema : Schema) → HasTable meta schema → list_any (is_like meta) schema.tables ≡ true
unfolding same_name
has_meta schema has = some_from (is_like meta) schema.tables (table meta schema has) (listed meta schema has) refl

-- so has one that is listed
has_version : (schema : Schema) → IsListed version schema → list_any (is_like version) schema.tables ≡ true
unfolding same_name
has_version schema is =
    some_from (is_like version) schema.tables is.table is.there (ap (λ (t : Table). is_like version t) (λ i. record is.table { name = is.name i; columns = is.columns i }))

-- so where a store's tables are there, nothing is missing
pub all_found : (schema : Schema) → AreThere schema → has_all schema ≡ true
unfolding has_all
all_found schema has = and_from _ _ (has_version schema has.firsts) (and_from _ _ (has_version2 schema has.versions) (and_from _ _ (has_received schema has.receiveds) (has_meta schema has.metas)))

pub nothing_lacks : (schema : Schema) → AreThere schema → false ≡ has_all schema → ⊥
nothing_lacks schema has lacks = let e : ◌≡◌ {A = Bool} false true = lacks ∙ all_found schema has in absurd (cc)

-- and one has its name
pub any_found : (schema : Schema) → AreThere schema → has_any schema ≡ true
unfolding has_any same_name
any_found schema has = or_right _ _ (or_left _ _ (or_left _ _ (some_from (λ t. same_name t.name (codes "version2")) schema.tables (table version2 schema has.versions) (listed version2 schema has.versions) refl)))

-- no database has both
pub not_both : (schema : Schema) → has_all schema ≡ true → has_first schema ≡ true → ⊥
unfolding has_all has_first
not_both schema all first =
    let second = and_parts _ _ (and_parts _ _ all).1 in
    let t = some_has (is_like version2) schema.tables second.0 in
    let named = some_from (λ u. same_name u.name (codes "version2")) schema.tables t.0 t.1 (and_parts _ _ t.2).0 in
    let there : has_name (codes "version2") schema ≡ true = or_left _ _ named in
    let at = λ (like : Table). list_any (is_like like) schema.tables in
    let alone = not (has_name (codes "version2") schema) in
    let behind = (and_parts (at version) (at received && (at meta && alone)) first).1 in
    let none = (and_parts (at meta) alone (and_parts (at received) (at meta && alone) behind).1).1 in
    absurd (let clash : ◌≡◌ {A = Bool} false true = ap not (sym there) ∙ none in cc)

pub not_store : (schema : Schema) → AreThere schema → has_first schema ≡ true → ⊥
not_store schema has first = not_both schema (all_found schema has) first

pub none_first : (schema : Schema) → AreThere schema → has_first schema ≡ false
none_first schema has = elim (cases_Bool (has_first schema)) [
  | inl is ↦ absurd (not_store schema has is)
  | inr not ↦ not
]

-- ---- what is answered

-- `transaction` does nothing but begin
pub answered : {S : Type 0} (g : Ghosts S) (before begun after : Held S) → begun ≡ record before { in_transaction = true } → (r : Result (Vec Row Global) Error)
    → IfOk r (λ rows. Shown rows_text [] (state g begun) (state g after) rows.items) → IfOk r (λ rows. IsAnswer g before rows.items)
answered g before begun after same (Err e) h = tt
answered g before begun after same (Ok rows) h = (after, subst (λ b. Shown rows_text [] (state g b) (state g after) rows.items) same h)

-- `meta` stands among the tables of schema 2 and of schema 1
meta_there : (db : Database) → HasMeta db → HasTable meta db.schema
meta_there db (inl tables) = tables.there.metas
meta_there db (inr first) = first.there.metas

-- what is found there, once a transaction is begun
pub found : {S : Type 0} (g : Ghosts S) (before begun after : Held S) → begun ≡ record before { in_transaction = true } → (r : Result (Vec Row Global) Error)
    → IfOk r (λ rows. Shown rows_text [] (state g begun) (state g after) rows.items)
    → HasMeta (state g before).now → IfOk r (λ rows. FindsTwo (rows_of (state g before).now meta) rows.items)
found g before begun after same (Err e) shown has = tt
found g before begun after same (Ok rows) shown has =
    let now : (state g begun).now ≡ (state g before).now = ap (λ h. (state g h).now) same in
    let there : HasTable meta (state g begun).now.schema = subst (λ (db : Database). HasTable meta db.schema) (sym now) (meta_there (state g before).now has) in
    let all = answers _ _ _ _ _ _ _ _ (rows_here (state g begun).now there) _ (state g begun) (state g after) refl (Ok rows) shown in
    subst (λ (db : Database). FindsTwo (rows_of db meta) rows.items) now (rows_found (state g begun).now (Ok rows) all)

-- a failure there, of a store's tables, has its reason where the transaction began
pub failed : {S : Type 0} (g : Ghosts S) (before begun asked : Held S) (faults : ℕ) → begun ≡ record before { in_transaction = true } → (r : Result (Vec Row Global) Error)
    → (HasTables (state g begun).now → IfErr r (HasReason (state g begun) (state g asked)))
    → (state g asked).faults ≤ faults → HasTables (state g before).now → IfErr r (HasReason (state g before) (record (state g before) { faults = faults }))
failed g before begun asked faults same r reason rolled has = by_result r (reason (subst (λ h. HasTables (state g h).now) (sym same) has))
  where
    by_reason : (e : Error) → HasReason (state g begun) (state g asked) e → HasReason (state g before) (record (state g before) { faults = faults }) e
    by_reason e (inl want) = inl want
    by_reason e (inr (inl more)) =
        let same : (state g begun).faults ≡ (state g before).faults = ap (λ h. (state g h).faults) same in
        inr (inl (omega (arith, more, rolled, same)))
    by_reason e (inr (inr (inl shut))) = inr (inr (inl (sym (ap (λ h. (state g h).is_open) same) ∙ shut)))
    by_reason e (inr (inr (inr limited))) = inr (inr (inr (subst IsSome (ap (λ h. (state g h).step_limit) same) limited)))

    by_result : (r : Result (Vec Row Global) Error) → IfErr r (HasReason (state g begun) (state g asked)) → IfErr r (HasReason (state g before) (record (state g before) { faults = faults }))
    by_result (Ok rows) h = tt
    by_result (Err e) h = by_reason e h

-- ---- what is shown

kept_all : {X : Type 0} (p : X → Bool) (xs : List X) → ((x : X) → Has xs x → p x ≡ true) → filter p xs ≡ xs
kept_all p [] h = refl
kept_all p (x ∷ xs) h = rw (h x (inl refl)) (ap (λ l. x ∷ l) (kept_all p xs (λ y there. h y (inr there))))

module _ (number : ℕ) (rows shown : List Row) (h : FindsTwo rows shown) where
  same : IsPermutation rows h.chosen
  same = subst (λ l. IsPermutation l h.chosen) (kept_all h.picks.test rows (λ r there. h.picks.complete r there tt)) h.picks.same

  one_shown : (r : Row) → rows ≡ r ∷ [] → shown ≡ meta_shown r ∷ []
  one_shown r only = h.shown ∙ ap (λ l. map meta_shown (take 2 l)) (one_permutation r h.chosen (subst (λ l. IsPermutation l h.chosen) only same))

  one_there : (x : Row) → shown ≡ x ∷ [] → (r : Row) × (rows ≡ r ∷ []) × (x ≡ meta_shown r)
  one_there x only = by_chosen h.chosen same (sym h.shown ∙ only)
    where
      by_chosen : (chosen : List Row) → IsPermutation rows chosen → map meta_shown (take 2 chosen) ≡ x ∷ [] → (r : Row) × (rows ≡ r ∷ []) × (x ≡ meta_shown r)
      by_chosen [] p e = absurd (cc)
      by_chosen (c ∷ []) p e = (c, one_permutation c rows (IsPermutation-sym rows (c ∷ []) p), cc)
      by_chosen (c ∷ d ∷ more) p e = absurd (cc)

  numbered : (x : Row) → IsOne number x shown → (r : Row) × IsNumbered number r rows × (x ≡ meta_shown r)
  numbered x one =
      let it = one_there x one.only in
      (it.0, record { only = it.1; id = subst (λ y. column y 0 ≡ Int (pos 1)) it.2 one.id; number_is = subst (λ y. column y 1 ≡ Int (pos number)) it.2 one.number_is }, it.2)

  pub judged : (register : List ℕ) (result : Result (Unit {0}) StoreRefusal) → IsTold number register shown result → IsJudged number register rows result
  judged register (Ok done) told =
      let it = numbered told.0 told.1 in
      (it.0, it.1, subst (λ y. column y 2 ≡ Text register) it.2 told.2)
  judged register (Err OtherRegister) told =
      let it = numbered told.0 told.1 in
      (it.0, it.1, subst (λ y. column y 2 ≢ Text register) it.2 told.2)
  judged register (Err BadSchema) told = λ r n. told (meta_shown r) (record { only = one_shown r n.only; id = n.id; number_is = n.number_is })
  judged register (Err Fault) told = absurd told

-- ---- a new store

pub create_opens : CreateOpens
create_opens register old db new =
    let only : (r : Row) → Has (rows_of db meta) r → r ≡ meta_row schema_number register = λ r there. elim (new.meta_alone.only r there) [ inl is ↦ is | inr none ↦ absurd none ] in
    (meta_row schema_number register, record { only = alone schema_number register (rows_of db meta) new.tables.metas_shaped.0 new.meta_alone.there only; id = refl; number_is = refl }, refl)
