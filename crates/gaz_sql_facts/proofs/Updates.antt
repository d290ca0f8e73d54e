-- What UPDATE .. WHERE makes of a strict table: each row that passes is changed, in place, and all others stay.
use Rattle.std.proofs.Common.{◌≡◌, inl, inr, ℕ, ℤ, List, [], ◌∷◌, map, true, false, not, Some, None, Ok, refl, sym, ap, subst, ◌∙◌}
use Rattle.std.specs.Prelude.{Option, IsTrue, drop, slice_get}
use Rattle.std.specs.List.{list_all}
use Rattle.std.specs.Cmp.{signed_Decides}
use Rattle.std.specs.Ordering.{is_eq}
use Rattle.std.proofs.lemmas.Bool.{and_parts}
use Rattle.sqlite_value.proofs.OrderLemmas.{value_cmp-Int}
use Rattle.sqlite_schema.specs.declared.schema.Column.{Column}
use Rattle.sqlite_schema.specs.declared.schema.Keys.{Keys}
use Rattle.sqlite_schema.specs.declared.program.Program.{Program}
use Rattle.sqlite_trees.specs.declared.store.Shape.TheVariants as shape
use Rattle.sqlite_trees.proofs.TreeLemmas.{IsShaped-put_row, IsShaped-filter}
use Rattle.sqlite_rules.specs.Action.{works}
use Rattle.sqlite_rules.specs.Calls.{ids_of}
use Rattle.sqlite_rules.specs.Edit.{Applies, row_at, taken_by}
use Rattle.sqlite_rules.specs.Lists.{Has}
use Rattle.sqlite_rules.proofs.ListLemmas.{all_has, has_filtered}
use Rattle.sqlite_rules.proofs.PlaceLemmas.{given, row_at_is, left_or_taken}
use Rattle.sqlite_rules.proofs.ProbeLemmas.{has_mapped, mapped_has}
use Rattle.sqlite_rules.proofs.TableLemmas.{int_is, put_all_has, put_all_keeps, put_all_adds, without_all_has}
use Rattle.sqlite.specs.declared.types.Value.TheVariants.{Null, Int}
use Rattle.sqlite.specs.declared.run.Mode.{Mode}
use Rattle.sqlite.specs.Cast.{cast, cast_all, cast_row}
use Rattle.sqlite.specs.Command.TheVariants.{Update}
use Rattle.sqlite.specs.Does.{Tally, Does, OnRows}
use Rattle.sqlite.specs.Edit.{Edit, edit_of, id_in, without_all, put_all, have_rowids}
use Rattle.sqlite.specs.Effect.{Database, IsDatabase}
use Rattle.sqlite.specs.Kind.TheVariants as kind
use Rattle.sqlite.specs.Order.{Row, value_cmp}
use Rattle.sqlite.specs.Rowids.TheVariants.{Given}
use Rattle.sqlite.specs.Rows.{Task, Written}
use Rattle.sqlite.specs.Schema.{Schema}
use Rattle.sqlite.specs.State.{State, Executes, mode_of}
use Rattle.sqlite.specs.Table.{Table}
use Rattle.sqlite.specs.Term.{Term}
use Rattle.sqlite.specs.Tree.{Trees, rowid, has_rowid, put_row, without_rowid}
use Rattle.sqlite.specs.View.{IsShaped, is_int}
use Rattle.sqlite.proofs.Callers.{runs_as, one_step}
use Rattle.gaz_sql_facts.specs.Changes.{IsChanged, Changes, InPlace}
use Rattle.gaz_sql_facts.specs.Selects.{selecting, every, passes, shows, Selects}
use Rattle.gaz_sql_facts.specs.Tables.{keyed_as, is_required, AreOf, cells}
use Rattle.gaz_sql_facts.proofs.Inserts.{went, same_value, others_stay}
use Rattle.gaz_sql_facts.proofs.Selects.{selects, selected, found}
use Rattle.gaz_sql_facts.proofs.Texts.{IsCommand, overlay_none}
use Rattle.gaz_sql_facts.proofs.Typed.{negated, typed, cast_int, kept_by_cast}

pub shaped_left : (ids : List ℤ) (rows : List Row) → IsShaped shape.Table rows → IsShaped shape.Table (without_all rows ids)
shaped_left [] rows h = h
shaped_left (id ∷ ids) rows h = shaped_left ids (without_rowid id rows) (IsShaped-filter shape.Table _ rows h)

pub shaped_put : (news rows : List Row) → have_rowids news ≡ true → IsShaped shape.Table rows → IsShaped shape.Table (put_all rows news)
shaped_put [] rows keyed h = h
shaped_put (n ∷ news) rows keyed h = let parts = and_parts _ _ keyed in shaped_put news (put_row n rows) parts.1 (IsShaped-put_row n rows parts.0 h)

-- a row that is taken out is not there
pub taken_out : (id : ℤ) (ids : List ℤ) (rows : List Row) (x : Row) → Has ids id → Has (without_all rows ids) x → has_rowid id x ≡ false
taken_out id [] rows x h there = absurd h
taken_out id (i ∷ ids) rows x (inl same) there = negated _ (subst (λ k. not (has_rowid k x) ≡ true) (sym same) (has_filtered _ rows x (without_all_has ids (without_rowid i rows) x there)).1)
taken_out id (i ∷ ids) rows x (inr later) there = taken_out id ids (without_rowid i rows) x later there

pub own_rowid : (r : Row) → is_int (rowid r) ≡ true → has_rowid (id_in (rowid r)) r ≡ true
own_rowid r h =
    let e = int_is (rowid r) h in
    subst (λ v. is_eq (value_cmp v (Int (id_in (rowid r)))) ≡ true) (sym e) (ap is_eq (value_cmp-Int (id_in (rowid r)) (id_in (rowid r))) ∙ (signed_Decides (id_in (rowid r)) (id_in (rowid r))).1 refl)

-- the same rows are changed by what says the same of the old ones
pub changed_by : {P Q : Row → Type 0} (old new : List Row) (change : Row → Row) → ((r : Row) → Has old r → P r → Q r) → ((r : Row) → Has old r → Q r → P r) → IsChanged P change old new → IsChanged Q change old new
changed_by old new change f g h = record {
  only = λ r there. elim (h.only r there) [ inl left ↦ inl (left.0, λ q. left.1 (g r left.0 q)) | inr made ↦ inr (made.0, made.1, f made.0 made.1 made.2, made.3) ];
  done = λ s there q. h.done s there (g s there q);
  kept = λ r there not_q. h.kept r there (λ p. not_q (f r there p));
}

-- UPDATE the table at this place SET .. WHERE tests; `set` are a changed row's values
module _ (schema : Schema) (at : ℕ) (other : Table) (key : Option ℕ) (name : List ℕ) (uniques : List (List ℕ)) (columns : List Column) (tests project : List Term) (params : Row) (set : Row → Row)
    (listed : slice_get schema.tables at ≡ Some (keyed_as other key name columns uniques))
    (free : (olds news : List Row) (keys : Keys) → works schema keys 0 other.tree olds news ≡ [])
    (shown : (r : Row) → shows project params r ≡ rowid r ∷ rowid r ∷ set r)
    (kept : (db : Database) → db.schema ≡ schema → IsDatabase db → (r : Row) → Has (db.trees other.tree) r → cast_all columns (set r) ≡ set r) where
  abbrev table : Table
  table = keyed_as other key name columns uniques

  -- whether a row is changed, and what it becomes
  abbrev pub Passes : Row → Type 0
  Passes r = passes tests params r ≡ true

  abbrev pub change : Row → Row
  change r = rowid r ∷ set r

  module _ (db : Database) (has : db.schema ≡ schema) (sound : IsDatabase db) (up : IsShaped shape.Table (db.trees other.tree)) where
    module _ (r : Row) (there : Has (db.trees other.tree) r) where
      rowid_is_int : is_int (rowid r) ≡ true
      rowid_is_int = all_has (λ x. IsTrue (is_int (rowid x))) (db.trees other.tree) r up.1 there

      recast : cast_row table (drop 1 (shows project params r)) ≡ change r
      recast =
          let first : cast kind.Integer (rowid r) ≡ rowid r =
          ap (cast kind.Integer) (int_is (rowid r) rowid_is_int) ∙ cast_int (id_in (rowid r)) ∙ sym (int_is (rowid r) rowid_is_int) in
          let rest : cast_all columns (set r) ≡ set r = kept db has sound r there in
          ap (λ s. cast_row table (drop 1 s)) (shown r) ∙ ap (λ v. v ∷ cast_all columns (set r)) first ∙ ap (λ vs. rowid r ∷ vs) rest

    module _ (rows : List Row) (all : Selects tests project [] None (db.trees other.tree) params rows) where
      abbrev edit : Edit
      edit = edit_of db.trees table (ids_of rows) Given 1 rows

      met : (x : Row) → Has rows x → (r : Row) × Has (db.trees other.tree) r × (passes tests params r ≡ true) × (x ≡ shows project params r)
      met = selected tests project [] (db.trees other.tree) params rows None all

      hit : (r : Row) → Has (db.trees other.tree) r → passes tests params r ≡ true → Has rows (shows project params r)
      hit = found tests project [] (db.trees other.tree) params rows all

      number : (r : Row) → id_in (rowid (shows project params r)) ≡ id_in (rowid r)
      number r = ap (λ x. id_in (rowid x)) (shown r)

      news_are : edit.news ≡ map (λ s. cast_row table (drop 1 s)) rows
      news_are = given _ _

      new_is : (x : Row) → Has edit.news x → (s : Row) × Has (db.trees other.tree) s × Passes s × (x ≡ change s)
      new_is x h =
          let from = has_mapped (λ s. cast_row table (drop 1 s)) rows x (subst (λ l. Has l x) news_are h) in
          let m = met from.0 from.1 in
          (m.0, m.1, m.2, from.2 ∙ ap (λ s. cast_row table (drop 1 s)) m.3 ∙ recast m.0 m.1)

      is_new : (s : Row) → Has (db.trees other.tree) s → Passes s → Has edit.news (change s)
      is_new s h p =
          let made = mapped_has (λ x. cast_row table (drop 1 x)) rows (shows project params s) (hit s h p) in
          subst (λ l. Has l (change s)) (sym news_are) (subst (Has (map (λ x. cast_row table (drop 1 x)) rows)) (recast s h) made)

      passing_goes : (s : Row) → Has (db.trees other.tree) s → Passes s → Has (without_all (db.trees other.tree) (ids_of rows)) s → ⊥
      passing_goes s h p left =
          let id : Has (ids_of rows) (id_in (rowid s)) = subst (Has (ids_of rows)) (number s) (mapped_has (λ x. id_in (rowid x)) rows (shows project params s) (hit s h p)) in
          let out = taken_out (id_in (rowid s)) (ids_of rows) (db.trees other.tree) s id left in
          let own = own_rowid s (rowid_is_int s h) in
          cc

      others_left : (r : Row) → Has (db.trees other.tree) r → ¬ Passes r → Has (without_all (db.trees other.tree) (ids_of rows)) r
      others_left r h not_p = elim (left_or_taken (db.trees other.tree) (ids_of rows) r up.0 h) [
        | inl left ↦ left
        | inr taken ↦
            let id = has_mapped (row_at (db.trees other.tree)) (ids_of rows) r taken in
            let from = has_mapped (λ x. id_in (rowid x)) rows id.0 id.1 in
            let m = met from.0 from.1 in
            let is : id.0 ≡ id_in (rowid m.0) = from.2 ∙ ap (λ x. id_in (rowid x)) m.3 ∙ number m.0 in
            let at_it : row_at (db.trees other.tree) (id_in (rowid m.0)) ≡ m.0 = row_at_is (db.trees other.tree) (id_in (rowid m.0)) m.0 up.0 m.1 (own_rowid m.0 (rowid_is_int m.0 m.1)) in
            let same : r ≡ m.0 = id.2 ∙ ap (row_at (db.trees other.tree)) is ∙ at_it in
            absurd (not_p (subst Passes (sym same) m.2))
      ]

      changed_rows : (keys : Keys) (next : Trees) → Applies schema keys db.trees edit next → IsChanged Passes change (db.trees other.tree) (next other.tree)
      changed_rows keys next a = record {
        only = λ r h. elim (put_all_has edit.news (without_all (db.trees other.tree) (ids_of rows)) r (subst (λ l. Has l r) a.rows h)) [
          | inl new ↦ inr (new_is r new)
          | inr left ↦ let was = without_all_has (ids_of rows) (db.trees other.tree) r left in inl (was, λ p. passing_goes r was p left)
        ];
        done = λ s h p. subst (λ l. Has l (change s)) (sym a.rows) (put_all_adds edit.news _ _ a.fresh (is_new s h p));
        kept = λ r h not_p. subst (λ l. Has l r) (sym a.rows) (put_all_keeps edit.news _ r a.fresh (others_left r h not_p));
      }

    pub updates : (limit : Option ℕ) (mode : Mode) (after : Database) (text : List ℕ) (tally : Tally) → IsDatabase after
        → Does limit mode params db text None (Update at (record { lets = []; body = selecting other.tree tests project [] every })) (Ok (tally, after)) → Changes other.tree (IsChanged Passes change) db after
    updates limit mode after text tally done_sound h =
        let task : Task = record { limit = limit; keys = mode.keys; schema = schema; table = table; params = params } in
        let q : Program = record { lets = []; body = selecting other.tree tests project [] every } in
        let bare : OnRows task mode None (Update at q) db.trees (Ok (tally, after)) = rw listed at (subst (λ s. Does limit mode params (record db { schema = s }) text None (Update at q) (Ok (tally, after))) has h) in
        let done = went bare in
        let now = ap (λ (p : Tally × Database). p.1) (same_value (went (went done.2).2).2) in
        let asked = went done.1 in
        let written = went asked.2 in
        let trees : done.0.trees ≡ written.0 = ap (λ (it : Written). it.trees) (same_value written.2) in
        let all : Selects tests project [] None (db.trees other.tree) params asked.0 =
        subst (λ t. Selects tests project [] None t params asked.0) (overlay_none db.trees other.tree) (selects other.tree tests project [] every _ params asked.0 (asked.1.answer Null)) in
        let edit = edit_of db.trees table (ids_of asked.0) Given 1 asked.0 in
        let first : Applies schema mode.keys db.trees edit written.0 = one_step schema mode.keys db.trees written.0 edit (free (taken_by db.trees edit) edit.news mode.keys) written.1 in
        let made : after.trees ≡ written.0 = ap (λ (d : Database). d.trees) now ∙ trees in
        let a : Applies schema mode.keys db.trees edit after.trees = subst (λ t. Applies schema mode.keys db.trees edit t) (sym made) first in
        record {
          schema_stays = ap (λ (d : Database). d.schema) now ∙ sym has;
          sound = done_sound;
          rows = changed_rows asked.0 all mode.keys after.trees a;
          shaped = λ h. subst (IsShaped shape.Table) (sym a.rows) (shaped_put edit.news (without_all (db.trees other.tree) (ids_of asked.0)) a.keyed (shaped_left (ids_of asked.0) (db.trees other.tree) h));
          others = λ t there. others_stay schema mode.keys db.trees after.trees edit a t (subst (λ s. Has s.tables t) has there);
        }

  module _ (sql : List ℕ) (text : IsCommand schema sql (Update at (record { lets = []; body = selecting other.tree tests project [] every }))) (old new : State) (has : old.now.schema ≡ schema) where
    pub updated : (count : ℕ) → IsDatabase old.now → IsShaped shape.Table (old.now.trees other.tree) → Executes sql params old new (Ok count) → Changes other.tree (IsChanged Passes change) old.now new.now × InPlace old new
    updated count sound up h =
        let w = runs_as sql params old new schema has (Update at (record { lets = []; body = selecting other.tree tests project [] every })) text.is text.plain count h in
        (updates old.now has sound up old.step_limit (mode_of old) new.now [] w.tally w.sound w.changed, (w.shown, w.marks))

-- a changed row of a table whose rowids no statement gives is written as it is
pub kept_values : (schema : Schema) (table : Table) (set : Row → Row) → Has schema.tables table → table.key ≡ None → list_all is_required table.columns ≡ true → ((r : Row) → AreOf table.columns (cells table.columns 1 r) → AreOf table.columns (set r))
    → (db : Database) → db.schema ≡ schema → IsDatabase db → (r : Row) → Has (db.trees table.tree) r → cast_all table.columns (set r) ≡ set r
kept_values schema table set listed keyless exact fit db has sound r there = kept_by_cast table.columns (set r) (fit r (typed db r table sound (subst (λ s. Has s.tables table) (sym has) listed) there keyless exact))

-- the table's rows are changed just where they fit
pub changed_to : {P Q : Row → Type 0} (tree : ℕ) (change : Row → Row) (old new : Database) → ((r : Row) → Has (old.trees tree) r → P r → Q r) → ((r : Row) → Has (old.trees tree) r → Q r → P r)
    → Changes tree (IsChanged P change) old new → Changes tree (IsChanged Q change) old new
changed_to tree change old new f g h =
    record { schema_stays = h.schema_stays; sound = h.sound; rows = changed_by (old.trees tree) (new.trees tree) change f g h.rows; shaped = h.shaped; others = h.others }
