-- What INSERT .. SELECT from another table makes of a strict table: a row for each row there, under new rowids, and all others stay.
use Rattle.std.proofs.Common.{◌≡◌, inl, inr, ℕ, ℤ, suc, ◌+◌, ◌||◌, true, false, List, [], ◌∷◌, map, Some, None, Ok, refl, sym, ap, subst, ◌∙◌, arith}
use Rattle.std.specs.Prelude.{Option, drop, slice_get, filter, length, IsPermutation, IsSorted}
use Rattle.std.specs.declared.cmp.Ordering.{Ordering}
use Rattle.std.specs.declared.cmp.Ordering.TheVariants.{Less, Equal, Greater}
use Rattle.std.specs.Ordering.{is_eq, match_ordering}
use Rattle.std.proofs.lemmas.Bool.{and_parts}
use Rattle.std.proofs.lemmas.List.{length-map}
use Rattle.sqlite_value.specs.declared.keys.Collation.{Collation}
use Rattle.sqlite_schema.specs.declared.schema.Column.{Column}
use Rattle.sqlite_schema.specs.declared.schema.Keys.{Keys}
use Rattle.sqlite_schema.specs.declared.program.Program.{Program}
use Rattle.sqlite_trees.specs.declared.store.Shape.TheVariants as shape
use Rattle.sqlite_rules.specs.Edit.{Applies, are_fresh, is_taken, numbered}
use Rattle.sqlite_rules.specs.Lists.{Has}
use Rattle.sqlite_rules.proofs.ProbeLemmas.{has_mapped, mapped_has}
use Rattle.sqlite_rules.proofs.TableLemmas.{put_all_has, put_all_keeps, put_all_adds}
use Rattle.sqlite.specs.declared.types.Value.TheVariants.{Null, Int}
use Rattle.sqlite.specs.declared.run.Mode.{Mode}
use Rattle.sqlite.specs.Cast.{cast_all, cast_row}
use Rattle.sqlite.specs.Command.TheVariants.{Insert}
use Rattle.sqlite.specs.Does.{Tally, Does, OnRows}
use Rattle.sqlite.specs.Edit.{Edit, edit_of, with_rowid, next_rowid, put_all}
use Rattle.sqlite.specs.Effect.{Database, IsDatabase}
use Rattle.sqlite.specs.Order.{Row, value_cmp}
use Rattle.sqlite.specs.Rowids.TheVariants.{Chosen}
use Rattle.sqlite.specs.Rows.{Task, Written}
use Rattle.sqlite.specs.Schema.{Schema}
use Rattle.sqlite.specs.Source.TheVariants.{Query as Asked}
use Rattle.sqlite.specs.State.{State, Executes, mode_of}
use Rattle.sqlite.specs.Table.{Table}
use Rattle.sqlite.specs.Term.{Term}
use Rattle.sqlite.specs.Tree.{Trees, put_row, rowid}
use Rattle.sqlite.specs.View.{IsShaped}
use Rattle.sqlite_sql.specs.Query.{Output, output, output_cmp, limited, IsAnswer}
use Rattle.sqlite.proofs.Callers.{runs_as, one_step}
use Rattle.gaz_sql_facts.specs.Changes.{Changes, InPlace}
use Rattle.gaz_sql_facts.specs.Copies.{AreCopied, copying}
use Rattle.gaz_sql_facts.specs.Selects.{passes, shows, Selects}
use Rattle.gaz_sql_facts.specs.Tables.{keyed_as}
use Rattle.gaz_sql_facts.proofs.Free.{free_insert}
use Rattle.gaz_sql_facts.proofs.Inserts.{went, same_value, others_stay}
use Rattle.gaz_sql_facts.proofs.Lists.{matched, map_map, limited_map, unmapped, sorted_unmapped}
use Rattle.gaz_sql_facts.proofs.Selects.{selected, found, counted}
use Rattle.gaz_sql_facts.proofs.Texts.{IsCommand, overlay_none}
use Rattle.gaz_sql_facts.proofs.Typed.{cast_null, negated}
use Rattle.gaz_sql_facts.proofs.Updates.{shaped_put}

-- what it answers
pub copies : (tree : ℕ) (project : List Term) (by : List Collation) (db : Trees) (params : Row) (answer : List Row) → IsAnswer (copying tree project by) db params answer
    → Selects [] project [] None (db tree) params answer
copies tree project by db params answer h =
    let q = copying tree project by in
    let env = λ (r : Row). params ∷ r ∷ [] in
    let put = λ (r : Row). output q (env r) in
    let taken = filter (passes [] params) (db tree) in
    let kept : h.kept ≡ map put taken =
    h.distinct ∙ ap (map (output q)) (h.grouped ∙ matched (passes [] params) env (db tree)) ∙ map_map (output q) env taken in
    let un = unmapped put taken h.ordered (subst (λ l. IsPermutation l h.ordered) kept h.same) in
    let up : IsSorted (output_cmp q) (map put un.0) = subst (IsSorted (output_cmp q)) un.2 h.sorted in
    record {
      chosen = un.0;
      same = un.1;
      sorted = sorted_unmapped put (output_cmp q) un.0 up;
      shown = h.shown ∙ ap (λ l. limited None (map (λ (o : Output). o.1) l)) un.2 ∙ ap (limited None) (map_map (λ (o : Output). o.1) put un.0) ∙ limited_map (shows project params) None un.0;
    }

-- ---- rows under new rowids

numbered_is : (vs rows : List Row) (x : Row) → Has (numbered Chosen rows vs) x → (v : Row) × Has vs v × ((before : List Row) × (x ≡ with_rowid Chosen before v))
numbered_is [] rows x h = absurd h
numbered_is (v ∷ vs) rows x (inl is) = (v, inl refl, (rows, is))
numbered_is (v ∷ vs) rows x (inr later) = let it = numbered_is vs (put_row (with_rowid Chosen rows v) rows) x later in (it.0, inr it.1, it.2)

is_numbered : (vs rows : List Row) (v : Row) → Has vs v → (before : List Row) × Has (numbered Chosen rows vs) (with_rowid Chosen before v)
is_numbered [] rows v h = absurd h
is_numbered (u ∷ vs) rows v (inl is) = (rows, inl (ap (with_rowid Chosen rows) is))
is_numbered (u ∷ vs) rows v (inr later) = let it = is_numbered vs (put_row (with_rowid Chosen rows u) rows) v later in (it.0, inr it.1)

-- ---- as many rows as there were sources

by_order : (new r : Row) (rs : List Row) → (is_taken rs new ≡ false → length (put_row new rs) ≡ suc (length rs)) → (o : Ordering) → (is_eq o || is_taken rs new) ≡ false
    → length (match_ordering o (r ∷ put_row new rs) (new ∷ rs) (new ∷ r ∷ rs)) ≡ suc (suc (length rs))
by_order new r rs behind Less free = ap suc (behind free)
by_order new r rs behind Equal free = absurd (cc)
by_order new r rs behind Greater free = refl

put_length : (new : Row) (rows : List Row) → is_taken rows new ≡ false → length (put_row new rows) ≡ suc (length rows)
put_length new [] free = refl
put_length new (r ∷ rs) free = by_order new r rs (put_length new rs) (value_cmp (rowid r) (rowid new)) free

put_all_length : (news rows : List Row) → are_fresh rows news ≡ true → length (put_all rows news) ≡ length rows + length news
put_all_length [] rows fresh = omega arith
put_all_length (n ∷ news) rows fresh =
    let parts = and_parts _ _ fresh in
    let one = put_length n rows (negated _ parts.0) in
    let more = put_all_length news (put_row n rows) parts.1 in
    omega (arith, one, more)

numbered_length : (vs rows : List Row) → length (numbered Chosen rows vs) ≡ length vs
numbered_length [] rows = refl
numbered_length (v ∷ vs) rows = ap suc (numbered_length vs (put_row (with_rowid Chosen rows v) rows))

all_pass : (rows : List Row) → filter (passes [] []) rows ≡ rows
all_pass [] = refl
all_pass (r ∷ rows) = ap (λ l. r ∷ l) (all_pass rows)

-- INSERT INTO the table at this place SELECT project FROM the table at `from`; `copy` are the values that a row there is copied to
module _ (schema : Schema) (at from : ℕ) (other : Table) (name : List ℕ) (uniques : List (List ℕ)) (columns : List Column) (project : List Term) (by : List Collation) (copy : Row → Row)
    (listed : slice_get schema.tables at ≡ Some (keyed_as other None name columns uniques))
    (shown : (r : Row) → shows project [] r ≡ Null ∷ copy r)
    (kept : (db : Database) → db.schema ≡ schema → IsDatabase db → (r : Row) → Has (db.trees from) r → cast_all columns (copy r) ≡ copy r) where
  abbrev table : Table
  table = keyed_as other None name columns uniques

  abbrev program : Program
  program = record { lets = []; body = copying from project by }

  abbrev cast_of : Row → Row
  cast_of s = cast_row table (drop 0 s)

  module _ (db : Database) (has : db.schema ≡ schema) (sound : IsDatabase db) (rows : List Row) (all : Selects [] project [] None (db.trees from) [] rows) where
    abbrev edit : Edit
    edit = edit_of db.trees table [] Chosen 0 rows

    recast : (r : Row) → Has (db.trees from) r → cast_of (shows project [] r) ≡ Null ∷ copy r
    recast r there =
        let rest : cast_all columns (copy r) ≡ copy r = kept db has sound r there in
        ap cast_of (shown r) ∙ ap (λ v. v ∷ cast_all columns (copy r)) cast_null ∙ ap (λ vs. Null ∷ vs) rest

    new_is : (x : Row) → Has edit.news x → (s : Row) × Has (db.trees from) s × ((n : ℤ) × (x ≡ Int n ∷ copy s))
    new_is x h =
        let it = numbered_is (map cast_of rows) (db.trees other.tree) x h in
        let source = has_mapped cast_of rows it.0 it.1 in
        let m = selected [] project [] (db.trees from) [] rows None all source.0 source.1 in
        let is : it.0 ≡ Null ∷ copy m.0 = source.2 ∙ ap cast_of m.3 ∙ recast m.0 m.1 in
        (m.0, m.1, (next_rowid it.2.0, it.2.1 ∙ ap (with_rowid Chosen it.2.0) is))

    is_new : (s : Row) → Has (db.trees from) s → (n : ℤ) × Has edit.news (Int n ∷ copy s)
    is_new s there =
        let one = found [] project [] (db.trees from) [] rows all s there refl in
        let cast : Has (map cast_of rows) (Null ∷ copy s) = subst (Has (map cast_of rows)) (recast s there) (mapped_has cast_of rows (shows project [] s) one) in
        let it = is_numbered (map cast_of rows) (db.trees other.tree) (Null ∷ copy s) cast in
        (next_rowid it.0, it.1)

    as_many : length edit.news ≡ length (db.trees from)
    as_many = numbered_length (map cast_of rows) (db.trees other.tree) ∙ length-map rows cast_of ∙ counted [] project [] (db.trees from) [] rows all ∙ ap length (all_pass (db.trees from))

    copied_rows : (keys : Keys) (next : Trees) → Applies schema keys db.trees edit next → AreCopied copy (db.trees from) (db.trees other.tree) (next other.tree)
    copied_rows keys next a = record {
      only = λ r h. elim (put_all_has edit.news (db.trees other.tree) r (subst (λ l. Has l r) a.rows h)) [ inl new ↦ inr (new_is r new) | inr old ↦ inl old ];
      done = λ s there. let it = is_new s there in (it.0, subst (λ l. Has l (Int it.0 ∷ copy s)) (sym a.rows) (put_all_adds edit.news (db.trees other.tree) (Int it.0 ∷ copy s) a.fresh it.1));
      kept = λ r h. subst (λ l. Has l r) (sym a.rows) (put_all_keeps edit.news (db.trees other.tree) r a.fresh h);
      each_once = ap length a.rows ∙ put_all_length edit.news (db.trees other.tree) a.fresh ∙ ap (λ n. length (db.trees other.tree) + n) as_many;
    }

  pub fills : (limit : Option ℕ) (mode : Mode) (old after : Database) (text : List ℕ) (tally : Tally) → old.schema ≡ schema → IsDatabase old → IsDatabase after
      → Does limit mode [] old text None (Insert at (Asked program)) (Ok (tally, after)) → Changes other.tree (AreCopied copy (old.trees from)) old after
  fills limit mode old after text tally has sound done_sound h =
      let task : Task = record { limit = limit; keys = mode.keys; schema = schema; table = table; params = [] } in
      let bare : OnRows task mode None (Insert at (Asked program)) old.trees (Ok (tally, after)) = rw listed at (subst (λ s. Does limit mode [] (record old { schema = s }) text None (Insert at (Asked program)) (Ok (tally, after))) has h) in
      let done = went bare in
      let now = ap (λ (p : Tally × Database). p.1) (same_value (went (went done.2).2).2) in
      let asked = went done.1 in
      let counter = went asked.2 in
      let written = went counter.2 in
      let counted = went written.2 in
      let trees : done.0.trees ≡ written.0 = ap (λ (it : Written). it.trees) (same_value counted.2) ∙ same_value counted.1 in
      let all : Selects [] project [] None (old.trees from) [] asked.0 =
      subst (λ t. Selects [] project [] None t [] asked.0) (overlay_none old.trees from) (copies from project by _ [] asked.0 (asked.1.answer Null)) in
      let edit = edit_of old.trees table [] Chosen 0 asked.0 in
      let applied : Applies schema mode.keys old.trees edit written.0 = one_step schema mode.keys old.trees written.0 edit (free_insert schema mode.keys other.tree edit.news) written.1 in
      let made : after.trees ≡ written.0 = ap (λ (d : Database). d.trees) now ∙ trees in
      let a : Applies schema mode.keys old.trees edit after.trees = subst (λ t. Applies schema mode.keys old.trees edit t) (sym made) applied in
      record {
        schema_stays = ap (λ (d : Database). d.schema) now ∙ sym has;
        sound = done_sound;
        rows = copied_rows old has sound asked.0 all mode.keys after.trees a;
        shaped = λ h. subst (IsShaped shape.Table) (sym a.rows) (shaped_put edit.news (old.trees other.tree) a.keyed h);
        others = λ t there. others_stay schema mode.keys old.trees after.trees edit a t (subst (λ s. Has s.tables t) has there);
      }

  module _ (sql : List ℕ) (text : IsCommand schema sql (Insert at (Asked program))) (old new : State) (has : old.now.schema ≡ schema) where
    pub filled : (count : ℕ) → IsDatabase old.now → Executes sql [] old new (Ok count) → Changes other.tree (AreCopied copy (old.now.trees from)) old.now new.now × InPlace old new
    filled count sound h =
        let w = runs_as sql [] old new schema has (Insert at (Asked program)) text.is text.plain count h in
        (fills old.step_limit (mode_of old) old.now new.now [] w.tally has sound w.sound w.changed, (w.shown, w.marks))
