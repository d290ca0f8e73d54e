-- What the texts do that move the rows of schema 1, wherever its tables stand, and what they come to.
use Rattle.std.proofs.Common.{◌≡◌, ◌≢◌, ◌∙◌, ℕ, pos, List, [], ◌∷◌, None, Ok, Err, Result, OnOk, refl, sym, ap, subst}
use Rattle.sqlite_tied.specs.Compute.{everything}
use Rattle.sqlite_value.specs.declared.keys.Collation.{Collation}
use Rattle.sqlite_value.specs.declared.keys.Collation.TheVariants.{Binary}
use Rattle.sqlite_rules.specs.Lists.{Has}
use Rattle.sqlite_schema.specs.Names.{same_name}
use Rattle.sqlite.specs.Cast.{cast_all}
use Rattle.sqlite.specs.declared.error.Error.{Error}
use Rattle.sqlite.specs.declared.types.Value.TheVariants.{Null, Int}
use Rattle.sqlite.specs.Effect.{Database, IsDatabase}
use Rattle.sqlite.specs.Order.{Row}
use Rattle.sqlite.specs.Schema.{Schema}
use Rattle.sqlite.specs.State.{State, ExecutesInside}
use Rattle.sqlite.specs.Table.{Table}
use Rattle.sqlite.specs.Term.{Term, lit, col}
use Rattle.sqlite.specs.View.{IsShaped}
use Rattle.sqlite_trees.specs.declared.store.Shape.TheVariants as shape
use Rattle.gaz_sql_facts.specs.Changes.{InPlace}
use Rattle.gaz_sql_facts.specs.Copies.{AreCopied}
use Rattle.gaz_sql_facts.specs.Emptied.{IsEmptied}
use Rattle.gaz_sql_facts.specs.Meaning.{CopiesAnywhere, MeansAnywhere, OnTable, copied}
use Rattle.gaz_sql_facts.specs.Standing.{StandsAt, together}
use Rattle.gaz_sql_facts.proofs.Copies.{filled}
use Rattle.gaz_sql_facts.proofs.CopyTexts.{copies_stand_alone}
use Rattle.gaz_sql_facts.proofs.Emptied.{emptied, empty_is_shaped}
use Rattle.gaz_sql_facts.proofs.Free.{free}
use Rattle.gaz_sql_facts.proofs.TextMoves.{anywhere}
use Rattle.gaz_sql_facts.proofs.Texts.{IsCommand, is_command}
use Rattle.gaz_sql_facts.proofs.Typed.{typed, kept_by_cast}
use Rattle.gaz_tables.proofs.Four.{four_still}
use Rattle.gaz_tables.proofs.Growing as growing
use Rattle.gaz_tables.proofs.Rooms.{AreLow, in_second, low_of, second_there, second_tree}
use Rattle.gaz_tables.proofs.Standing.{apart, changes_table, command_here, is_listed, listed, reads, rest, stands, table}
use Rattle.gaz_tables.proofs.Staying.{other_name, rows_stay, tables_now}
use Rattle.gaz_tables.specs.Creating.{Gains, second_in}
use Rattle.gaz_tables.specs.Metas.{Rewrites}
use Rattle.gaz_tables.specs.Migrating.{CopiesRows, HasFirstTables, HasFourTables, Migrates, MovesRows, with_hop}
use Rattle.gaz_tables.specs.Schema.{version, received, meta, version2, version_columns, version2_columns}
use Rattle.gaz_tables.specs.Stores.{ChangesTable}
use Rattle.gaz_tables.specs.Tables.{HasTable, rows_of, tree_of}
use Rattle.gaz_tables.specs.Texts.{copy_versions_text as copy_text, empty_versions_text as empty_text}

abbrev of_a_birth : List (List ℕ)
of_a_birth = (1 ∷ 2 ∷ 3 ∷ 8 ∷ []) ∷ []

abbrev pub copy_terms : List Term
copy_terms = lit Null ∷ col 1 1 ∷ col 1 2 ∷ col 1 3 ∷ col 1 4 ∷ col 1 5 ∷ col 1 6 ∷ col 1 7 ∷ col 1 8 ∷ col 1 9 ∷ col 1 10 ∷ lit (Int (pos 0)) ∷ []

abbrev pub copy_collations : List Collation
copy_collations = Binary ∷ Binary ∷ Binary ∷ Binary ∷ Binary ∷ Binary ∷ Binary ∷ Binary ∷ Binary ∷ Binary ∷ Binary ∷ Binary ∷ []

source_first : StandsAt (together version version2) 0 version
unfolding same_name
source_first = record { named = refl; listed = refl; by_tree = refl; stored = refl }

target_second : StandsAt (together version version2) 1 version2
unfolding same_name
target_second = record { named = refl; listed = refl; by_tree = refl; stored = refl }

pub copy_anywhere : CopiesAnywhere version version2 copy_text copy_terms copy_collations
unfolding everything
copy_anywhere = copies_stand_alone version version2 copy_text copy_terms copy_collations source_first target_second refl (record { read = _; is = refl; command_is = refl; no_rows = refl; no_time = refl })

abbrev pub empty_terms : List Term
empty_terms = col 1 0 ∷ []

abbrev pub empty_on : OnTable
empty_on = OnTable.Deletes [] empty_terms

pub empty_anywhere : MeansAnywhere version empty_text empty_on
unfolding everything
empty_anywhere = anywhere version empty_text empty_on refl refl (record { read = _; is = refl; command_is = refl; no_rows = refl; no_time = refl })

-- a row of `version`, with hop 0, is written into `version2` as it is
module _ (s : Schema) (v : HasTable version s) where
  hop_kept : (db : Database) → db.schema ≡ s → IsDatabase db → (r : Row) → Has (db.trees (tree_of version s)) r → cast_all version2_columns (with_hop r) ≡ with_hop r
  hop_kept db is sound r there =
      let first : Has db.schema.tables (table version s v) = subst (λ (t : Schema). Has t.tables (table version s v)) (sym is) (listed version s v) in
      let t = typed db r (table version s v) sound first there refl refl in
      kept_by_cast version2_columns (with_hop r)
      (t.0, (t.1.0, (t.1.1.0, (t.1.1.1.0, (t.1.1.1.1.0, (t.1.1.1.1.1.0, (t.1.1.1.1.1.1.0, (t.1.1.1.1.1.1.1.0, (t.1.1.1.1.1.1.1.1.0, (t.1.1.1.1.1.1.1.1.1.0, ((pos 0, refl), tt)))))))))))

  module _ (t : HasTable version2 s) where
    copy_here : IsCommand s copy_text (copied t.place (tree_of version s) copy_terms copy_collations)
    copy_here = is_command s copy_text _ (copy_anywhere s v.place t.place (table version s v) (table version2 s t) (reads version s v) (stands version s v) (reads version2 s t) (stands version2 s t))

module _ (old new : State) (has : HasFourTables old.now) where
  abbrev s : Schema
  s = old.now.schema

  pub copy_done : (r : Result ℕ Error) → ExecutesInside 0 copy_text [] old new r → OnOk r (ChangesTable version2 (CopiesRows old.now) old.now new.now × InPlace old new)
  copy_done (Err e) h = tt
  copy_done (Ok count) h =
      let t = has.tables.there.versions in
      let v = has.old_there in
      let it = filled s t.place (tree_of version s) (rest version2 s t) version2.name of_a_birth version2_columns copy_terms copy_collations with_hop (stands version2 s t).listed (λ r. refl)
      (hop_kept s v) copy_text (copy_here s v t) old new refl count has.tables.sound h.0 in
      (changes_table version2 (CopiesRows old.now) old.now new.now it.0, it.1)

  pub empty_done : (r : Result ℕ Error) → ExecutesInside 0 empty_text [] old new r → OnOk r (ChangesTable version IsEmptied old.now new.now × InPlace old new)
  empty_done (Err e) h = tt
  empty_done (Ok count) h =
      let v = has.old_there in
      let it = emptied s v.place (rest version s v) None version.name of_a_birth version_columns empty_terms (stands version s v).listed (λ olds news keys. free s keys (tree_of version s) olds news (apart version s v)) (λ r. refl)
      empty_text (command_here version s v empty_text empty_on empty_anywhere) old new refl count has.old_shaped h.0 in
      (changes_table version IsEmptied old.now new.now it.0, it.1)

-- ---- one after another

-- the rows are copied, and their table is emptied
pub moves : (old between new : Database) → HasFourTables old → rows_of old version2 ≡ [] → ChangesTable version2 (CopiesRows old) old between → ChangesTable version IsEmptied between new → MovesRows old new
moves old between new has none copies empties =
    let t = has.tables.there in
    let one = rows_stay version2 (CopiesRows old) old between t.versions copies in
    let four = four_still version2 (CopiesRows old) old between has t.versions copies in
    let u = four.tables.there in
    let two = rows_stay version IsEmptied between new four.old_there empties in
    let over_none : CopiesRows old [] (rows_of between version2) = subst (λ l. CopiesRows old l (rows_of between version2)) none copies.rows in
    record {
      schema_stays = empties.schema_stays ∙ copies.schema_stays;
      tables = four_still version IsEmptied between new four four.old_there empties;
      rows = subst (CopiesRows old []) (sym (two version2 u.versions (other_name version2 version refl))) over_none;
      emptied = empties.rows;
      files = two received u.receiveds (other_name received version refl) ∙ one received t.receiveds (other_name received version2 refl);
      meta = two meta u.metas (other_name meta version refl) ∙ one meta t.metas (other_name meta version2 refl);
      others = λ t there not_old not_new.
          empties.others t (subst (λ s. Has s.tables t) (sym copies.schema_stays) there) (λ same. not_old (same ∙ ap (tree_of version) copies.schema_stays)) ∙ copies.others t there not_new;
    }

-- a database of schema 1 gets what schema 2 has beside it
module _ (old made : Database) (has : HasFirstTables old) (gains : Gains (second_in old.schema) old made) where
  low : AreLow (second_in old.schema)
  low = low_of made (second_in old.schema) gains.sound gains.schema_is

  new_there : HasTable version2 made.schema
  new_there = subst (HasTable version2) (sym gains.schema_is) (second_there old.schema has.room low)

  -- what is new is empty
  pub none_yet : rows_of made version2 ≡ []
  none_yet = growing.none_yet old made (second_in old.schema) gains version2 new_there has.room.free.0

  -- each table that stood stands at its tree, with the rows that it had
  module _ (like : Table) (stood : HasTable like old.schema) where
    still_there : HasTable like made.schema
    still_there = subst (HasTable like) (sym gains.schema_is) (in_second old.schema like stood)

    same_tree : tree_of like made.schema ≡ tree_of like old.schema
    same_tree = ap (tree_of like) gains.schema_is ∙ second_tree old.schema like stood

    same_rows : rows_of made like ≡ rows_of old like
    same_rows = ap made.trees same_tree ∙ (gains.stay (table like old.schema stood) (listed like old.schema stood)).1

  pub tables_gained : HasFourTables made
  tables_gained = record {
    tables = record {
      there = record { firsts = is_listed version made.schema (still_there version has.there.versions); versions = new_there; receiveds = still_there received has.there.receiveds; metas = still_there meta has.there.metas };
      sound = gains.sound;
      versions_shaped = empty_is_shaped (rows_of made version2) none_yet;
      receiveds_shaped = subst (IsShaped shape.Table) (sym (same_rows received has.there.receiveds)) has.receiveds_shaped;
      metas_shaped = subst (IsShaped shape.Table) (sym (same_rows meta has.there.metas)) has.metas_shaped;
    };
    old_there = still_there version has.there.versions;
    old_shaped = subst (IsShaped shape.Table) (sym (same_rows version has.there.versions)) has.versions_shaped;
  }

  -- the tables are made, the rows moved, and `meta` says so
  module _ (moved new : Database) (number : ℕ) (register : List ℕ) (moves : MovesRows made moved) (rewrites : ChangesTable meta (Rewrites number register) moved new) where
    each_other : (t : Table) → Has old.schema.tables t → t.tree ≢ tree_of version old.schema → t.tree ≢ tree_of meta old.schema → Has new.schema.tables t × (new.trees t.tree ≡ old.trees t.tree)
    each_other t was not_versions not_metas =
        let stayed = gains.stay t was in
        let between = subst (λ s. Has s.tables t) (sym moves.schema_stays) stayed.0 in (
          subst (λ s. Has s.tables t) (sym rewrites.schema_stays) between,
          rewrites.others t between (λ same. not_metas (same ∙ ap (tree_of meta) moves.schema_stays ∙ same_tree meta has.there.metas))
              ∙ moves.others t stayed.0 (λ same. not_versions (same ∙ same_tree version has.there.versions)) (growing.no_other old made (second_in old.schema) gains version2 new_there has.room.free.0 t was)
              ∙ stayed.1,
        )

    pub migrates : Migrates number register old new
    migrates =
        let there = moves.tables.tables.there in
        let still = rows_stay meta (Rewrites number register) moved new there.metas rewrites in
        let rows : CopiesRows old [] (rows_of moved version2) = subst (λ l. AreCopied with_hop l [] (rows_of moved version2)) (same_rows version has.there.versions) moves.rows in
        record {
          schema_is = rewrites.schema_stays ∙ moves.schema_stays ∙ gains.schema_is;
          tables = tables_now meta (Rewrites number register) moved new there.metas rewrites moves.tables.tables;
          rows = subst (CopiesRows old []) (sym (still version2 there.versions (other_name version2 meta refl))) rows;
          emptied = still version moves.tables.old_there (other_name version meta refl) ∙ moves.emptied;
          files = still received there.receiveds (other_name received meta refl) ∙ moves.files ∙ same_rows received has.there.receiveds;
          meta = subst (λ l. Rewrites number register l (rows_of new meta)) (moves.meta ∙ same_rows meta has.there.metas) rewrites.rows;
          others = each_other;
        }
