-- Worked examples of databases of schema 1 and their migration.
use Rattle.std.proofs.Common.{◌≡◌, ◌≢◌, ◌∙◌, inl, inr, ℕ, ℤ, pos, List, [], ◌∷◌, refl, sym, ap, subst}
use Rattle.std.specs.FinMap as finite
use Rattle.std.specs.List.{cons_option}
use Rattle.sqlite.specs.Effect.{Database}
use Rattle.sqlite.specs.Order.{Row, column}
use Rattle.sqlite.specs.Table.{Table}
use Rattle.sqlite.specs.declared.types.Value.{Value}
use Rattle.sqlite.specs.declared.types.Value.TheVariants.{Int}
use Rattle.sqlite_rules.specs.Lists.{Has}
use Rattle.sqlite_schema.specs.Names.{same_name}
use Rattle.gaz_records.specs.declared.key.Key.TheVariants as key
use Rattle.gaz_views.specs.Examples.{street}
use Rattle.gaz_overlay.proofs.StandingRows.{item_after, stands}
use Rattle.gaz_overlay.specs.Rows.{view_after}
use Rattle.gaz_sql_facts.specs.Copies.{AreCopied}
use Rattle.gaz_tables.specs.Metas.{Rewrites, id_of, meta_row}
use Rattle.gaz_tables.specs.Migrating.{KeepsOthers, with_hop}
use Rattle.gaz_tables.proofs.CreatingExamples.{of_schema_1}
use Rattle.gaz_tables.proofs.Four.{received_tree}
use Rattle.gaz_tables.specs.Schema.{first_schema, meta, metas, old_versions, received, version, version2}
use Rattle.gaz_tables.specs.Tables.{rows_of, tree_named, tree_of}
use Rattle.gaz_row_items.specs.Examples.{changed}
use Rattle.gaz_row_items.specs.Versions.{histories_in, living, view_in}
use Rattle.gaz_row_items.proofs.Examples.{said}
use Rattle.gaz_kept.specs.Migrated.{first_rows}
use Rattle.gaz_kept.specs.Numbered.{IsNumbered}
use Rattle.gaz_kept.specs.OpeningFirst.{has_first}
use Rattle.gaz_kept.specs.WorkedMigrated.{HasMoved, IsMigration, WorkedFirst, WorkedMigrated, WorkedMove, first_101, first_changed, first_database, first_table, first_trees, late_101, moved_changed, moved_rows}
use Rattle.gaz_kept.specs.WorkedOpening.{others, ours}
use Rattle.gaz_kept.proofs.WorkedOpening.{differ, first_of}

-- ---- which are taken as one of schema 1

is_numbered : (register : List ℕ) → IsNumbered 1 (meta_row 1 register) (meta_row 1 register ∷ [])
is_numbered register = record { only = refl; id = refl; number_is = refl }

no_number_2 : (r : Row) → ¬ IsNumbered 1 r (meta_row 2 ours ∷ [])
no_number_2 r h = let e : ◌≡◌ {A = Value} (Int (pos 2)) (Int (pos 1)) = ap (λ l. column (first_of l) 2) h.only ∙ h.number_is in absurd (cc)

first_holds : WorkedFirst
unfolding has_first same_name
first_holds = record {
  first = refl;
  in_another_order = refl;
  second = refl;
  beside_another = refl;
  taken = (meta_row 1 ours, is_numbered ours, refl);
  of_another = (meta_row 1 others, is_numbered others, differ);
  of_number_2 = no_number_2;
}

-- ---- two rows that are moved

copied : AreCopied with_hop first_table [] moved_rows
copied = record {
  only = λ r there. elim there [
    | inl same ↦ inr (first_changed, inr (inl refl), (pos 1, same))
    | inr more ↦ elim more [
      | inl same ↦ inr (first_101, inl refl, (pos 2, same))
      | inr none ↦ absurd none
    ]
  ];
  done = λ s there. elim there [
    | inl same ↦ (pos 2, inr (inl (ap (λ x. Int (pos 2) ∷ with_hop x) same)))
    | inr more ↦ elim more [
      | inl same ↦ (pos 1, inl (ap (λ x. Int (pos 1) ∷ with_hop x) same))
      | inr none ↦ absurd none
    ]
  ];
  kept = λ r there. absurd there;
  each_once = refl;
}

numbered_2 : Rewrites 2 ours (meta_row 1 ours ∷ []) (meta_row 2 ours ∷ [])
numbered_2 = record {
  only = λ r there. elim there [
    | inl same ↦ inr (meta_row 1 ours, inl refl, refl, same)
    | inr none ↦ absurd none
  ];
  done = λ s there first. inl (ap (λ (v : Value). v ∷ column (meta_row 2 ours) 1 ∷ column (meta_row 2 ours) 2 ∷ column (meta_row 2 ours) 3 ∷ []) first);
  kept = λ r there other. elim there [ inl same ↦ absurd (other (ap id_of same)) | inr none ↦ absurd none ];
}

-- which rows the database of schema 1 has
its_rows : rows_of first_database version ≡ first_table
unfolding tree_named same_name
its_rows = refl

its_files : rows_of first_database received ≡ []
unfolding tree_named same_name
its_files = refl

its_meta : rows_of first_database meta ≡ meta_row 1 ours ∷ []
unfolding tree_named same_name
its_meta = refl

-- what stands beside rows and `meta` are the files
versions_at : tree_of version first_schema ≡ old_versions
unfolding tree_named same_name
versions_at = refl

metas_at : tree_of meta first_schema ≡ metas
unfolding tree_named same_name
metas_at = refl

kept_beside : (items : List Row) (number : ℕ) (new : Database) → HasMoved items number new → KeepsOthers first_database new
kept_beside items number new h t (inl same) not_versions not_metas = absurd (not_versions (ap (λ (t : Table). t.tree) same ∙ sym versions_at))
kept_beside items number new h t (inr (inl same)) not_versions not_metas =
    let at : t.tree ≡ received.tree = ap (λ (t : Table). t.tree) same in
    let there : tree_of received new.schema ≡ received.tree = ap (tree_of received) h.schema_is ∙ received_tree in
    (subst (λ s. Has s.tables t) (sym h.schema_is) (inr (inl same)), ap new.trees (at ∙ sym there) ∙ h.no_files ∙ sym (ap first_trees at))
kept_beside items number new h t (inr (inr (inl same))) not_versions not_metas = absurd (not_metas (ap (λ (t : Table). t.tree) same ∙ sym metas_at))
kept_beside items number new h t (inr (inr (inr none))) not_versions not_metas = absurd none

both : (new : Database) → HasMoved moved_rows 2 new → IsMigration new
both new h = record {
  schema_is = h.schema_is ∙ sym of_schema_1;
  tables = h.tables;
  rows = subst (λ l. AreCopied with_hop l [] (rows_of new version2)) (sym its_rows) (subst (AreCopied with_hop first_table []) (sym h.items_are) copied);
  emptied = h.emptied;
  files = h.no_files ∙ sym its_files;
  meta = subst (λ l. Rewrites 2 ours l (rows_of new meta)) (sym its_meta) (subst (Rewrites 2 ours (meta_row 1 ours ∷ [])) (sym h.meta_is) numbered_2);
  others = kept_beside moved_rows 2 new h;
}

-- it has a row of street 101
was_there : Has (rows_of first_database version) first_101
was_there = subst (λ l. Has l first_101) (sym its_rows) (inl refl)

-- a row is born in its volume
born_apart : (n : ℤ) (r : Row) → Int n ∷ with_hop first_101 ≡ r → column r 8 ≢ Int (pos 2)
born_apart n r same late = let e : ◌≡◌ {A = Value} (Int (pos 1)) (Int (pos 2)) = ap (λ x. column x 8) same ∙ late in absurd (cc)

left : (new : Database) → HasMoved (moved_changed ∷ []) 2 new → ¬ IsMigration new
left new h is =
    let made = is.rows.done first_101 was_there in
    elim (subst (λ l. Has l (Int made.0 ∷ with_hop first_101)) h.items_are made.1) [
      | inl same ↦ born_apart made.0 moved_changed same refl
      | inr none ↦ absurd none
    ]

late : (new : Database) → HasMoved (moved_changed ∷ late_101 ∷ []) 2 new → ¬ IsMigration new
late new h is =
    let made = is.rows.done first_101 was_there in
    elim (subst (λ l. Has l (Int made.0 ∷ with_hop first_101)) h.items_are made.1) [
      | inl same ↦ born_apart made.0 moved_changed same refl
      | inr more ↦ elim more [
        | inl same ↦ born_apart made.0 late_101 same refl
        | inr none ↦ absurd none
      ]
    ]

number_of_1 : (r : Row) → meta_row 2 ours ≡ r → ¬ (column r 2 ≡ Int (pos 1))
number_of_1 r same one = let e : ◌≡◌ {A = Value} (Int (pos 2)) (Int (pos 1)) = ap (λ x. column x 2) same ∙ one in absurd (cc)

still_1 : (new : Database) → HasMoved moved_rows 1 new → ¬ IsMigration new
still_1 new h is = elim (subst (λ l. Has l (meta_row 2 ours)) h.meta_is (is.meta.done (meta_row 1 ours) (subst (λ l. Has l (meta_row 1 ours)) (sym its_meta) (inl refl)) refl)) [
  | inl same ↦ number_of_1 (meta_row 1 ours) same refl
  | inr none ↦ absurd none
]

histories_first : histories_in (first_rows first_table) 1001 ≡ living 1 2 (street 101) ∷ living 2 1000000 changed ∷ []
histories_first = λ i.
    cons_option (said (Int (pos 1)) 1001 1 2 (street 101) refl refl i)
    (cons_option (said (Int (pos 2)) 1001 2 1000000 changed refl refl i) [])

stands_at : (t : ℕ) → finite.get (view_in (first_rows first_table) 1001 t).items (key.Street 101) ≡ stands t (key.Street 101) (living 1 2 (street 101) ∷ living 2 1000000 changed ∷ [])
stands_at t =
    ap (λ hs. finite.get (view_after hs t).items (key.Street 101)) histories_first
    ∙ item_after (living 1 2 (street 101) ∷ living 2 1000000 changed ∷ []) t (key.Street 101)

moves_hold : WorkedMove
moves_hold = record {
  moved = refl;
  says = refl;
  inserted = stands_at 1;
  updated = stands_at 2;
  both = both;
  one_that_ended_is_left = left;
  another_birth = late;
  still_number_1 = still_1;
}

pub worked_migrated_holds : WorkedMigrated
worked_migrated_holds = record { on_first = first_holds; on_moves = moves_hold }
