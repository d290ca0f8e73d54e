-- A store that was made, one that was opened, and one that was made of the tables of schema 1.
use Rattle.std.proofs.Common.{◌≡◌, ◌∙◌, ℕ, IsTrue, List, sym, ap, subst, refl}
use Rattle.sqlite.specs.Effect.{Database}
use Rattle.sqlite.specs.Order.{Row}
use Rattle.sqlite.specs.State.{HasCleanDisk, State, Survives}
use Rattle.gaz_views.proofs.Lawful.{lawful_empty}
use Rattle.gaz_views.specs.View.{empty_view}
use Rattle.gaz_sql_facts.specs.Changes.{LeavesTheCommit}
use Rattle.gaz_tables.specs.Creating.{HasRoom, IsNewStore}
use Rattle.gaz_tables.specs.Migrating.{HasFirstTables, Migrates}
use Rattle.gaz_tables.specs.Schema.{meta, received}
use Rattle.gaz_tables.specs.Tables.{rows_of}
use Rattle.gaz_kept.specs.Contents.{content_in}
use Rattle.gaz_kept.specs.Kept.{IsKept}
use Rattle.gaz_kept.specs.Migrated.{IsFirstKept, first_content_in}
use Rattle.gaz_kept.specs.Opening.{IsOf, Rests, schema_number}
use Rattle.gaz_kept.specs.OpeningFirst.{IsOfFirst}
use Rattle.gaz_kept.specs.Stands.{Stands}
use Rattle.gaz_kept.proofs.Migrated.{migration_stands}
use Rattle.gaz_kept.proofs.MetaRows.{create_opens}
use Rattle.gaz_kept.proofs.Stands.{tables_stand}
use Rattle.gaz_calls.specs.Remembered.{AreSo}
use Rattle.gaz_counts.specs.declared.counts.Counts.{Counts}
use Rattle.gaz_store.specs.Migrating.{IsMoved}
use Rattle.gaz_store.specs.Opened.{IsMade, IsOpened}
use Rattle.gaz_store.specs.Store.{StoreStands, seen_beside}
use Rattle.gaz_store.specs.declared.progress.Judging.{Judging}
use Rattle.gaz_store.specs.declared.progress.Judging.TheVariants.{Idle}
use Rattle.gaz_kept.proofs.LawfulViews.{content_lawful}
use Rattle.gaz_kept.proofs.SameTrees.{same_content}
use Rattle.gaz_store.proofs.Whole.{kept_of, whole_still}

module _ (new : State) (a : Counts) (so : (files : List Row) → AreSo a files) (j : Judging) (idle : j ≡ Idle) where
  standing : (register : List ℕ) → IsKept new.now → IsOf register (rows_of new.now meta) → StoreStands register new a Idle
  standing register kept whose = record { tables = record { kept = kept; whose = whose; so = so (rows_of new.now received); lawful = content_lawful new.now kept empty_view lawful_empty }; beside = tt }

  pub is_made : (old : State) (register : List ℕ) (f : ℕ) → f ≡ 0
      → (HasCleanDisk new → IsTrue new.is_open) → (HasCleanDisk new → HasCleanDisk old) → (HasCleanDisk new → HasRoom old.now.schema → IsNewStore schema_number register old.now new.now × (new.committed ≡ new.now)) → LeavesTheCommit new
      → IsMade old new register (seen_beside register new a j f)
  is_made old register f none opened trust made certain = subst (λ k. IsMade old new register (seen_beside register new a k f)) (sym idle) (record {
    idle = refl;
    failures = none;
    is_open = opened;
    trust = trust;
    stands = λ h room. standing register (tables_stand.create schema_number register old.now new.now (made h.clean room).0).kept (create_opens register old.now new.now (made h.clean room).0);
    content = λ h room. (tables_stand.create schema_number register old.now new.now (made h.clean room).0).content;
    leaves = λ h room k l.
        let s = tables_stand.create schema_number register old.now new.now (made h.clean room).0 in
        l.content ∙ same_content new.now l.db s.kept l.sound (certain h.is_open l.db.trees l.left ∙ ap (λ d. d.trees) (made h.clean room).1) empty_view ∙ s.content;
    whole = λ h room trees clean left.
        kept_of register new.now trees (certain h.is_open trees left ∙ ap (λ d. d.trees) (made h.clean room).1)
        (tables_stand.create schema_number register old.now new.now (made h.clean room).0).kept (create_opens register old.now new.now (made h.clean room).0);
    of_register = λ h room. create_opens register old.now new.now (made h.clean room).0;
    others = λ h room. (made h.clean room).0.others;
  })

  pub is_opened : (old : State) (register : List ℕ) (f : ℕ) → f ≡ 0
      → (HasCleanDisk new → HasCleanDisk old) → (HasCleanDisk new → Rests old new) → (HasCleanDisk new → IsKept old.now → IsOf register (rows_of old.now meta)) → Survives old new (λ _. ⊥)
      → IsOpened old new register (seen_beside register new a j f)
  is_opened old register f none harm rests told leaves = subst (λ k. IsOpened old new register (seen_beside register new a k f)) (sym idle) (record {
    idle = refl;
    failures = none;
    harm = λ h. harm h.clean;
    rests = rests;
    stands = λ h kept.
        let same = sym ((rests h.clean).now h.is_open) in
        standing register (subst IsKept same kept) (subst (λ (db : Database). IsOf register (rows_of db meta)) same (told h.clean kept));
    content = λ h kept. ap (λ d. content_in d empty_view) ((rests h.clean).now h.is_open);
    of_register = λ h kept. told h.clean kept;
    leaves = leaves;
    whole = whole_still register old new leaves;
  })

  pub is_moved : (old : State) (register : List ℕ) (f : ℕ) → f ≡ 0
      → (HasCleanDisk new → HasCleanDisk old) → (HasCleanDisk new → HasFirstTables old.now → Migrates schema_number register old.now new.now × (new.committed ≡ new.now))
      → (HasCleanDisk new → HasFirstTables old.now → IsOfFirst register (rows_of old.now meta)) → (HasFirstTables old.now → LeavesTheCommit new)
      → IsMoved old new register (seen_beside register new a j f)
  is_moved old register f none harm moves whose certain = subst (λ k. IsMoved old new register (seen_beside register new a k f)) (sym idle) (record {
    idle = refl;
    failures = none;
    harm = λ h. harm h.clean;
    becomes = λ h has. (moves h.clean has).0;
    of_register = λ h has. whose h.clean has;
    stands = λ h first. standing register (stood h.clean first).kept (still_of h.clean first);
    content = λ h first. (stood h.clean first).content;
    leaves = λ h first k l.
        let s = stood h.clean first in
        l.content ∙ same_content new.now l.db s.kept l.sound (certain first.tables h.is_open l.db.trees l.left ∙ ap (λ d. d.trees) (moves h.clean first.tables).1) empty_view ∙ s.content;
    whole = λ h first trees clean left.
        kept_of register new.now trees (certain first.tables h.is_open trees left ∙ ap (λ d. d.trees) (moves h.clean first.tables).1)
        (stood h.clean first).kept (still_of h.clean first);
  })
    where
      stood : HasCleanDisk new → IsFirstKept old.now → Stands new.now empty_view (first_content_in old.now empty_view)
      stood clean first = migration_stands.stands register empty_view old.now new.now first (moves clean first.tables).0

      still_of : HasCleanDisk new → IsFirstKept old.now → IsOf register (rows_of new.now meta)
      still_of clean first = migration_stands.is_of register register old.now new.now first.tables (whose clean first.tables) (moves clean first.tables).0
