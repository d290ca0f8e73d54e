-- What a store's call tells where its register grows.
use Rattle.std.proofs.Common.{◌≡◌, ◌≢◌, ◌∙◌, inl, inr, ℕ, List, Result, Ok, Err, OnErr, OnOk, refl, sym, ap, subst, arith}
use Rattle.std.specs.Prelude.{IsTrue}
use Rattle.sqlite.specs.Effect.{Database}
use Rattle.sqlite.specs.Held.{state}
use Rattle.sqlite.specs.State.{HasCleanDisk, State}
use Rattle.sqlite_trees.specs.Tree.{Trees}
use Rattle.sqlite_trees.specs.declared.store.Store.{Ghosts}
use Rattle.gaz_views.specs.View.{empty_view}
use Rattle.gaz_register.specs.Registers.{RegisterValue}
use Rattle.gaz_register.specs.Texts.{register_text}
use Rattle.gaz_keeper.specs.Keeper as keeper
use Rattle.gaz_keeper.specs.Keeper.{Content, IsLawful, IsLeft, IsNotOpen, Progress, after_stop}
use Rattle.gaz_keeper.specs.declared.fault.ShelfFault.{ShelfFault}
use Rattle.gaz_sql_facts.specs.Changes.{AreTreesOf}
use Rattle.gaz_tables.specs.Schema.{meta, received}
use Rattle.gaz_tables.specs.Stores.{HasTables}
use Rattle.gaz_tables.specs.Tables.{rows_of}
use Rattle.gaz_kept.specs.Contents.{content_in}
use Rattle.gaz_kept.specs.Kept.{IsKept}
use Rattle.gaz_kept.specs.Opening.{IsOf}
use Rattle.gaz_kept.specs.Rewriting.{Registers}
use Rattle.gaz_kept.specs.Stands.{Stands}
use Rattle.gaz_kept.proofs.Rewritten.{files_still, rewrites_stand}
use Rattle.gaz_kept.proofs.SameTrees.{same_content}
use Rattle.gaz_calls.specs.Altering.{AltersTables}
use Rattle.gaz_calls.specs.Growing.{as_kept, register_then}
use Rattle.gaz_calls.specs.Remembered.{AreSo}
use Rattle.gaz_counts.specs.declared.counts.Counts.{Counts}
use Rattle.gaz_calls.specs.Seen.{IsUnharmed, LeavesKept, MayLeave, StandsFor}
use Rattle.gaz_calls.specs.declared.growing.ExtendFault.{ExtendFault}
use Rattle.gaz_calls.specs.declared.tables.Tables.{Tables}
use Rattle.gaz_store.specs.Extending.{IsKeptOfEither, KeepsContent, LeavesEither}
use Rattle.gaz_store.specs.Store.{cleared, progress_of, seen_beside, seen_in, working_of}
use Rattle.gaz_store.specs.declared.progress.Judging.{Judging}
use Rattle.gaz_store.specs.declared.progress.Judging.TheVariants.{Idle, Open, Broken}
use Rattle.gaz_store.specs.declared.store.Store.{Store}
use Rattle.gaz_store.proofs.Entering.{seen_of}
use Rattle.gaz_store.proofs.StoreReads.{left_cleared, not_broken}
use Rattle.gaz_store.proofs.Whole.{kept_of}

module _ {S : Type 0} {g : Ghosts S} (old new : Tables S g) (wording : List ℕ) where
  abbrev was : Database
  was = (state g old.conn).now

  abbrev becomes : Database
  becomes = (state g new.conn).now

  files_so : {T : Type 0} → IsKept was → (r : Result T ShelfFault) → OnOk r (Registers wording was becomes) → OnErr r (becomes ≡ was) → rows_of becomes received ≡ rows_of was received
  files_so kept (Ok x) writes same = files_still wording was becomes kept.tables writes
  files_so kept (Err e) writes same = ap (λ (db : Database). rows_of db received) same

  still_so : {T : Type 0} → (r : Result T ShelfFault) → AltersTables old new r (Registers wording) → IsUnharmed (state g new.conn) → IsKept was → AreSo old.at_hand (rows_of was received) → AreSo new.at_hand (rows_of becomes received)
  still_so r alters h kept so =
      subst (λ a. AreSo a (rows_of becomes received)) (sym alters.at_hand)
      (subst (AreSo old.at_hand) (sym (files_so kept r (alters.alters.done h kept.tables) (alters.alters.undone h kept.tables))) so)

module _ {S : Type 0} {g : Ghosts S} (was grown : RegisterValue) (old new : Tables S g) (p q : Progress) (r : Result (Unit {0}) ExtendFault)
    (alters : AltersTables old new (as_kept r) (Registers (register_text grown))) where
  abbrev before : State
  before = state g old.conn

  abbrev after : State
  after = state g new.conn

  abbrev old_text : List ℕ
  old_text = register_text was

  abbrev grown_text : List ℕ
  grown_text = register_text grown

  abbrev Stood : Type 0
  Stood = StandsFor old_text before old.at_hand empty_view

  abbrev content : Content
  content = content_in before.now empty_view

  abbrev Written : Database → Type 0
  Written db = Registers grown_text before.now db

  -- what the row makes of the tables
  written : Stood → (db : Database) → Written db → Stands db empty_view content
  written stood db writes = rewrites_stand.stands grown_text empty_view before.now db stood.kept writes

  written_of : Stood → (db : Database) → Written db → IsOf grown_text (rows_of db meta)
  written_of stood db writes = rewrites_stand.is_of old_text grown_text before.now db stood.kept.tables stood.whose writes

  stands_so : Stood → IsUnharmed after → (r : Result (Unit {0}) ExtendFault) → AreSo new.at_hand (rows_of after.now received) → OnOk (as_kept r) (Written after.now) → OnErr (as_kept r) (after.now ≡ before.now)
      → StandsFor (register_text (register_then was grown r)) after new.at_hand empty_view
  stands_so stood h (Ok done) so writes same =
      let s = written stood after.now writes in
      record { kept = s.kept; whose = written_of stood after.now writes; so = so; lawful = subst IsLawful (sym s.content) stood.lawful }
  stands_so stood h (Err why) so writes same = record {
    kept = subst IsKept (sym same) stood.kept;
    whose = subst (λ (db : Database). IsOf old_text (rows_of db meta)) (sym same) stood.whose;
    so = so;
    lawful = subst (λ (db : Database). IsLawful (content_in db empty_view)) (sym same) stood.lawful;
  }

  content_so : Stood → (r : Result (Unit {0}) ExtendFault) → OnOk (as_kept r) (Written after.now) → OnErr (as_kept r) (after.now ≡ before.now) → content_in after.now empty_view ≡ content
  content_so stood (Ok done) writes same = (written stood after.now writes).content
  content_so stood (Err why) writes same = ap (λ (db : Database). content_in db empty_view) same

  -- what is left once it is committed
  left_trees : (r : Result (Unit {0}) ExtendFault) → (HasCleanDisk after → OnOk (as_kept r) (IsTrue after.is_open)) → (IsUnharmed after → HasTables before.now → OnOk (as_kept r) (Written after.now))
      → (IsUnharmed after → HasTables before.now → OnOk (as_kept r) ((trees : Trees) → after.may_leave trees → trees ≡ after.now.trees))
      → (IsUnharmed before → Stood) → OnOk r (HasCleanDisk after → (IsUnharmed before × Stood × Written after.now × ((trees : Trees) → after.may_leave trees → trees ≡ after.now.trees)))
  left_trees (Err why) opens makes just sound = tt
  left_trees (Ok done) opens makes just sound = λ clean.
      let h : IsUnharmed after = record { clean = clean; is_open = opens clean } in
      let fine = alters.alters.harm h in
      let stood = sound fine in
      (fine, stood, makes h stood.kept.tables, just h stood.kept.tables)

  commits : (r : Result (Unit {0}) ExtendFault) → OnOk r (HasCleanDisk after → (IsUnharmed before × Stood × Written after.now × ((trees : Trees) → after.may_leave trees → trees ≡ after.now.trees)))
      → OnOk r ((k : Content) → MayLeave after k → IsUnharmed before × (k ≡ after_stop content))
  commits (Err why) left = tt
  commits (Ok done) left = λ k l.
      let it = left l.clean in
      let s = written it.1 after.now it.2 in
      (it.0, l.content ∙ same_content after.now l.db s.kept l.sound (it.3 l.db.trees l.left) empty_view ∙ s.content)

  wholly : (r : Result (Unit {0}) ExtendFault) → OnOk r (HasCleanDisk after → (IsUnharmed before × Stood × Written after.now × ((trees : Trees) → after.may_leave trees → trees ≡ after.now.trees)))
      → OnOk r (LeavesKept (register_text (register_then was grown r)) after)
  wholly (Err why) left = tt
  wholly (Ok done) left = λ trees clean here.
      let it = left clean in
      kept_of grown_text after.now trees (it.3 trees here) (written it.1 after.now it.2).kept (written_of it.1 after.now it.2)

  cleared_so : (r : Result (Unit {0}) ExtendFault) → q ≢ keeper.Broken → OnOk r (q ≢ keeper.Broken)
  cleared_so (Ok done) h = h
  cleared_so (Err why) h = tt

  -- the content stays
  tables_keep : IsLeft p q → q ≢ keeper.Broken
      → KeepsContent (seen_of old_text before old.at_hand p empty_view old.failures) (seen_of (register_text (register_then was grown r)) after new.at_hand q empty_view new.failures) r
  tables_keep left cleared = record {
    harm = alters.alters.harm;
    stands = λ stood h.
        stands_so stood h r (still_so old new grown_text (as_kept r) alters h stood.kept stood.so) (alters.alters.done h stood.kept.tables) (alters.alters.undone h stood.kept.tables);
    content = λ stood h. content_so stood r (alters.alters.done h stood.kept.tables) (alters.alters.undone h stood.kept.tables);
    progress = left;
    cleared = cleared_so r cleared;
    counts = record { kept = alters.tallies.kept; store = alters.tallies.store; trust = alters.alters.trust };
    leaves = λ sound k l.
        let s = alters.alters.leaves (λ h. (sound h).kept.tables) in
        elim (s.crash l.clean l.db.trees l.left) [
          | inl was ↦ inl (record { clean = omega (arith, s.clean, l.clean); db = l.db; sound = l.sound; left = was; content = l.content })
          | inr made ↦ inr (let w = written (sound made.unharmed) made.db made.becomes in (made.unharmed, l.content ∙ same_content made.db l.db w.kept l.sound made.shown empty_view ∙ w.content))
        ];
    committed = λ sound. commits r (left_trees r alters.alters.is_open alters.alters.done alters.alters.committed sound);
    whole = λ sound. wholly r (left_trees r alters.alters.is_open alters.alters.done alters.alters.committed sound);
  }

  -- what a stop leaves
  tables_leave : (IsUnharmed before → Stood) → LeavesKept old_text before → (trees : Trees) → HasCleanDisk after → after.may_leave trees → AreTreesOf (IsKeptOfEither old_text grown_text) trees
  tables_leave sound whole trees clean here =
      let s = alters.alters.leaves (λ h. (sound h).kept.tables) in
      elim (s.crash clean trees here) [
        | inl was ↦ let it = whole trees (omega (arith, s.clean, clean)) was in (it.0, it.1, record { kept = it.2.kept; whose = inl it.2.whose })
        | inr made ↦
            let stood = sound made.unharmed in
            (made.db, made.shown, record { kept = (written stood made.db made.becomes).kept; whose = inr (written_of stood made.db made.becomes) })
      ]

-- what is told of the tables, of the store
keeps_beside : (register later : List ℕ) (old new : State) (a b : Counts) (j : Judging) (f g : ℕ) (r : Result (Unit {0}) ExtendFault) → IsNotOpen (progress_of j)
    → KeepsContent (seen_of register old a (progress_of j) empty_view f) (seen_of later new b (progress_of (cleared j)) empty_view g) r
    → KeepsContent (seen_beside register old a j f) (seen_beside later new b (cleared j) g) r
keeps_beside register later old new a b (Open m) f g r not e = absurd (not m.code refl)
keeps_beside register later old new a b Idle f g r not e = record {
  harm = e.harm;
  stands = λ stood h. record { tables = e.stands stood.tables h; beside = tt };
  content = λ stood h. e.content stood.tables h;
  progress = e.progress;
  cleared = e.cleared;
  counts = record { kept = e.counts.kept; store = e.counts.store; trust = e.counts.trust };
  leaves = λ sound. e.leaves (λ h. (sound h).tables);
  committed = λ sound. e.committed (λ h. (sound h).tables);
  whole = λ sound. e.whole (λ h. (sound h).tables);
}
keeps_beside register later old new a b Broken f g r not e = record {
  harm = e.harm;
  stands = λ stood h. record { tables = e.stands stood.tables h; beside = tt };
  content = λ stood h. e.content stood.tables h;
  progress = e.progress;
  cleared = e.cleared;
  counts = record { kept = e.counts.kept; store = e.counts.store; trust = e.counts.trust };
  leaves = λ sound. e.leaves (λ h. (sound h).tables);
  committed = λ sound. e.committed (λ h. (sound h).tables);
  whole = λ sound. e.whole (λ h. (sound h).tables);
}

working_not : (db : Database) (j : Judging) → IsNotOpen (progress_of j) → working_of db j ≡ empty_view
working_not db Idle not = refl
working_not db (Open m) not = absurd (not m.code refl)
working_not db Broken not = refl

module _ {S R : Type 0} {g : Ghosts S} (was grown : RegisterValue) (old : Store S R g) (t : Tables S g) (k : Judging) (same : k ≡ cleared old.judging) (r : Result (Unit {0}) ExtendFault)
    (not : IsNotOpen (progress_of old.judging)) (alters : AltersTables old.tables t (as_kept r) (Registers (register_text grown))) where
  pub content_stays : KeepsContent (seen_in (register_text was) old) (seen_in (register_text (register_then was grown r)) (record old { tables = t; judging = k })) r
  content_stays =
      subst (λ j. KeepsContent (seen_in (register_text was) old) (seen_in (register_text (register_then was grown r)) (record old { tables = t; judging = j })) r) (sym same)
      (keeps_beside (register_text was) (register_text (register_then was grown r)) (state g old.tables.conn) (state g t.conn) old.tables.at_hand t.at_hand old.judging old.tables.failures t.failures r not
      (tables_keep was grown old.tables t (progress_of old.judging) (progress_of (cleared old.judging)) r alters (left_cleared old.judging) (not_broken old.judging)))

  pub leaves_either : LeavesEither (seen_in (register_text was) old) (state g t.conn) (register_text was) (register_text grown)
  leaves_either sound =
      tables_leave was grown old.tables t keeper.Idle keeper.Idle r alters
      (λ h. subst (StandsFor (register_text was) (state g old.tables.conn) old.tables.at_hand) (working_not (state g old.tables.conn).now old.judging not) (sound h).tables)
