-- What a call that writes the tables tells of them as they are seen.
use Rattle.std.proofs.Common.{◌≡◌, ◌≢◌, ◌⊎◌, ◌∙◌, ◌≤◌, ◌+◌, ◌-◌, ◌^◌, ◌==◌, inl, inr, ℕ, List, Result, Ok, Err, OnErr, OnOk, arith, sym, ap, subst}
use Rattle.std.specs.Prelude.{IsSome, IsTrue}
use Rattle.std.specs.FinMap as finite
use Rattle.sqlite.specs.Effect.{Database}
use Rattle.sqlite.specs.Held.{state}
use Rattle.sqlite.specs.State.{HasCleanDisk, State}
use Rattle.sqlite_trees.specs.Tree.{Trees}
use Rattle.sqlite_trees.specs.declared.store.Store.{Ghosts}
use Rattle.gaz_views.specs.View.{View, empty_view}
use Rattle.gaz_keeper.specs.Board.{reached}
use Rattle.gaz_keeper.specs.Keeper.{Broken, Content, Enters, IsAtHand, IsLawful, IsLeft, IsNew, Progress, Seen, after_skip, after_stop, with_received}
use Rattle.gaz_keeper.specs.declared.fault.ShelfFault.{ShelfFault}
use Rattle.gaz_tables.specs.Schema.{meta, received, version2}
use Rattle.gaz_tables.specs.Stores.{HasTables}
use Rattle.gaz_tables.specs.Tables.{rows_of}
use Rattle.gaz_kept.specs.Contents.{board_of, content_in}
use Rattle.gaz_kept.specs.Files.{files_in, reached_in}
use Rattle.gaz_kept.specs.Kept.{IsKept}
use Rattle.gaz_kept.specs.Opening.{IsOf}
use Rattle.gaz_kept.specs.Stands.{Stands}
use Rattle.gaz_kept.proofs.Boards.{board_reads}
use Rattle.gaz_kept.proofs.Stands.{tables_stand}
use Rattle.gaz_kept.proofs.SameTrees.{same_content}
use Rattle.gaz_calls.specs.Altering.{Alters, MayWrite, Writes}
use Rattle.gaz_calls.specs.Asking.{Tallies}
use Rattle.gaz_calls.specs.Remembered.{AreSo}
use Rattle.gaz_counts.specs.declared.counts.Counts.{Counts}
use Rattle.gaz_calls.specs.Seen.{IsUnharmed, LeavesKept, MayLeave, StandsFor, full_at, left_lawful}
use Rattle.gaz_calls.specs.Writing.{Comes, IsNewIn, IsNextIn, RejectsNext, WhereSo}
use Rattle.gaz_calls.specs.declared.tables.Tables.{Tables}
use Rattle.gaz_store.proofs.Lawful.{received_lawful, skipped_lawful}
use Rattle.gaz_store.proofs.Whole.{kept_of, whole_then}
use Rattle.gaz_store.proofs.Whose.{of_files}

-- a connection to a store of this register, with what is at hand and a judgement beside it, and so many failures
abbrev pub seen_of : List ℕ → State → Counts → Progress → View → ℕ → Seen
seen_of register s at_hand progress working failures = record {
  content = content_in s.now working;
  stands = StandsFor register s at_hand working;
  lawful = λ stood. stood.lawful;
  trusted = HasCleanDisk s;
  unharmed = IsUnharmed s;
  progress = progress;
  failures = failures;
  is_full = failures == 2 ^ 64 - 1;
  full = full_at failures;
  leaves = MayLeave s;
  whole = LeavesKept register s;
  left_lawful = left_lawful register s;
}

module _ {T : Type 0} (register : List ℕ) (old new : State) (before after : Counts) (p q : Progress) (w : View) (f g : ℕ) (r : Result T ShelfFault) (Becomes : Database → Database → Type 0)
    (asked : Type 0) (becomes : Content)
    (alters : Alters old new r Becomes) (tallies : Tallies f g r)
    (goes : StandsFor register old before w → asked → (db : Database) → Becomes old.now db → Stands db w becomes × IsLawful becomes × IsOf register (rows_of db meta))
    (at_hand : IsUnharmed new → StandsFor register old before w → asked → AreSo after (rows_of new.now received))
    (left : IsLeft p q) (cleared : OnOk r (q ≢ Broken)) where
  by_result : {P Q : Type 0} (R : Type 0) (r : Result T ShelfFault) → OnOk r P → OnErr r Q → (P → R) → (Q → R) → R
  by_result R (Ok x) a b f g = f a
  by_result R (Err e) a b f g = g b

  on_ok : {P Q : Type 0} (r : Result T ShelfFault) → (P → Q) → OnOk r P → OnOk r Q
  on_ok (Ok x) f h = f h
  on_ok (Err e) f h = tt

  on_err : {P Q : Type 0} (r : Result T ShelfFault) → (P → Q) → OnErr r P → OnErr r Q
  on_err (Ok x) f h = tt
  on_err (Err e) f h = f h

  abbrev content : Database → Content
  content db = content_in db w

  pub enters : Enters (seen_of register old before p w f) (seen_of register new after q w g) r asked becomes
  enters = record {
    harm = alters.harm;
    stands = λ stood ask h. by_result (StandsFor register new after w) r (alters.done h stood.kept.tables) (alters.undone h stood.kept.tables)
        (λ c. let s = goes stood ask new.now c in record { kept = s.0.kept; whose = s.2; so = at_hand h stood ask; lawful = subst IsLawful (sym s.0.content) s.1 })
        (λ same. record { kept = subst IsKept (sym same) stood.kept; whose = subst (λ (db : Database). IsOf register (rows_of db meta)) (sym same) stood.whose; so = at_hand h stood ask; lawful = subst (λ (db : Database). IsLawful (content db)) (sym same) stood.lawful });
    done = λ stood ask h. on_ok r (λ c. (goes stood ask new.now c).0.content) (alters.done h stood.kept.tables);
    undone = λ stood ask h. on_err r (λ same. ap content same) (alters.undone h stood.kept.tables);
    progress = left;
    cleared = cleared;
    counts = record { kept = tallies.kept; store = tallies.store; trust = alters.trust };
    leaves = λ sound ask k l. by_trees sound ask k l;
    committed = λ sound ask. commits sound ask r alters.is_open (λ h. alters.done h) (λ h. alters.committed h);
    whole = λ sound ask. whole_then register old new (MayWrite old Becomes) (alters.leaves (λ h. (sound h).kept.tables))
        (λ trees made. let s = goes (sound made.unharmed) (ask made.unharmed) made.db made.becomes in kept_of register made.db trees made.shown s.0.kept s.2);
  }
    where
      by_trees : (IsUnharmed old → StandsFor register old before w) → (IsUnharmed old → asked) → (k : Content) → MayLeave new k → MayLeave old k ⊎ (IsUnharmed old × (k ≡ after_stop becomes))
      by_trees sound ask k l =
          let s = alters.leaves (λ h. (sound h).kept.tables) in
          elim (s.crash l.clean l.db.trees l.left) [
            | inl was ↦ inl (record { clean = omega (arith, s.clean, l.clean); db = l.db; sound = l.sound; left = was; content = l.content })
            | inr made ↦ inr (let s = goes (sound made.unharmed) (ask made.unharmed) made.db made.becomes in (made.unharmed, l.content ∙ same_content made.db l.db s.0.kept l.sound made.shown empty_view ∙ ap after_stop s.0.content))
          ]

      commits : (IsUnharmed old → StandsFor register old before w) → (IsUnharmed old → asked) → (r : Result T ShelfFault) → (HasCleanDisk new → OnOk r (IsTrue new.is_open))
          → (IsUnharmed new → HasTables old.now → OnOk r (Becomes old.now new.now))
          → (IsUnharmed new → HasTables old.now → OnOk r ((trees : Trees) → new.may_leave trees → trees ≡ new.now.trees))
          → OnOk r ((k : Content) → MayLeave new k → IsUnharmed old × (k ≡ after_stop becomes))
      commits sound ask (Err e) opens makes just = tt
      commits sound ask (Ok x) opens makes just = λ k l.
          let h : IsUnharmed new = record { clean = l.clean; is_open = opens l.clean } in
          let fine = alters.harm h in
          let stood = sound fine in
          let s = goes stood (ask fine) new.now (makes h stood.kept.tables) in
          (fine, l.content ∙ same_content new.now l.db s.0.kept l.sound (just h stood.kept.tables l.db.trees l.left) empty_view ∙ ap after_stop s.0.content)

-- ---- the calls

module _ {S : Type 0} {store : Ghosts S} (register : List ℕ) where
  abbrev at : Tables S store → State
  at t = state store t.conn

  -- whatever is judged beside the tables
  pub writes_enter : {T : Type 0} (old new : Tables S store) (p q : Progress) (w : View) (r : Result T ShelfFault) (IsAsked : Database → Type 0) (Becomes : Database → Database → Type 0) (asked : Type 0) (becomes : Content)
      → Writes old new r IsAsked Becomes
      → (StandsFor register (at old) old.at_hand w → asked → IsAsked (at old).now)
      → (StandsFor register (at old) old.at_hand w → asked → (db : Database) → Becomes (at old).now db → Stands db w becomes × IsLawful becomes × IsOf register (rows_of db meta))
      → IsLeft p q → OnOk r (q ≢ Broken)
      → Enters (seen_of register (at old) old.at_hand p w old.failures) (seen_of register (at new) new.at_hand q w new.failures) r asked becomes
  writes_enter old new p q w r IsAsked Becomes asked becomes writes asks goes left cleared =
      enters register (at old) (at new) old.at_hand new.at_hand p q w old.failures new.failures r Becomes asked becomes writes.alters writes.tallies goes
      (λ h stood ask. writes.at_hand h stood.kept stood.so (asks stood ask)) left cleared

  -- a file comes
  pub receive_enters : {T : Type 0} (old new : Tables S store) (p q : Progress) (w : View) (r : Result T ShelfFault) (c v : ℕ) (bytes : List ℕ) → 1 ≤ v → v ≤ 999_999
      → Writes old new r (IsNewIn c v) (Comes c v bytes) → IsLeft p q → OnOk r (q ≢ Broken)
      → Enters (seen_of register (at old) old.at_hand p w old.failures) (seen_of register (at new) new.at_hand q w new.failures) r
      (IsNew (content_in (at old).now w) c v) (with_received (content_in (at old).now w) c v bytes)
  receive_enters old new p q w r c v bytes first last writes left cleared =
      writes_enter old new p q w r (IsNewIn c v) (Comes c v bytes) (IsNew (content_in (at old).now w) c v) (with_received (content_in (at old).now w) c v bytes) writes
      (λ stood fresh. fresh)
      (λ stood fresh db comes. (tables_stand.receive c v bytes w (at old).now db first last stood.kept fresh comes, received_lawful (content_in (at old).now w) c v bytes stood.lawful, of_files register _ (at old).now db stood.kept.tables stood.whose comes))
      left cleared

  -- a custodian's next volume is rejected
  pub skip_enters : {T : Type 0} (old new : Tables S store) (p q : Progress) (r : Result T ShelfFault) (c place rule : ℕ) → rule ≤ 255
      → Writes old new r (IsNextIn c) (WhereSo old.at_hand (RejectsNext c place rule)) → IsLeft p q → OnOk r (q ≢ Broken)
      → Enters (seen_of register (at old) old.at_hand p empty_view old.failures) (seen_of register (at new) new.at_hand q empty_view new.failures) r
      (IsAtHand (content_in (at old).now empty_view) c) (after_skip (content_in (at old).now empty_view) c place rule)
  skip_enters old new p q r c place rule small writes left cleared =
      writes_enter old new p q empty_view r (IsNextIn c) (WhereSo old.at_hand (RejectsNext c place rule)) (IsAtHand (content_in (at old).now empty_view) c) (after_skip (content_in (at old).now empty_view) c place rule) writes
      (λ stood there. subst (λ n. IsSome (finite.get (files_in (rows_of (at old).now received)) (c, n + 1))) (reads (at old).now) there)
      (λ stood there db rejects. (tables_stand.skip c place rule empty_view (at old).now db small stood.kept there (rejects stood.kept stood.so), skipped_lawful (content_in (at old).now empty_view) c place rule stood.lawful, of_files register _ (at old).now db stood.kept.tables stood.whose (rejects stood.kept stood.so)))
      left cleared
    where
      reads : (db : Database) → reached (board_of db) c ≡ reached_in (rows_of db received) c
      reads db = (board_reads (rows_of db received) (rows_of db version2) c).reached
