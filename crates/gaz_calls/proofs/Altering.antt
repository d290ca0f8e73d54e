-- What a call on tables tells that writes them in a transaction of its own.
use Rattle.std.proofs.Common.{◌≡◌, ◌∙◌, ℕ, Result, Ok, Err, IfOk, OnErr, OnOk, sym, ap, subst}
use Rattle.std.specs.Prelude.{IsTrue}
use Rattle.sqlite.specs.Effect.{Database}
use Rattle.sqlite.specs.declared.error.Error.{Error}
use Rattle.sqlite.specs.declared.error.Error.TheVariants.{SqliteFailure}
use Rattle.sqlite.specs.declared.error.ErrorCode.TheVariants.{OutOfMemory}
use Rattle.sqlite.specs.Held.{state}
use Rattle.sqlite.specs.State.{HasCleanDisk, State, Survives}
use Rattle.sqlite.proofs.StateLemmas.{survives_then, survives_weaker}
use Rattle.sqlite_trees.specs.Tree.{Trees}
use Rattle.sqlite_trees.specs.declared.store.Store.{Ghosts}
use Rattle.gaz_keeper.specs.declared.fault.ShelfFault.{ShelfFault}
use Rattle.gaz_sql_facts.specs.Changes.{IsUndone, LeavesTheCommit}
use Rattle.gaz_tables.specs.Stores.{HasTables}
use Rattle.gaz_calls.specs.Altering.{Alters, AltersTables, MayWrite}
use Rattle.gaz_calls.specs.Asking.{AreReady, Asks, AsksTables, IsAnyway, Tallies, Tells}
use Rattle.gaz_calls.specs.Seen.{IsUnharmed}
use Rattle.gaz_kept.specs.Opening.{IsSettled}
use Rattle.gaz_calls.specs.declared.tables.Tables.{Tables}
use Rattle.gaz_calls.proofs.Seeing.{clean_before, tallies_then}

-- ---- a statement in a transaction of its own

-- what a stop may leave of such a statement
abbrev Written : State → (Database → Database → Type 0) → Trees → Type 0
Written old Becomes trees = (db : Database) × (trees ≡ db.trees) × Becomes old.now db

-- once it is known that the connection is open
module _ {A B : Type 0} (old mid new : State) (first : Result B ShelfFault) (answer : Result A Error) (result : Result A ShelfFault) (Becomes : Database → Database → Type 0)
    (asks : Asks old mid first IsAnyway) (sure : HasCleanDisk mid → IsTrue mid.is_open) (settled : IsSettled mid)
    (open_still : HasCleanDisk new → OnOk answer (IsTrue mid.is_open × IsTrue new.is_open))
    (written : HasCleanDisk new → HasTables mid.now → OnOk answer (Becomes mid.now new.now × (new.committed ≡ new.now)))
    (undone : HasCleanDisk new → OnErr answer (IsUndone mid new))
    (leaves : (HasCleanDisk mid → HasTables mid.now) → Survives mid new (Written mid Becomes))
    (certain : OnOk answer (LeavesTheCommit new))
    (told : IfOk result (λ x. answer ≡ Ok x)) (fault : OnErr result (OnOk answer ⊥)) where
  early : HasCleanDisk new → IsUnharmed mid
  early clean = let before = clean_before mid new (Written mid Becomes) leaves clean in record { clean = before; is_open = sure before }

  moved : IsUnharmed mid → HasTables old.now → HasTables mid.now
  moved h has = subst HasTables (sym (asks.rests h has)) has

  opens : (r : Result A ShelfFault) → IfOk r (λ x. answer ≡ Ok x) → HasCleanDisk new → OnOk r (IsTrue new.is_open)
  opens (Err e) t clean = tt
  opens (Ok x) t clean = (subst (λ a. OnOk a (IsTrue mid.is_open × IsTrue new.is_open)) t (open_still clean)).1

  changes : (r : Result A ShelfFault) → IfOk r (λ x. answer ≡ Ok x) → mid.now ≡ old.now → OnOk answer (Becomes mid.now new.now × (new.committed ≡ new.now)) → OnOk r (Becomes old.now new.now)
  changes (Err e) t same h = tt
  changes (Ok x) t same h = subst (λ (db : Database). Becomes db new.now) same (subst (λ a. OnOk a (Becomes mid.now new.now × (new.committed ≡ new.now))) t h).0

  nothing : (r : Result A ShelfFault) (a : Result A Error) → OnErr r (OnOk a ⊥) → IsUnharmed new → OnErr a (IsUndone mid new) → OnErr r (new.now ≡ mid.now)
  nothing (Ok x) a f h undo = tt
  nothing (Err e) (Ok x) f h undo = absurd f
  nothing (Err e) (Err x) f h undo = (undo h.is_open).1 ∙ sym (settled (early h.clean).is_open)

  commit : (r : Result A ShelfFault) → IfOk r (λ x. answer ≡ Ok x) → IsUnharmed new → HasTables mid.now → OnOk r ((trees : Trees) → new.may_leave trees → trees ≡ new.now.trees)
  commit (Err e) t h has = tt
  commit (Ok x) t h has = λ trees left.
      let just = subst (λ a. OnOk a (LeavesTheCommit new)) t certain in
      let shown = subst (λ a. OnOk a (Becomes mid.now new.now × (new.committed ≡ new.now))) t (written h.clean has) in
      just h.is_open trees left ∙ ap (λ (db : Database). db.trees) shown.1

  pub alters_once : Alters old new result Becomes
  alters_once = record {
    harm = λ h. asks.harm (early h.clean);
    trust = λ clean. asks.trust (early clean).clean;
    is_open = opens result told;
    done = λ h has. changes result told (asks.rests (early h.clean) has) (written h.clean (moved (early h.clean) has));
    undone = λ h has. on_err result (nothing result answer fault h (undone h.clean)) (asks.rests (early h.clean) has);
    leaves = λ sound. survives_then old mid new (λ _. ⊥) (Written mid Becomes) (MayWrite old Becomes)
        (λ clean trees never. absurd never)
        (λ clean trees made.
        let h = early clean in
        let whole = asks.harm h in
        record {
          unharmed = whole;
          db = made.0;
          shown = made.1;
          becomes = subst (λ (db : Database). Becomes db made.0) (asks.rests h (sound whole)) made.2;
        })
        (asks.leaves sound)
        (leaves (λ clean. let h : IsUnharmed mid = record { clean = clean; is_open = sure clean } in moved h (sound (asks.harm h))));
    committed = λ h has. commit result told h (moved (early h.clean) has);
  }
    where
      on_err : (r : Result A ShelfFault) → OnErr r (new.now ≡ mid.now) → mid.now ≡ old.now → OnErr r (new.now ≡ old.now)
      on_err (Ok x) e same = tt
      on_err (Err x) e same = e ∙ same

-- after a call that asks, of whose answer more is known
pub alters_then : {A B : Type 0} (old mid new : State) (first : Result A ShelfFault) (r : Result B ShelfFault) (P : Database → A → Type 0) (Becomes Whole : Database → Database → Type 0)
    → Asks old mid first P → Alters mid new r Becomes → (IsUnharmed mid → (db : Database) → Becomes old.now db → Whole old.now db) → Alters old new r Whole
alters_then {A} {B} old mid new first r P Becomes Whole asks alters goes = record {
  harm = λ h. asks.harm (alters.harm h);
  trust = λ clean. asks.trust (alters.trust clean);
  is_open = alters.is_open;
  done = λ h has. now_done r (alters.harm h) (asks.rests (alters.harm h) has) (alters.done h (moved (alters.harm h) has));
  undone = λ h has. now_undone r (asks.rests (alters.harm h) has) (alters.undone h (moved (alters.harm h) has));
  leaves = λ sound. survives_then old mid new (λ _. ⊥) (MayWrite mid Becomes) (MayWrite old Whole)
      (λ clean trees never. absurd never)
      (λ clean trees made. record {
        unharmed = asks.harm made.unharmed;
        db = made.db;
        shown = made.shown;
        becomes = joined made.unharmed (asks.rests made.unharmed (sound (asks.harm made.unharmed))) made.db made.becomes;
      })
      (asks.leaves sound)
      (alters.leaves (λ h. moved h (sound (asks.harm h))));
  committed = λ h has. alters.committed h (moved (alters.harm h) has);
}
  where
    moved : IsUnharmed mid → HasTables old.now → HasTables mid.now
    moved h has = subst HasTables (sym (asks.rests h has)) has

    joined : IsUnharmed mid → mid.now ≡ old.now → (db : Database) → Becomes mid.now db → Whole old.now db
    joined h same db c = goes h db (subst (λ (d : Database). Becomes d db) same c)

    now_done : (r : Result B ShelfFault) → IsUnharmed mid → mid.now ≡ old.now → OnOk r (Becomes mid.now new.now) → OnOk r (Whole old.now new.now)
    now_done (Ok x) h same c = joined h same new.now c
    now_done (Err e) h same c = tt

    now_undone : (r : Result B ShelfFault) → mid.now ≡ old.now → OnErr r (new.now ≡ mid.now) → OnErr r (new.now ≡ old.now)
    now_undone (Ok x) same e = tt
    now_undone (Err x) same e = e ∙ same

-- a fault before anything is written
pub alters_not : {A B : Type 0} (old new : State) (one : Result A ShelfFault) (e : ShelfFault) (P : Database → A → Type 0) (Becomes : Database → Database → Type 0)
    → Asks old new one P → Alters {T = B} old new (Err e) Becomes
alters_not old new one e P Becomes asks = record {
  harm = asks.harm;
  trust = asks.trust;
  is_open = λ clean. tt;
  done = λ h has. tt;
  undone = λ h has. asks.rests h has;
  leaves = λ sound. survives_weaker old new (λ _. ⊥) (MayWrite old Becomes) (λ clean trees never. absurd never) (asks.leaves sound);
  committed = λ h has. tt;
}

-- and what is told of its answer
module _ {S : Type 0} {store : Ghosts S} where
  abbrev at : Tables S store → State
  at t = state store t.conn

  pub statement_alters : {A B : Type 0} (first sure asked last : Tables S store) (one : Result B ShelfFault) (answer : Result A Error) (result : Result A ShelfFault) (Becomes : Database → Database → Type 0)
      → AsksTables first sure one IsAnyway
      → AreReady sure
      → (HasCleanDisk (at asked) → OnOk answer (IsTrue (at sure).is_open × IsTrue (at asked).is_open))
      → (HasCleanDisk (at asked) → HasTables (at sure).now → OnOk answer (Becomes (at sure).now (at asked).now × ((at asked).committed ≡ (at asked).now)))
      → (HasCleanDisk (at asked) → OnErr answer (IsUndone (at sure) (at asked)))
      → ((HasCleanDisk (at sure) → HasTables (at sure).now) → Survives (at sure) (at asked) (Written (at sure) Becomes))
      → OnOk answer (LeavesTheCommit (at asked))
      → asked.failures ≡ sure.failures → asked.at_hand ≡ sure.at_hand
      → Tells (λ e. e ≡ SqliteFailure OutOfMemory) asked last answer result → AltersTables first last result Becomes
  statement_alters {A} {B} first sure asked last one answer result Becomes before ready open_still written undone leaves certain same_count same_hand tells = record {
    alters = subst (λ h. Alters (at first) (state store h) result Becomes) (sym tells.conn)
        (alters_once (at first) (at sure) (at asked) one answer result Becomes before.asks ready.is_open ready.settled open_still written undone leaves certain tells.same tells.fault);
    tallies = tallies_then first.failures sure.failures last.failures one result before.tallies
        (subst (λ (n : ℕ). Tallies n last.failures result) same_count tells.tallies);
    at_hand = tells.at_hand ∙ same_hand ∙ before.at_hand;
  }

  -- a fault before anything is written
  pub altered_nothing : {A B : Type 0} (old new : Tables S store) (one : Result A ShelfFault) (e : ShelfFault) (P : Database → A → Type 0) (Becomes : Database → Database → Type 0)
      → AsksTables old new one P → one ≡ Err e → AltersTables {T = B} old new (Err e) Becomes
  altered_nothing {A} {B} old new one e P Becomes asks is = record {
    alters = alters_not (at old) (at new) one e P Becomes asks.asks;
    tallies = record { kept = asks.tallies.kept; store = (subst (λ r. Tallies old.failures new.failures r) is asks.tallies).store };
    at_hand = asks.at_hand;
  }
