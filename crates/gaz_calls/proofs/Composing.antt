-- How calls on the tables are put together that only ask them.
use Rattle.std.proofs.Common.{◌≡◌, ◌∙◌, ℕ, Result, Ok, Err, IfOk, OnErr, OnOk, arith, refl, sym, subst}
use Rattle.std.proofs.lemmas.Result.{IfErr-at_err}
use Rattle.std.specs.Prelude.{◌≢◌, IfErr}
use Rattle.sqlite.specs.Effect.{Database}
use Rattle.sqlite.specs.declared.error.Error.{Error}
use Rattle.sqlite.specs.declared.error.Error.TheVariants.{SqliteFailure}
use Rattle.sqlite.specs.declared.error.ErrorCode.TheVariants.{OutOfMemory}
use Rattle.sqlite.specs.Held.{state}
use Rattle.sqlite.specs.State.{HasCleanDisk, IsUnchanged, State, Survives}
use Rattle.sqlite_trees.specs.declared.store.Store.{Ghosts}
use Rattle.gaz_keeper.specs.declared.fault.ShelfFault.{ShelfFault}
use Rattle.gaz_keeper.specs.declared.fault.ShelfFault.TheVariants.{Memory, Store}
use Rattle.gaz_sql_facts.specs.Changes.{IsSpared}
use Rattle.gaz_sql_facts.specs.Reasons.{HasReason}
use Rattle.gaz_tables.specs.Stores.{HasTables}
use Rattle.gaz_calls.specs.Asking.{AreReady, Asks, AsksTables, Fails, IsAnyway, IsNoFailure, Tallies, Tells}
use Rattle.gaz_kept.specs.Kept.{IsKept}
use Rattle.gaz_calls.specs.Seen.{IsQuiet, IsUnharmed}
use Rattle.gaz_calls.specs.declared.tables.Tables.{Tables}
use Rattle.gaz_calls.proofs.Seeing.{asks_as, asks_nothing, asks_query, asks_then, query_served, quiet_later, tallies_then}

abbrev pub at : {S : Type 0} → {store : Ghosts S} → Tables S store → State
at {store = store} t = state store t.conn

module _ {S : Type 0} {store : Ghosts S} where
  -- a query, once it is known that the connection is open, and what is told of its answer
  pub query_asks : {A B : Type 0} (first sure asked last : Tables S store) (one : Result B ShelfFault) (answer : Result A Error) (result : Result A ShelfFault) (IsAnswer : Database → A → Type 0)
      → AsksTables first sure one IsAnyway
      → AreReady sure
      → (HasCleanDisk (at asked) → HasTables (at sure).now → IfOk answer (IsAnswer (at sure).now))
      → (HasCleanDisk (at asked) → HasTables (at sure).now → OnOk answer (IsUnchanged (at sure) (at asked)))
      → (HasCleanDisk (at asked) → OnErr answer (IsSpared (at sure) (at asked)))
      → (HasCleanDisk (at asked) → HasTables (at sure).now → IfErr answer (HasReason (at sure) (at asked)))
      → ((HasCleanDisk (at sure) → HasTables (at sure).now) → Survives (at sure) (at asked) (λ _. ⊥))
      → asked.failures ≡ sure.failures → asked.at_hand ≡ sure.at_hand
      → Tells (λ e. e ≡ SqliteFailure OutOfMemory) asked last answer result → AsksTables first last result IsAnswer
  query_asks {A} {B} first sure asked last one answer result IsAnswer before ready found stays spared reason leaves same_count same_hand tells = record {
    asks = subst (λ h. Asks (at first) (state store h) result IsAnswer) (sym tells.conn)
        (asks_then (at first) (at sure) (at asked) one result result IsAnyway IsAnswer IsAnswer before.asks
        (asks_query (at sure) (at asked) answer result IsAnswer ready.is_open ready.settled found stays spared leaves tells.same)
        (λ db kept was is. is));
    served = λ quiet kept.
        let all = subst (λ h. IsQuiet (at first) (state store h)) tells.conn quiet in
        let now = quiet_later (at first) (at sure) (at asked) (before.asks.leaves (λ h. kept.tables)) all in
        let rests = before.asks.rests (sure_before now.unharmed) kept.tables in
        let has = subst HasTables (sym rests) kept.tables in
        query_served (at sure) (at asked) answer result (leaves (λ clean. has)) (sure_before now.unharmed).is_open now (reason now.unharmed.clean has) tells.fault tells.memory;
    tallies = tallies_then first.failures sure.failures last.failures one result before.tallies
        (subst (λ (n : ℕ). Tallies n last.failures result) same_count tells.tallies);
    at_hand = tells.at_hand ∙ same_hand ∙ before.at_hand;
  }
    where
      sure_before : IsUnharmed (at asked) → IsUnharmed (at sure)
      sure_before = (asks_query (at sure) (at asked) answer result IsAnswer ready.is_open ready.settled found stays spared leaves tells.same).harm

  -- an answer that needs no asking
  pub asked_nothing : {T : Type 0} (t : Tables S store) (x : T) (R : Database → T → Type 0) → ((db : Database) → IsKept db → R db x) → AsksTables t t (Ok x) R
  asked_nothing t x R goes = record {
    asks = asks_nothing (at t) (Ok x) R (λ h kept. goes (at t).now kept);
    served = λ quiet kept. tt;
    tallies = record { kept = omega arith; store = tt };
    at_hand = refl;
  }

  -- what is made of an answer
  pub answered : {A T : Type 0} (old new : Tables S store) (one : Result A ShelfFault) (x : T) (P : Database → A → Type 0) (R : Database → T → Type 0)
      → AsksTables old new one P → ((db : Database) → IsKept db → IfOk one (P db) → R db x) → AsksTables old new (Ok x) R
  answered old new one x P R asks goes = record {
    asks = asks_as (at old) (at new) one (Ok x) P R asks.asks goes;
    served = λ quiet kept. tt;
    tallies = record { kept = asks.tallies.kept; store = tt };
    at_hand = asks.at_hand;
  }

  -- a fault is passed on
  pub faulted : {A T : Type 0} (old new : Tables S store) (one : Result A ShelfFault) (e : ShelfFault) (P : Database → A → Type 0) (R : Database → T → Type 0)
      → AsksTables old new one P → one ≡ Err e → AsksTables old new (Err e) R
  faulted {A} {T} old new one e P R asks is = record {
    asks = asks_as (at old) (at new) one (Err e) P R asks.asks (λ db kept was. tt);
    served = λ quiet kept. IfErr-at_err (λ f. f ≢ Store) is (asks.served quiet kept);
    tallies = record { kept = asks.tallies.kept; store = (subst (λ r. Tallies old.failures new.failures r) is asks.tallies).store };
    at_hand = asks.at_hand;
  }

  -- a failure that comes of no answer which is right
  pub failed : {A T : Type 0} (old mid new : Tables S store) (one : Result A ShelfFault) (e : ShelfFault) (P : Database → A → Type 0) (R : Database → T → Type 0)
      → AsksTables old mid one P → ((db : Database) → IsKept db → IfOk one (P db) → ⊥) → Fails mid new e → AsksTables old new (Err e) R
  failed {A} {T} old mid new one e P R asks never fails = record {
    asks = let r : Result T ShelfFault = Err e in subst (λ h. Asks (at old) (state store h) r R) (sym fails.conn) (asks_as (at old) (at mid) one (Err e) P R asks.asks (λ db kept was. tt));
    served = λ quiet kept. absurd (never (at old).now kept (asks.asks.right (subst (λ h. IsUnharmed (state store h)) fails.conn quiet.unharmed) kept));
    tallies = record { kept = omega (arith, asks.tallies.kept, fails.kept); store = λ is. let more = fails.counted is in omega (arith, asks.tallies.kept, more) };
    at_hand = fails.at_hand ∙ asks.at_hand;
  }

  -- want of memory after an answer
  pub wanting : {A T : Type 0} (old new : Tables S store) (one : Result A ShelfFault) (P : Database → A → Type 0) (R : Database → T → Type 0) → AsksTables old new one P → AsksTables old new (Err Memory) R
  wanting old new one P R asks = record {
    asks = asks_as (at old) (at new) one (Err Memory) P R asks.asks (λ db kept was. tt);
    served = λ quiet kept same. cc;
    tallies = record { kept = asks.tallies.kept; store = λ e. cc };
    at_hand = asks.at_hand;
  }

  -- one asking call after another, and what is made of their answers
  pub asked_then : {A B T : Type 0} (old mid new : Tables S store) (one : Result A ShelfFault) (two : Result B ShelfFault) (r : Result T ShelfFault)
      (P : Database → A → Type 0) (Q : Database → B → Type 0) (R : Database → T → Type 0)
      → AsksTables old mid one P → AsksTables mid new two Q → Tallies mid.failures new.failures r → (IsNoFailure two → IsNoFailure r)
      → ((db : Database) → IsKept db → IfOk one (P db) → IfOk two (Q db) → IfOk r (R db))
      → AsksTables old new r R
  asked_then old mid new one two r P Q R before after tallies fine goes = record {
    asks = asks_then (at old) (at mid) (at new) one two r P Q R before.asks after.asks goes;
    served = λ quiet kept.
        let rests = before.asks.rests (after.asks.harm quiet.unharmed) kept.tables in
        fine (after.served (quiet_later (at old) (at mid) (at new) (before.asks.leaves (λ h. kept.tables)) quiet) (subst IsKept (sym rests) kept));
    tallies = tallies_then old.failures mid.failures new.failures one r before.tallies tallies;
    at_hand = after.at_hand ∙ before.at_hand;
  }
