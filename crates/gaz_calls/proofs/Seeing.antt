-- What a call that asks the tables tells of them as they are seen.
use Rattle.std.proofs.Common.{◌≡◌, ◌<◌, ◌⊎◌, ◌∙◌, inl, inr, ℕ, true≢false, Result, Ok, Err, IfErr, IfOk, OnErr, OnOk, ap, arith, refl, sym, subst}
use Rattle.std.specs.Prelude.{⊤, IsSome, IsTrue}
use Rattle.std.proofs.lemmas.Bool.{cases_eq}
use Rattle.std.proofs.lemmas.Result.{IfErr-weaker}
use Rattle.sqlite.specs.Effect.{Database}
use Rattle.sqlite.specs.declared.error.Error.{Error}
use Rattle.sqlite.specs.declared.error.Error.TheVariants.{SqliteFailure}
use Rattle.sqlite.specs.declared.error.ErrorCode.TheVariants.{OutOfMemory}
use Rattle.sqlite.specs.State.{HasCleanDisk, IsUnchanged, State, Survives}
use Rattle.sqlite.proofs.StateLemmas.{survives_then}
use Rattle.sqlite_trees.specs.View.{doubt}
use Rattle.gaz_keeper.specs.declared.fault.ShelfFault.{ShelfFault}
use Rattle.gaz_keeper.specs.declared.fault.ShelfFault.TheVariants.{Memory, Store}
use Rattle.gaz_sql_facts.specs.Changes.{IsSpared}
use Rattle.gaz_sql_facts.specs.Reasons.{HasReason, IsHindered}
use Rattle.gaz_tables.specs.Stores.{HasTables}
use Rattle.gaz_calls.specs.Asking.{Asks, IsNoFailure, Tallies}
use Rattle.gaz_kept.specs.Kept.{IsKept}
use Rattle.gaz_calls.specs.Seen.{IsQuiet, IsUnharmed}
use Rattle.gaz_kept.specs.Opening.{IsSettled}

-- ---- what was asked

pub survives_still : (s : State) → Survives s s (λ _. ⊥)
survives_still s = record {
  clean = omega arith;
  shield = λ h. h;
  counts = omega arith;
  limit = refl;
  closes = λ clean h. inl h;
  crash = λ clean db left. inl left;
}

if_ok_any : {T E : Type 0} (r : Result T E) (P : T → Type 0) → ((x : T) → P x) → IfOk r P
if_ok_any (Ok x) P all = all x
if_ok_any (Err e) P all = tt

-- an answer without asking
pub asks_nothing : {T : Type 0} (s : State) (r : Result T ShelfFault) (P : Database → T → Type 0) → (IsUnharmed s → IsKept s.now → IfOk r (P s.now)) → Asks s s r P
asks_nothing s r P right = record {
  harm = λ h. h;
  trust = λ clean. clean;
  rests = λ h has. refl;
  right = right;
  leaves = λ sound. survives_still s;
}

-- one asking call after another, and what is made of their answers
pub asks_then : {A B T : Type 0} (old mid new : State) (first : Result A ShelfFault) (second : Result B ShelfFault) (r : Result T ShelfFault)
    (P : Database → A → Type 0) (Q : Database → B → Type 0) (R : Database → T → Type 0)
    → Asks old mid first P → Asks mid new second Q
    → ((db : Database) → IsKept db → IfOk first (P db) → IfOk second (Q db) → IfOk r (R db))
    → Asks old new r R
asks_then old mid new first second r P Q R one two goes = record {
  harm = λ h. one.harm (two.harm h);
  trust = λ clean. one.trust (two.trust clean);
  rests = λ h has. two.rests h (moved h has) ∙ one.rests (two.harm h) has;
  right = λ h kept.
      let still = one.rests (two.harm h) kept.tables in
      goes old.now kept (one.right (two.harm h) kept) (subst (λ (db : Database). IfOk second (Q db)) still (two.right h (subst IsKept (sym still) kept)));
  leaves = λ sound. survives_then old mid new (λ _. ⊥) (λ _. ⊥) (λ _. ⊥) (λ clean db never. never) (λ clean db never. never) (one.leaves sound)
      (two.leaves (λ h. subst HasTables (sym (one.rests h (sound (one.harm h)))) (sound (one.harm h))));
}
  where
    moved : IsUnharmed new → HasTables old.now → HasTables mid.now
    moved h has = subst HasTables (sym (one.rests (two.harm h) has)) has

-- another answer of the same call
pub asks_as : {A T : Type 0} (old new : State) (first : Result A ShelfFault) (r : Result T ShelfFault) (P : Database → A → Type 0) (R : Database → T → Type 0)
    → Asks old new first P → ((db : Database) → IsKept db → IfOk first (P db) → IfOk r (R db)) → Asks old new r R
asks_as old new first r P R one goes = record {
  harm = one.harm;
  trust = one.trust;
  rests = one.rests;
  right = λ h kept. goes old.now kept (one.right h kept);
  leaves = one.leaves;
}

pub tallies_then : {A T : Type 0} (first second last : ℕ) (one : Result A ShelfFault) (r : Result T ShelfFault) → Tallies first second one → Tallies second last r → Tallies first last r
tallies_then {A} {T} first second last one r before after = record { kept = omega (arith, before.kept, after.kept); store = by_result r after.store }
  where
    by_result : (r : Result T ShelfFault) → IfErr r (λ e. e ≡ Store → second < last) → IfErr r (λ e. e ≡ Store → first < last)
    by_result (Ok x) s = tt
    by_result (Err e) s = λ is. let more = s is in omega (arith, before.kept)

-- ---- what has no reason to fail

-- where nothing failed, nothing failed later
pub quiet_later : (old mid new : State) → Survives old mid (λ _. ⊥) → IsQuiet old new → IsQuiet mid new
quiet_later old mid new s quiet = let counts = s.counts in record {
  unharmed = quiet.unharmed;
  faultless = λ more. quiet.faultless (omega (arith, counts, more));
  unlimited = quiet.unlimited;
}

-- what is asked of an open connection where nothing fails isn't hindered
pub unhindered : (old new : State) → Survives old new (λ _. ⊥) → IsTrue old.is_open → IsQuiet old new → ¬ IsHindered old new
unhindered old new s is_open quiet (inl more) = quiet.faultless more
unhindered old new s is_open quiet (inr (inl shut)) = absurd (true≢false (sym is_open ∙ shut))
unhindered old new s is_open quiet (inr (inr limited)) = absurd (true≢false (sym (subst IsSome (sym s.limit ∙ quiet.unlimited) limited)))

-- so it can but want memory
pub reason_is : (old new : State) → Survives old new (λ _. ⊥) → IsTrue old.is_open → IsQuiet old new → (e : Error) → HasReason old new e → e ≡ SqliteFailure OutOfMemory
reason_is old new s is_open quiet e (inl want) = want
reason_is old new s is_open quiet e (inr hindered) = absurd (unhindered old new s is_open quiet hindered)

-- an error that is want of memory is told as that
pub wants : {A T E : Type 0} (answer : Result A E) (IsWant : E → Type 0) (result : Result T ShelfFault) → OnErr result (OnOk answer ⊥) → ((e : E) → IsWant e → answer ≡ Err e → result ≡ Err Memory) → IfErr answer IsWant → IsNoFailure result
wants answer IsWant (Ok x) fault memory is = tt
wants (Ok x) IsWant (Err e) fault memory is = absurd fault
wants {T = T} (Err f) IsWant (Err e) fault memory is = λ store. let same : ◌≡◌ {A = Result T ShelfFault} (Err Store) (Err Memory) = sym (ap Err store) ∙ memory f is refl in absurd (cc)

pub query_served : {A T : Type 0} (old new : State) (answer : Result A Error) (result : Result T ShelfFault) → Survives old new (λ _. ⊥) → IsTrue old.is_open → IsQuiet old new
    → IfErr answer (HasReason old new) → OnErr result (OnOk answer ⊥) → ((e : Error) → e ≡ SqliteFailure OutOfMemory → answer ≡ Err e → result ≡ Err Memory) → IsNoFailure result
query_served old new answer result s is_open quiet reason fault memory =
    wants answer (λ e. e ≡ SqliteFailure OutOfMemory) result fault memory (IfErr-weaker answer (HasReason old new) (λ e. e ≡ SqliteFailure OutOfMemory) (reason_is old new s is_open quiet) reason)

-- ---- a query

-- the connection shows what it showed, and was open if it is
abbrev Rests : State → State → Type 0
Rests old new = HasCleanDisk new → IsTrue new.is_open → IsTrue old.is_open × (new.now ≡ old.now)

module _ {A : Type 0} (old new : State) (r : Result A Error)
    (settled : IsTrue old.is_open → old.now ≡ old.committed)
    (spared : HasCleanDisk new → OnErr r (IsSpared old new)) where
  pub spared_rests : (HasCleanDisk new → OnOk r (IsUnchanged old new)) → Rests old new
  spared_rests stays clean is_open = by_result r (stays clean) (spared clean)
    where
      by_result : (r : Result A Error) → OnOk r (IsUnchanged old new) → OnErr r (IsSpared old new) → IsTrue old.is_open × (new.now ≡ old.now)
      by_result (Ok x) same none = (same.0.was_open, same.0.now_is)
      by_result (Err e) none (inl same) = (same.0.was_open, same.0.now_is)
      by_result (Err e) none (inr rolled) = let was = rolled.was_open is_open in (was, (rolled.undone is_open).0 ∙ sym (settled was))

-- whatever the tables are, a disk that is clean afterwards was clean before
pub clean_before : (old new : State) (Leaves : _) → ((HasCleanDisk old → HasTables old.now) → Survives old new Leaves) → HasCleanDisk new → HasCleanDisk old
clean_before old new Leaves leaves clean = by_test (cases_eq (doubt old.is_clean) 0)
  where
    by_test : (doubt old.is_clean ≡ 0) ⊎ ((doubt old.is_clean ≡ 0) → ⊥) → HasCleanDisk old
    by_test (inl is) = is
    by_test (inr not) = let s = leaves (λ early. absurd (not early)) in let le = s.clean in omega (arith, le, clean)

-- a query that asks for nothing of any table
pub asks_probe : {A T : Type 0} (old new : State) (answer : Result A Error) (r : Result T ShelfFault) (settled : IsSettled old)
    (stays : HasCleanDisk new → OnOk answer (IsUnchanged old new)) (spared : HasCleanDisk new → OnErr answer (IsSpared old new)) (leaves : Survives old new (λ _. ⊥))
    → Asks old new r (λ _ _. ⊤)
asks_probe old new answer r settled stays spared leaves = record {
  harm = λ h. record { clean = omega (arith, leaves.clean, h.clean); is_open = (rests h.clean h.is_open).0 };
  trust = λ clean. omega (arith, leaves.clean, clean);
  rests = λ h has. (rests h.clean h.is_open).1;
  right = λ h kept. if_ok_any r (λ _. ⊤) (λ _. tt);
  leaves = λ sound. leaves;
}
  where
    rests : Rests old new
    rests = spared_rests old new answer settled spared stays

-- a query of the tables, where it is known that the connection is open
module _ {A : Type 0} (old new : State) (answer : Result A Error) (result : Result A ShelfFault) (IsAnswer : Database → A → Type 0)
    (sure : HasCleanDisk old → IsTrue old.is_open) (settled : IsSettled old)
    (found : HasCleanDisk new → HasTables old.now → IfOk answer (IsAnswer old.now))
    (stays : HasCleanDisk new → HasTables old.now → OnOk answer (IsUnchanged old new))
    (spared : HasCleanDisk new → OnErr answer (IsSpared old new))
    (leaves : (HasCleanDisk old → HasTables old.now) → Survives old new (λ _. ⊥))
    (told : IfOk result (λ x. answer ≡ Ok x)) where
  early : HasCleanDisk new → HasCleanDisk old
  early = clean_before old new (λ _. ⊥) leaves

  right : (r : Result A ShelfFault) → IfOk r (λ x. answer ≡ Ok x) → IfOk answer (IsAnswer old.now) → IfOk r (IsAnswer old.now)
  right (Err e) t is = tt
  right (Ok x) t is = subst (λ a. IfOk a (IsAnswer old.now)) t is

  pub asks_query : Asks old new result IsAnswer
  asks_query = record {
    harm = λ h. record { clean = early h.clean; is_open = sure (early h.clean) };
    trust = early;
    rests = λ h has. (spared_rests old new answer settled spared (λ clean. stays clean has) h.clean h.is_open).1;
    right = λ h kept. right result told (found h.clean kept.tables);
    leaves = λ sound. leaves (λ clean. sound (record { clean = clean; is_open = sure clean }));
  }
