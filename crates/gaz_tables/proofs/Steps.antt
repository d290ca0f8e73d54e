-- A statement within a transaction, and one call after another.
use Rattle.std.proofs.Common.{◌≡◌, ◌⊎◌, inl, inr, ◌∙◌, ℕ, Bool, true, false, cond, List, Option, Some, None, Vec, Result, Ok, Err, IfOk, OnOk, arith, refl, sym, ap, subst}
use Rattle.std.specs.Prelude.{IsTrue, IfErr}
use Rattle.std.specs.declared.alloc.Global.{Global}
use Rattle.std.specs.Result.{IsErr}
use Rattle.sqlite_schema.specs.declared.command.Returning.{Returning}
use Rattle.sqlite.proofs.InsideLemmas.{inside_keeps, keeps_then, unchanged_keeps}
use Rattle.sqlite.proofs.StateLemmas.{survives_then}
use Rattle.sqlite.specs.Held.{Held, state}
use Rattle.sqlite.specs.Order.{Row}
use Rattle.sqlite.specs.Schema.{Schema}
use Rattle.sqlite.specs.Clock.{timed}
use Rattle.sqlite.specs.State.{State, HasCleanDisk, ExecutesInside, FailsToQuery, IsTooLate, KeepsCommit, Shown, ShowsRows, Survives}
use Rattle.sqlite.specs.declared.error.Error.{Error}
use Rattle.sqlite_trees.specs.declared.store.Store.{Ghosts}
use Rattle.sqlite_trees.specs.Tree.{Trees}
use Rattle.gaz_sql_facts.proofs.Texts.{spared_query}
use Rattle.gaz_tables.specs.Creating.{Gains, Widens}
use Rattle.gaz_tables.proofs.Growing.{gains_both}
use Rattle.gaz_tables.specs.Stores.{StaysInside, WasOpen}

-- ---- a statement

module _ {S : Type 0} (g : Ghosts S) (old new : Held S) (sql : List ℕ) (params : Row) (r : Result ℕ Error) (refusal : Error)
    (ended : old.in_transaction ≡ false → (r ≡ Err refusal) × (new ≡ old))
    (runs : HasCleanDisk (state g new) → IsTrue old.in_transaction → ExecutesInside 0 sql params (state g old) (state g new) r) where
  -- once the transaction has ended, nothing is done
  pub done_inside : (P : Type 0) → (IsTrue old.in_transaction → OnOk r P) → OnOk r P
  done_inside P done = by_mode old.in_transaction refl
    where
      by_mode : (b : Bool) → old.in_transaction ≡ b → OnOk r P
      by_mode true inside = done inside
      by_mode false over = subst (λ q. OnOk q P) (sym (ended over).0) tt

  open_after : (r : Result ℕ Error) → ExecutesInside 0 sql params (state g old) (state g new) r → OnOk r (IsTrue (state g old).is_open × IsTrue (state g new).is_open)
  open_after (Err e) h = tt
  open_after (Ok count) h = (h.1.was_open, h.1.is_open)

  pub was_open : WasOpen g old new r
  was_open clean = done_inside _ (λ inside. open_after r (runs clean inside))

  mode_after : (r : Result ℕ Error) → ExecutesInside 0 sql params (state g old) (state g new) r → IsTrue old.in_transaction → OnOk r (new.in_transaction ≡ old.in_transaction)
  mode_after (Err e) h inside = tt
  mode_after (Ok count) h inside = h.1.mode ∙ sym inside

  kept_by : HasCleanDisk (state g new) → (b : Bool) → old.in_transaction ≡ b → KeepsCommit (state g old) (state g new)
  kept_by clean true inside = inside_keeps (state g old) (state g new) 0 false sql params r (runs clean inside)
  kept_by clean false over = subst (λ h. KeepsCommit (state g old) (state g h)) (sym (ended over).1) (record { was_open = λ h. h; committed = λ h. refl })

  pub stays_inside : Survives (state g old) (state g new) (λ _. ⊥) → StaysInside g old new r
  stays_inside leaves = record {
    goes_on = λ clean. done_inside _ (λ inside. mode_after r (runs clean inside) inside);
    kept = λ clean. kept_by clean old.in_transaction refl;
    leaves = leaves;
  }

-- ---- a query

-- within a transaction it commits nothing, whatever the text is
pub query_keeps : (sql : List ℕ) (params : Row) (old new : State) → IsTrue old.in_transaction → (r : Result (Vec Row Global) Error) → IfOk r (λ rows. Shown sql params old new rows.items)
    → IfErr r (λ e. FailsToQuery sql params old new e ⊎ IsTooLate sql params old new e) → KeepsCommit old new
unfolding Shown
query_keeps sql params old new inside (Ok rows) shown failed = by_returning shown.0.returning shown.2
  where
    by_returning : (returning : Option Returning) → ShowsRows old new sql shown.0 (timed params shown.0.formats shown.1.now) rows.items returning → KeepsCommit old new
    by_returning None it = unchanged_keeps old new (inl it.3)
    by_returning (Some what) it =
        record { was_open = λ is_open. it.1.shown.was_open; committed = λ is_open. it.1.shown.committed_is ∙ ap (λ b. cond b old.committed new.now) inside }
query_keeps sql params old new inside (Err e) shown (inl failed) = unchanged_keeps old new (spared_query {A = Vec Row Global} sql params old new (Err e) failed)
query_keeps sql params old new inside (Err e) shown (inr late) = unchanged_keeps old new (inl late.5)

-- ---- one call after another

module _ {S A B : Type 0} (g : Ghosts S) (old mid new : Held S) (x : A) (r : Result B Error) (first : StaysInside g old mid (Ok x)) (second : StaysInside g mid new r) where
  pub clean_before : HasCleanDisk (state g new) → HasCleanDisk (state g mid)
  clean_before clean = let le = second.leaves.clean in omega (arith, le, clean)

  mode_then : (r : Result B Error) → mid.in_transaction ≡ old.in_transaction → OnOk r (new.in_transaction ≡ mid.in_transaction) → OnOk r (new.in_transaction ≡ old.in_transaction)
  mode_then (Err e) one two = tt
  mode_then (Ok y) one two = two ∙ one

  pub inside_then : StaysInside g old new r
  inside_then = record {
    goes_on = λ clean. mode_then r (first.goes_on (clean_before clean)) (second.goes_on clean);
    kept = λ clean. keeps_then (state g old) (state g mid) (state g new) (first.kept (clean_before clean)) (second.kept clean);
    leaves = survives_then (state g old) (state g mid) (state g new) (λ _. ⊥) (λ _. ⊥) (λ _. ⊥) (λ clean db never. never) (λ clean db never. never) first.leaves second.leaves;
  }

  -- what a database gains by one call and then by another, where the second has its room once the first is done
  pub widens_then : (First Second Both : Schema → Type 0) (between gets : Schema → Schema) → (Both (state g old).now.schema → First (state g old).now.schema)
      → (Both (state g old).now.schema → Gains (between (state g old).now.schema) (state g old).now (state g mid).now → Second (between (state g old).now.schema))
      → Widens g old mid First between (Ok x) → Widens g mid new Second gets r → Widens g old new Both (λ s. gets (between s)) r
  widens_then First Second Both between gets begins goes_on one two clean room =
      let first = one (clean_before clean) (begins room) in
      by_result r (two clean (subst Second (sym first.schema_is) (goes_on room first))) first
    where
      by_result : (r : Result B Error) → OnOk r (Gains (gets (state g mid).now.schema) (state g mid).now (state g new).now) → Gains (between (state g old).now.schema) (state g old).now (state g mid).now
          → OnOk r (Gains (gets (between (state g old).now.schema)) (state g old).now (state g new).now)
      by_result (Err e) h first = tt
      by_result (Ok y) h first =
          gains_both (between (state g old).now.schema) (gets (between (state g old).now.schema)) (state g old).now (state g mid).now (state g new).now first
          (subst (λ s. Gains (gets s) (state g mid).now (state g new).now) first.schema_is h)

pub none_done : {B : Type 0} (P : Type 0) (q : Result B Error) → IsErr q → OnOk q P
none_done P (Err e) failed = tt
none_done P (Ok y) failed = absurd (let no = failed in cc)

module _ {S A B : Type 0} (g : Ghosts S) (old new : Held S) where
  -- what is done answers another value, or a fault
  pub inside_done : (x : A) (y : B) → StaysInside g old new (Ok x) → StaysInside g old new (Ok y)
  inside_done x y h = record { goes_on = h.goes_on; kept = h.kept; leaves = h.leaves }

  pub inside_failed : (r : Result A Error) (q : Result B Error) → IsErr q → StaysInside g old new r → StaysInside g old new q
  inside_failed r q failed h = record { goes_on = λ clean. none_done _ q failed; kept = h.kept; leaves = h.leaves }

-- ---- a transaction of its own

-- while a store is open, a stop leaves the last commit and nothing else
pub leaves_the_commit : {S A : Type 0} (g : Ghosts S) (s : S) → ((s : S) (db : Trees) → IsTrue (g.view s).is_open → g.recovers s db → db ≡ (g.view s).committed)
    → (r : Result A Error) → OnOk r (IsTrue (g.view s).is_open → (db : Trees) → g.recovers s db → db ≡ (g.view s).committed)
leaves_the_commit g s settled (Err e) = tt
leaves_the_commit g s settled (Ok x) = λ is_open db left. settled s db is_open left
