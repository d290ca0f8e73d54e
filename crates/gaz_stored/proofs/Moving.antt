-- A store that is made of the tables of schema 1 stands for the hub that they stood for.
use Rattle.std.proofs.Common.{◌≡◌, ◌⊎◌, inl, inr, Bool, true, false, Result, Ok, Err, arith, refl, ap, subst}
use Rattle.std.proofs.lemmas.Bool.{cases_Bool}
use Rattle.std.specs.declared.marker.Brand.{Brand}
use Rattle.sqlite.specs.Effect.{Database}
use Rattle.sqlite.specs.Held.{Held, state}
use Rattle.sqlite.specs.State.{HasCleanDisk}
use Rattle.sqlite_trees.specs.declared.store.Store.{Ghosts}
use Rattle.gaz_register.specs.Registers.{RegisterValue}
use Rattle.gaz_register.specs.Texts.{register_text}
use Rattle.gaz_tables.specs.Schema.{meta}
use Rattle.gaz_tables.specs.Tables.{rows_of}
use Rattle.gaz_views.specs.View.{empty_view}
use Rattle.gaz_kept.specs.Contents.{content_in}
use Rattle.gaz_kept.specs.Kept.{IsKept}
use Rattle.gaz_kept.specs.Migrated.{first_content_in}
use Rattle.gaz_kept.specs.Opening.{IsOf, Tells, Untouched, has_all}
use Rattle.gaz_kept.specs.OpeningFirst.{MayMove, TellsFirst, has_first}
use Rattle.gaz_kept.specs.declared.refusal.StoreRefusal.{StoreRefusal}
use Rattle.gaz_kept.specs.declared.refusal.StoreRefusal.TheVariants.{BadSchema}
use Rattle.gaz_kept.proofs.Migrated.{migration_stands}
use Rattle.gaz_kept.proofs.Moved.{clean_before}
use Rattle.gaz_calls.specs.Seen.{IsUnharmed, kept_by_trees}
use Rattle.gaz_steps.specs.Hubs.{state_of}
use Rattle.gaz_store.specs.Migrating.{IsMoved}
use Rattle.gaz_store.specs.Store.{seen_in}
use Rattle.gaz_store.specs.declared.store.Store.{Store}
use Rattle.gaz_stored.specs.Migrating.{FirstStandForRun, MigratedStands, MigratesOpened, StandsMoved, StopsMoving, first_hub_in, told_of}
use Rattle.gaz_stored.specs.Runs.{hub_in}
use Rattle.gaz_stored.specs.Stopping.{MayBeLeft}
use Rattle.gaz_stored.specs.declared.migrating.Migration.TheVariants.{Current}
use Rattle.gaz_stored.proofs.Beginning.{stand_alike}
use Rattle.gaz_stored.proofs.Using.{not_so}

-- a store of the same hub does
stands_moved : (register : RegisterValue) (old new : Database) → FirstStandForRun register old → hub_in new ≡ first_hub_in old → IsKept new → IsOf (register_text register) (rows_of new meta) → StandsMoved register old new
stands_moved register old new was hub kept whose =
    record { hub = hub; store = record { stands = stand_alike register (first_content_in old empty_view) new was.may kept hub; whose = whose } }

pub migrated_stands : MigratedStands
migrated_stands register old new was mine moves =
    let text = register_text register in
    let s = migration_stands.stands text empty_view old new was.kept moves in
    stands_moved register old new was (ap state_of s.content) s.kept (migration_stands.is_of text text old new was.kept.tables mine moves)

-- a store that is told as current was none of schema 1
not_first : (first : Bool) → told_of first ≡ Current → first ≡ false
not_first true e = absurd (cc)
not_first false e = refl

-- what is told as Ok isn't refused for want of both
some_of : (all first : Bool) → (all ≡ false → first ≡ false → ◌≡◌ {A = Result (Unit {0}) StoreRefusal} (Ok tt) (Err BadSchema)) → (all ≡ true) ⊎ (first ≡ true)
some_of all first why = elim (cases_Bool all) [
  | inl is ↦ inl is
  | inr not ↦ inr (not_so first (why not))
]

module _ {S : Type 0} (g : Ghosts S) (register : RegisterValue) (before : Held S) where
  pub stops_moving : (after : Held S) (r : _) → MayMove g before after r (register_text register) → StopsMoving g register before after
  stops_moving after r leaves first mine itself trees clean left =
      let s = leaves (λ early opened. first.kept.tables) in
      let fine : HasCleanDisk (state g before) = let le = s.clean in omega (arith, le, clean) in
      elim (s.crash clean trees left) [
        | inl was ↦ inl (itself trees fine was)
        | inr made ↦ inr (made.1.0, made.1.1, migrated_stands register (state g before).now made.1.0 first mine made.1.2)
      ]

  -- what a stop leaves of a store that was made of the tables of schema 1 stands for that hub too
  stops_moved : (store : Store S Brand g) → IsMoved (state g before) (state g store.tables.conn) (register_text register) (seen_in (register_text register) store) → IsUnharmed (state g store.tables.conn)
      → FirstStandForRun register (state g before).now → (db : Database) → MayBeLeft (state g store.tables.conn) db → StandsMoved register (state g before).now db
  stops_moved store moved fine was db left =
      let kept = kept_by_trees (register_text register) db left.sound (moved.whole fine was.kept db.trees left.clean left.left) in
      let content = moved.leaves fine was.kept (content_in db empty_view) (record { clean = left.clean; db = db; sound = left.sound; left = left.left; content = refl }) in
      stands_moved register (state g before).now db was (ap state_of content) kept.kept kept.whose

  pub migrates_opened : (store : Store S Brand g) (after : Held S) → store.tables.conn ≡ after
      → (has_all (state g before).now.schema ≡ false → has_first (state g before).now.schema ≡ false → ◌≡◌ {A = Result (Unit {0}) StoreRefusal} (Ok tt) (Err BadSchema))
      → IsMoved (state g before) (state g store.tables.conn) (register_text register) (seen_in (register_text register) store)
      → Tells g before store.tables.conn (Ok tt) (register_text register) → TellsFirst g before store.tables.conn (Ok tt) (register_text register)
      → (has_first (state g before).now.schema ≡ false → Untouched g before store.tables.conn) → MayMove g before store.tables.conn (Ok tt) (register_text register)
      → (first : Bool) → first ≡ has_first (state g before).now.schema → MigratesOpened g register before after (told_of first)
  migrates_opened store after back lacking moved told told_first untouched leaves first is =
      subst (λ h. MigratesOpened g register before h (told_of first)) back (record {
        some = some_of (has_all (state g before).now.schema) (has_first (state g before).now.schema) lacking;
        told_is = ap told_of is;
        of_store = told;
        of_first = told_first;
        trust = clean_before (state g before) (state g store.tables.conn) _ _ leaves;
        current = λ e. untouched (subst (λ b. b ≡ false) is (not_first first e));
        becomes = λ fine has. moved.becomes fine has;
        moves = λ fine was. migrated_stands register (state g before).now (state g store.tables.conn).now was (moved.of_register fine was.kept.tables) (moved.becomes fine was.kept.tables);
        stops = stops_moved store moved;
      })
