-- What is told of a register that grows over a store, from the connection that is given to the one that is handed back.
use Rattle.std.proofs.Common.{◌≡◌, ◌≢◌, ◌∙◌, inl, inr, Result, Ok, Err, OnErr, OnOk, refl, sym, ap, subst}
use Rattle.std.specs.declared.marker.Brand.{Brand}
use Rattle.sqlite.specs.Effect.{Database, IsDatabase}
use Rattle.sqlite.specs.Held.{Held, state}
use Rattle.sqlite.specs.State.{HasCleanDisk, State}
use Rattle.sqlite_trees.specs.declared.store.Store.{Ghosts}
use Rattle.gaz_register.specs.Growing.{Extends, growth_of}
use Rattle.gaz_register.specs.Registers.{RegisterValue}
use Rattle.gaz_register.specs.declared.growth.GrowFault.{GrowFault}
use Rattle.gaz_register.specs.Texts.{register_text}
use Rattle.gaz_tables.specs.Schema.{meta}
use Rattle.gaz_tables.specs.Stores.{HasTables}
use Rattle.gaz_tables.specs.Tables.{rows_of}
use Rattle.gaz_views.specs.View.{empty_view}
use Rattle.gaz_kept.specs.Contents.{content_in}
use Rattle.gaz_kept.specs.Kept.{IsKept}
use Rattle.gaz_kept.specs.Opening.{IsOf}
use Rattle.gaz_kept.specs.Rewriting.{Registers}
use Rattle.gaz_kept.proofs.Rewritten.{rewrites_stand}
use Rattle.gaz_calls.specs.Altering.{MayWrite}
use Rattle.gaz_calls.specs.Growing.{SparesUngrown, TellsGrowth, TellsRegisters, ToldOf, as_kept, register_then}
use Rattle.gaz_calls.proofs.Grown.{growth_is}
use Rattle.gaz_calls.specs.Seen.{IsUnharmed, LeavesKept, kept_by_trees}
use Rattle.gaz_calls.specs.declared.growing.ExtendFault.{ExtendFault}
use Rattle.gaz_calls.specs.declared.growing.ExtendFault.TheVariants.{OtherRegister, RemovedCustodian, ChangedBlocks, Fault, Memory}
use Rattle.gaz_store.specs.Extending.{KeepsContent, WritesRegister}
use Rattle.gaz_store.specs.Store.{seen_in}
use Rattle.gaz_store.specs.declared.store.Store.{Store}
use Rattle.gaz_kept.proofs.SameTrees.{same_content, same_kept, same_rows}
use Rattle.gaz_steps.specs.Hubs.{state_of}
use Rattle.gaz_stored.specs.Extending.{ExtendsOpened, StandsStill, StopsBetween}
use Rattle.gaz_stored.specs.Runs.{StandForRun, hub_in}
use Rattle.gaz_stored.specs.Stopping.{LeavesItself, MayBeLeft}
use Rattle.gaz_stored.specs.Using.{IsOpenedFrom}
use Rattle.gaz_stored.proofs.Beginning.{clean_before, stand_alike}

-- a store's tables that stand for the same hub stand for a partial run as before
pub still : (register : RegisterValue) (old new : Database) → StandForRun register old → IsKept new → hub_in new ≡ hub_in old → StandsStill register old new
still register old new stood kept same = record { hub = same; stands = stand_alike register (content_in old empty_view) new stood.may kept same }

-- and so do those with the same trees
pub same_trees : (register : RegisterValue) (old new : Database) → StandForRun register old → IsDatabase new → new.trees ≡ old.trees → StandsStill register old new
same_trees register old new stood sound trees = still register old new stood (same_kept old new stood.kept sound trees) (ap state_of (same_content old new stood.kept sound trees empty_view))

-- whose the store is, of another connection that showed the same
told_before : {S : Type 0} (g : Ghosts S) (one other after : Held S) (register grown : RegisterValue) (told : Result (Unit {0}) ExtendFault) → (state g other).now ≡ (state g one).now
    → ToldOf g one after register grown told → ToldOf g other after register grown told
told_before g one other after register grown (Ok done) same it = (subst (λ (db : Database). IsOf (register_text register) (rows_of db meta)) (sym same) it.0, it.1)
told_before g one other after register grown (Err OtherRegister) same it = λ mine. it (subst (λ (db : Database). IsOf (register_text register) (rows_of db meta)) same mine)
told_before g one other after register grown (Err RemovedCustodian) same it = subst (λ (db : Database). IsOf (register_text register) (rows_of db meta)) (sym same) it
told_before g one other after register grown (Err ChangedBlocks) same it = subst (λ (db : Database). IsOf (register_text register) (rows_of db meta)) (sym same) it
told_before g one other after register grown (Err Fault) same it = tt
told_before g one other after register grown (Err Memory) same it = tt

module _ {S : Type 0} {g : Ghosts S} (register grown : RegisterValue) (first last : Store S Brand g) (before : Held S) (told : Result (Unit {0}) ExtendFault)
    (from : IsOpenedFrom g register before first)
    (keeps : KeepsContent (seen_in (register_text register) first) (seen_in (register_text (register_then register grown told)) last) told)
    (writes : WritesRegister (state g first.tables.conn) (state g last.tables.conn) grown told)
    (registers : TellsRegisters g first.tables.conn last.tables.conn register grown told) (spares : SparesUngrown g first.tables.conn last.tables.conn register grown) where
  abbrev was : State
  was = state g before

  abbrev mid : State
  mid = state g first.tables.conn

  abbrev is : State
  is = state g last.tables.conn

  -- what is shown once the store is opened
  shown : IsUnharmed mid → mid.now ≡ was.now
  shown h = (from.opened.rests h.clean).now h.is_open

  moved : IsUnharmed mid → HasTables was.now → HasTables mid.now
  moved h has = subst HasTables (sym (shown h)) has

  registers_so : IsUnharmed is → HasTables was.now → ToldOf g before last.tables.conn register grown told
  registers_so h has =
      let fine = writes.harm h in
      told_before g first.tables.conn before last.tables.conn register grown told (sym (shown fine)) (registers h.clean (moved fine has))

  undone_so : IsUnharmed is → HasTables was.now → OnErr told (is.now ≡ was.now)
  undone_so h has = by_told told (writes.undone h (moved (writes.harm h) has))
    where
      by_told : (t : Result (Unit {0}) ExtendFault) → OnErr (as_kept t) (is.now ≡ mid.now) → OnErr t (is.now ≡ was.now)
      by_told (Ok done) same = tt
      by_told (Err why) same = same ∙ shown (writes.harm h)

  stays_so : IsUnharmed is → StandForRun register was.now → StandsStill register was.now is.now
  stays_so h stood =
      let fine = keeps.harm h in
      let stands = from.opened.stands fine stood.kept in
      still register was.now is.now stood (keeps.stands stands h).tables.kept
      (ap state_of (keeps.content stands h) ∙ ap state_of (from.opened.content fine stood.kept))

  whose_so : IsUnharmed is → StandForRun register was.now → IsOf (register_text (register_then register grown told)) (rows_of is.now meta)
  whose_so h stood = (keeps.stands (from.opened.stands (keeps.harm h) stood.kept) h).tables.whose

  module _ (stood : StandForRun register was.now) (itself : LeavesItself was) (db : Database) (left : MayBeLeft is db) where
    clean : HasCleanDisk mid
    clean = writes.trust left.clean

    mine : IsOf (register_text register) (rows_of was.now meta)
    mine = from.judged clean stood.kept.tables

    -- once it is told as done, what is left is of the grown one
    done_so : OnOk told (IsOf (register_text grown) (rows_of db meta))
    done_so = by_told told (keeps.whole (λ fine. from.opened.stands fine stood.kept))
      where
        by_told : (t : Result (Unit {0}) ExtendFault) → OnOk t (LeavesKept (register_text (register_then register grown t)) is) → OnOk t (IsOf (register_text grown) (rows_of db meta))
        by_told (Ok done) whole = (kept_by_trees (register_text grown) db left.sound (whole db.trees left.clean left.left)).whose
        by_told (Err why) none = tt

    -- what could be left before is the same
    as_before : mid.may_leave db.trees → StopsBetween register grown told was.now db
    as_before here = elim (from.opened.leaves.crash clean db.trees here) [
      | inl early ↦
          let trees = itself db.trees (clean_before g before first.tables.conn from.opened.leaves clean) early in
          record {
            still = same_trees register was.now db stood left.sound trees;
            whose = inl (subst (IsOf (register_text register)) (sym (same_rows was.now db stood.kept left.sound trees meta)) mine);
            done = done_so;
          }
      | inr never ↦ absurd never
    ]

    -- what is written is the same, of the grown register
    as_written : Extends register grown → MayWrite mid (Registers (register_text grown)) db.trees → StopsBetween register grown told was.now db
    as_written more made =
        let fine = made.unharmed in
        let kept = subst IsKept (sym (shown fine)) stood.kept in
        let s = rewrites_stand.stands (register_text grown) empty_view mid.now made.db kept made.becomes in
        record {
          still = still register was.now db stood (same_kept made.db db s.kept left.sound made.shown)
              (ap state_of (same_content made.db db s.kept left.sound made.shown empty_view) ∙ ap state_of s.content ∙ ap hub_in (shown fine));
          whose = inr (
            more,
            subst (IsOf (register_text grown)) (sym (same_rows made.db db s.kept left.sound made.shown meta))
                (rewrites_stand.is_of (register_text register) (register_text grown) mid.now made.db kept.tables (subst (λ (d : Database). IsOf (register_text register) (rows_of d meta)) (sym (shown fine)) mine) made.becomes),
          );
          done = done_so;
        }

    has : IsUnharmed mid → HasTables mid.now
    has h = moved h stood.kept.tables

    stops_so : StopsBetween register grown told was.now db
    stops_so = by_growth (growth_of register grown) refl
      where
        ungrown : (growth_of register grown ≢ Ok tt) → StopsBetween register grown told was.now db
        ungrown not = elim ((spares not has).crash left.clean db.trees left.left) [
          | inl here ↦ as_before here
          | inr never ↦ absurd never
        ]

        by_growth : (r : Result (Unit {0}) GrowFault) → growth_of register grown ≡ r → StopsBetween register grown told was.now db
        by_growth (Ok done) e = elim ((writes.leaves has).crash left.clean db.trees left.left) [
          | inl here ↦ as_before here
          | inr made ↦ as_written (growth_is register grown e) made
        ]
        by_growth (Err why) e = ungrown (λ is. let f : Err why ≡ Ok tt = sym e ∙ is in cc)

  pub extends_opened : (after : Held S) → last.tables.conn ≡ after → TellsGrowth register grown told
      → ExtendsOpened g register grown before after told
  extends_opened after back growth =
      subst (λ h. ExtendsOpened g register grown before h told) back (record {
        first = first;
        opened = from;
        trust = writes.trust;
        growth = growth;
        registers = registers_so;
        undone = undone_so;
        stays = stays_so;
        whose = whose_so;
        stops = stops_so;
      })
