-- Calls one after another, whole or cut off, are one run of one hub.
use Rattle.std.proofs.Common.{◌≡◌, ◌∙◌, inl, inr, List, [], ◌∷◌, ◌++◌, Ok, Err, false, refl, ap, subst, sym}
use Rattle.sqlite.specs.Effect.{Database}
use Rattle.sqlite.specs.Held.{Held, state}
use Rattle.sqlite.specs.Order.{Row}
use Rattle.sqlite.specs.State.{HasCleanDisk}
use Rattle.sqlite.specs.declared.types.Value.TheVariants.{Text}
use Rattle.sqlite_trees.specs.declared.store.Store.{Ghosts}
use Rattle.gaz_register.specs.Growing.{Extends}
use Rattle.gaz_register.specs.Registers.{IsRegister, RegisterValue}
use Rattle.gaz_register.specs.Texts.{register_text}
use Rattle.gaz_register.proofs.Grown.{extends-composes}
use Rattle.gaz_register.proofs.Telling.{texts-tell}
use Rattle.gaz_keeper.specs.Received.{HasAllOf, Received}
use Rattle.gaz_tables.specs.Metas.{register_of}
use Rattle.gaz_tables.specs.Schema.{meta}
use Rattle.gaz_tables.specs.Tables.{rows_of}
use Rattle.gaz_kept.specs.Opening.{IsOf, Untouched}
use Rattle.gaz_kept.proofs.MetaRows.{none_first}
use Rattle.gaz_kept.proofs.SameTrees.{same_rows}
use Rattle.gaz_store.specs.Opened.{IsRefused}
use Rattle.gaz_store.specs.declared.store.Store.{Store}
use Rattle.gaz_steps.specs.Growth.{GrownRun, Period, last_register}
use Rattle.gaz_steps.specs.Hubs.{door_of}
use Rattle.gaz_steps.specs.Step.{HubState}
use Rattle.gaz_steps.proofs.Growing.{every_grown_run_holds, growth_keeps_holds}
use Rattle.gaz_steps.proofs.Receiving.{received_more, run_has_all, run_received}
use Rattle.gaz_stored.specs.Calls.{ArePeriodsOf, CallsAreOne, CameTo, CutOff, GoesOnGrown, Grew, IsFoundAfter, Moved, Refused, StaysIn, Used, Whole, found_last, period}
use Rattle.gaz_stored.specs.Extending.{StandsStill}
use Rattle.gaz_stored.specs.Migrating.{MigratesOpened, told_of}
use Rattle.gaz_stored.specs.Runs.{GoesOn, IsStoreOf, StandForRun, hub_in}
use Rattle.gaz_stored.specs.Using.{IsOpenedFrom}
use Rattle.gaz_stored.specs.declared.migrating.Migration.{Migration}
use Rattle.gaz_stored.specs.declared.migrating.Migration.TheVariants.{Done, Current}
use Rattle.gaz_stored.proofs.Beginning.{clean_before}
use Rattle.gaz_stored.proofs.ExtendsOpened.{same_trees}

-- ---- of which register the rows of `meta` are

pub same_row : (r s : Row) (rows : List Row) → rows ≡ r ∷ [] → rows ≡ s ∷ [] → r ≡ s
same_row r s rows e f = let both : r ∷ [] ≡ s ∷ [] = sym e ∙ f in cc

same_register : (one other : RegisterValue) (rows : List Row) → IsRegister one → IsRegister other → IsOf (register_text one) rows → IsOf (register_text other) rows → one ≡ other
same_register one other rows is are mine theirs =
    let row = same_row mine.0 theirs.0 rows mine.1.only theirs.1.only in
    texts-tell one other is are (let texts : Text (register_text one) ≡ Text (register_text other) = sym mine.2 ∙ ap register_of row ∙ theirs.2 in cc)

-- ---- one after another

-- a store's tables are one's of a register that grew
pub grown_stands : (register grown : RegisterValue) (db : Database) → Extends register grown → StandForRun register db → StandForRun grown db
grown_stands register grown db more stood =
    let h = hub_in db in
    record {
      kept = stood.kept;
      may = record {
        known = growth_keeps_holds.known register grown h.received more stood.may.known;
        partial = growth_keeps_holds.partial register grown h.received h.board more stood.may.known stood.may.partial;
      };
    }

runs_then : (register : RegisterValue) (old mid new : HubState) (some more : List Period) → GrownRun register old some mid → GrownRun (last_register register some) mid more new → GrownRun register old (some ++ more) new
runs_then register old mid new [] more still then = subst (λ h. GrownRun register h more new) still then
runs_then register old mid new (period ∷ some) more run then = (run.0, run.1, run.2, runs_then period.register run.0 mid new some more run.3 then)

last_then : (register : RegisterValue) (some more : List Period) → last_register (last_register register some) more ≡ last_register register (some ++ more)
last_then register [] more = refl
last_then register (period ∷ some) more = last_then period.register some more

-- no file is lost
all_then : (register : RegisterValue) (old new : HubState) (periods : List Period) → GrownRun register old periods new → HasAllOf new.received old.received
all_then register old new [] still = subst (λ (h : HubState). HasAllOf h.received old.received) (sym still) (λ p bytes at. at)
all_then register old new (next ∷ later) run = λ p bytes at.
    all_then next.register run.0 new later run.3 p bytes (run_has_all (door_of next.register) old run.0 next.commands next.responses run.2 p bytes at)

module _ {S : Type 0} (g : Ghosts S) where
  -- what a call leads to
  record Leads (register : RegisterValue) (before after : Held S) (found : Database) (came : CameTo g before after) (is_found : IsFoundAfter g before after found) : Type 0 where
    periods : List Period
    periods_are : ArePeriodsOf g came is_found periods
    run : GrownRun register (hub_in (state g before).now) periods (hub_in found)
    last : IsRegister (last_register register periods)
    store : IsStoreOf (last_register register periods) found
    stays : StaysIn g came (hub_in found).received

  module _ (register : RegisterValue) (before after : Held S) (is : IsRegister register) (store : IsStoreOf register (state g before).now) where
    abbrev old : Database
    old = (state g before).now

    -- whoever opened it under a register is of this one
    one_register : (other : RegisterValue) → IsRegister other → {R : Type 0} → (first : Store S R g) → IsOpenedFrom g other before first → HasCleanDisk (state g first.tables.conn) → register ≡ other
    one_register other are first from clean = same_register register other (rows_of old meta) is are store.whose (from.judged clean store.stands.kept.tables)

    stood_of : (other : RegisterValue) → register ≡ other → StandForRun other old
    stood_of other same = subst (λ r. StandForRun r old) same store.stands

    extends_of : (other : RegisterValue) → register ≡ other → Extends register other
    extends_of other same = subst (Extends register) same (extends-composes.itself register)

    -- the same is found, whether it ended whole or was cut off
    same_found : (found : Database) → IsFoundAfter g before after found → Untouched g before after → (hub_in found ≡ hub_in old) × IsStoreOf register found
    same_found found (Whole fine same) rests =
        let is_old = sym same ∙ (rests.rests fine.clean).now fine.is_open in
        (ap hub_in is_old, subst (IsStoreOf register) (sym is_old) store)
    same_found found (CutOff itself may) rests = elim (rests.leaves.crash may.clean found.trees may.left) [
      | inl was ↦
          let trees = itself found.trees (clean_before g before after rests.leaves may.clean) was in
          let still = same_trees register old found store.stands may.sound trees in
          (still.hub, record { stands = still.stands; whose = subst (IsOf (register_text register)) (sym (same_rows old found store.stands.kept may.sound trees meta)) store.whose })
      | inr never ↦ absurd never
    ]

    -- a store is not migrated
    is_current : (other : RegisterValue) (told : Migration) → MigratesOpened g other before after told → Untouched g before after
    is_current other Done it = let no : Done ≡ told_of false = it.told_is ∙ ap told_of (none_first old.schema store.stands.kept.tables.there) in absurd (cc)
    is_current other Current it = it.current refl

    -- nor touched where it's refused
    stays_as : IsRefused g before after → Untouched g before after
    stays_as refused = record { rests = refused.rests; leaves = refused.leaves store.stands.kept.tables }

    module _ (found : Database) where
      abbrev To : (came : CameTo g before after) → IsFoundAfter g before after found → Type 0
      To = Leads register before after found

      unmoved : (came : CameTo g before after) (is_found : IsFoundAfter g before after found) → ArePeriodsOf g came is_found [] → StaysIn g came (hub_in found).received → Untouched g before after → To came is_found
      unmoved came is_found none stays rests =
          let it = same_found found is_found rests in
          record { periods = []; periods_are = none; run = it.0; last = is; store = it.1; stays = stays }

      leads : (came : CameTo g before after) (is_found : IsFoundAfter g before after found) → To came is_found
      leads (Used other first commands responses are uses) (Whole fine same) =
          let one = one_register other are first uses.opened (uses.trust fine.clean) in
          let stood = stood_of other one in
          let goes = subst (GoesOn other (hub_in old) commands responses) same (uses.goes_on fine stood) in
          record {
            periods = period other commands responses ∷ [];
            periods_are = refl;
            run = (hub_in found, extends_of other one, goes.went.run, refl);
            last = are;
            store = goes.store;
            stays = (uses.went_on fine.clean stood, run_received (door_of other) (hub_in old) (hub_in found) commands responses goes.went.run);
          }
      leads (Used other first commands responses are uses) (CutOff itself may) =
          let one = one_register other are first uses.opened (uses.trust may.clean) in
          let stood = stood_of other one in
          let later = uses.stops stood itself found may in
          let far = later.run in
          record {
            periods = period other far.asked far.said ∷ [];
            periods_are = (far.asked, far.said, far.cut, refl);
            run = (hub_in found, extends_of other one, far.run, refl);
            last = are;
            store = later.store;
            stays = (uses.went_on may.clean stood, later.received);
          }
      leads (Grew other grown (Ok done) are new extends) (Whole fine same) =
          let one = one_register other are extends.first extends.opened (extends.trust fine.clean) in
          let stood = stood_of other one in
          let still = subst (StandsStill other old) same (extends.stays fine stood) in
          record {
            periods = period grown [] [] ∷ [];
            periods_are = refl;
            run = (hub_in found, subst (λ r. Extends r grown) (sym one) extends.growth, still.hub, refl);
            last = new;
            store = record {
              stands = grown_stands other grown found extends.growth still.stands;
              whose = subst (λ (db : Database). IsOf (register_text grown) (rows_of db meta)) same (extends.whose fine stood);
            };
            stays = tt;
          }
      leads (Grew other grown (Err why) are new extends) (Whole fine same) =
          let is_old = sym same ∙ extends.undone fine store.stands.kept.tables in
          record { periods = []; periods_are = refl; run = ap hub_in is_old; last = is; store = subst (IsStoreOf register) (sym is_old) store; stays = tt }
      leads (Grew other grown (Ok done) are new extends) (CutOff itself may) =
          let one = one_register other are extends.first extends.opened (extends.trust may.clean) in
          let between = extends.stops (stood_of other one) itself found may in
          record {
            periods = period grown [] [] ∷ [];
            periods_are = refl;
            run = (hub_in found, subst (λ r. Extends r grown) (sym one) extends.growth, between.still.hub, refl);
            last = new;
            store = record { stands = grown_stands other grown found extends.growth between.still.stands; whose = between.done };
            stays = tt;
          }
      leads (Grew other grown (Err why) are new extends) (CutOff itself may) =
          let one = one_register other are extends.first extends.opened (extends.trust may.clean) in
          let between = extends.stops (stood_of other one) itself found may in
          let still = between.still in
          elim between.whose [
            | inl mine ↦ record {
              periods = [];
              periods_are = inl refl;
              run = still.hub;
              last = is;
              store = record { stands = subst (λ r. StandForRun r found) (sym one) still.stands; whose = subst (λ r. IsOf (register_text r) (rows_of found meta)) (sym one) mine };
              stays = tt;
            }
            | inr more ↦ record {
              periods = period grown [] [] ∷ [];
              periods_are = inr refl;
              run = (hub_in found, subst (λ r. Extends r grown) (sym one) more.0, still.hub, refl);
              last = new;
              store = record { stands = grown_stands other grown found more.0 still.stands; whose = more.1 };
              stays = tt;
            }
          ]
      leads (Moved other told migrates) (Whole fine same) = unmoved (Moved other told migrates) (Whole fine same) refl tt (is_current other told migrates)
      leads (Moved other told migrates) (CutOff itself may) = unmoved (Moved other told migrates) (CutOff itself may) refl tt (is_current other told migrates)
      leads (Refused refused) (Whole fine same) = unmoved (Refused refused) (Whole fine same) refl tt (stays_as refused)
      leads (Refused refused) (CutOff itself may) = unmoved (Refused refused) (CutOff itself may) refl tt (stays_as refused)

  -- a call over a store leaves one, of some register
  pub leaves_store : (register : RegisterValue) (before after : Held S) (found : Database) → IsRegister register → IsStoreOf register (state g before).now → CameTo g before after → IsFoundAfter g before after found
      → (last : RegisterValue) × IsRegister last × IsStoreOf last found
  leaves_store register before after found is store came is_found =
      let it = leads register before after is store found came is_found in
      (last_register register it.periods, it.last, it.store)

  -- a disk that is clean behind a call was so before it
  pub was_clean : {before after : Held S} → CameTo g before after → HasCleanDisk (state g after) → HasCleanDisk (state g before)
  was_clean {before} {after} (Used register first commands responses is uses) clean = clean_before g before first.tables.conn uses.opened.opened.leaves (uses.trust clean)
  was_clean {before} {after} (Grew register grown told is are extends) clean = clean_before g before extends.first.tables.conn extends.opened.opened.leaves (extends.trust clean)
  was_clean {before} {after} (Moved register told migrates) clean = migrates.trust clean
  was_clean {before} {after} (Refused refused) clean = refused.trust clean

  -- more files have what a call received too
  stays_more : {before after : Held S} → (came : CameTo g before after) (files bigger : Received) → HasAllOf bigger files → StaysIn g came files → StaysIn g came bigger
  stays_more (Used register first commands responses is uses) files bigger all stays = (stays.0, received_more commands responses files bigger all stays.1)
  stays_more (Grew register grown told is are extends) files bigger all stays = tt
  stays_more (Moved register told migrates) files bigger all stays = tt
  stays_more (Refused refused) files bigger all stays = tt

  -- a run of a hub whose register grows, from a store to what is found
  grown_on : (register : RegisterValue) (db found : Database) (periods : List Period) → IsStoreOf register db → GrownRun register (hub_in db) periods (hub_in found)
      → IsStoreOf (last_register register periods) found → GoesOnGrown register (hub_in db) periods found
  grown_on register db found periods store run last =
      record { run = run; abides = every_grown_run_holds register (hub_in db) (hub_in found) periods store.stands.may.known store.stands.may.partial run; store = last }

  pub calls_are_one : CallsAreOne g
  calls_are_one register db [] is store follow = record { periods = []; periods_are = refl; goes_on = grown_on register db db [] store refl store; stay = tt }
  calls_are_one register db (call ∷ later) is store follow =
      let one = leads register call.before call.after is (subst (IsStoreOf register) (sym follow.0) store) call.found call.came call.is_found in
      let rest = calls_are_one (last_register register one.periods) call.found later one.last one.store follow.1 in
      let first = subst (λ (d : Database). GrownRun register (hub_in d) one.periods (hub_in call.found)) follow.0 one.run in
      let last = found_last g call.found later in
      record {
        periods = one.periods ++ rest.periods;
        periods_are = (one.periods, rest.periods, one.periods_are, rest.periods_are, refl);
        goes_on = grown_on register db last (one.periods ++ rest.periods) store
            (runs_then register (hub_in db) (hub_in call.found) (hub_in last) one.periods rest.periods first rest.goes_on.run)
            (subst (λ r. IsStoreOf r last) (last_then register one.periods rest.periods) rest.goes_on.store);
        stay = (stays_more call.came (hub_in call.found).received (hub_in last).received (all_then (last_register register one.periods) (hub_in call.found) (hub_in last) rest.periods rest.goes_on.run) one.stays, rest.stay);
      }
