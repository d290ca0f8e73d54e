-- What is said of a hub that was used over a store, from the connection that is given to the one that is handed back.
use Rattle.std.proofs.Common.{◌≡◌, inl, inr, ℕ, Bool, true, false, List, [], subst, sym, Result, Ok, Err}
use Rattle.std.proofs.lemmas.Bool.{cases_Bool}
use Rattle.std.specs.declared.marker.Brand.{Brand}
use Rattle.sqlite.specs.Held.{Held, state}
use Rattle.sqlite.specs.State.{HasCleanDisk, State}
use Rattle.sqlite_trees.specs.declared.store.Store.{Ghosts}
use Rattle.gaz_register.specs.Registers.{RegisterValue}
use Rattle.gaz_register.specs.Texts.{register_text}
use Rattle.gaz_keeper.specs.Keeper.{Seen}
use Rattle.gaz_tables.specs.Creating.{HasRoom}
use Rattle.gaz_kept.specs.Opening.{Judges, Tells, has_all}
use Rattle.gaz_kept.specs.declared.refusal.StoreRefusal.{StoreRefusal}
use Rattle.gaz_kept.specs.declared.refusal.StoreRefusal.TheVariants.{BadSchema}
use Rattle.gaz_calls.specs.Seen.{IsUnharmed}
use Rattle.gaz_calls.specs.declared.tables.Tables.{Tables}
use Rattle.gaz_store.specs.Opened.{IsMade, IsOpened}
use Rattle.gaz_store.specs.Store.{seen_beside, seen_in}
use Rattle.gaz_store.specs.declared.progress.Judging.{Judging}
use Rattle.gaz_store.specs.declared.store.Store.{Store}
use Rattle.gaz_steps.specs.Hubs.{Runs, door_of}
use Rattle.gaz_steps.specs.Step.{Command, Response, new_hub}
use Rattle.gaz_steps.proofs.HubRuns.{runs_none}
use Rattle.gaz_stored.specs.Runs.{GoesOn, StandForRun, hub_in}
use Rattle.gaz_stored.specs.Using.{IsOpenedFrom, IsSame, UsedAs, Uses, UsesOpened}
use Rattle.gaz_stored.specs.Ways.{Way}
use Rattle.gaz_stored.proofs.Beginning.{begun_new, begun_opened, leaves_opened}
use Rattle.gaz_stored.proofs.Below.{can_mirror, rests_bare}
use Rattle.gaz_stored.proofs.Going.{finds, goes_on, went_on}

-- what is so of a store is so whatever names its register
same_seen : {S R N : Type 0} {g : Ghosts S} (text : List ℕ) (one : Store S R g) (other : Store S N g) → IsSame one other → (P : State → Seen → Type 0) → P (state g one.tables.conn) (seen_in text one)
    → P (state g other.tables.conn) (seen_in text other)
same_seen {S} {R} {N} {g} text one other same P =
    subst (λ (p : Tables S g × Judging). P (state g p.0.conn) (seen_beside text (state g p.0.conn) p.0.at_hand p.1 p.0.failures)) (λ i. (sym same.tables i, sym same.judging i))

-- what is told as Ok is refused for no reason
pub not_so : (b : Bool) → (b ≡ false → ◌≡◌ {A = Result (Unit {0}) StoreRefusal} (Ok tt) (Err BadSchema)) → b ≡ true
not_so b why = elim (cases_Bool b) [ inl is ↦ is | inr not ↦ let no = why not in absurd (cc) ]

-- a store that is told of was there
pub opened_from : {S R : Type 0} {g : Ghosts S} (register : RegisterValue) (before : Held S) (first : Store S R g) → (has_all (state g before).now.schema ≡ false → ◌≡◌ {A = Result (Unit {0}) StoreRefusal} (Ok tt) (Err BadSchema))
    → IsOpened (state g before) (state g first.tables.conn) (register_text register) (seen_in (register_text register) first) → Tells g before first.tables.conn (Ok tt) (register_text register)
    → Judges g before first.tables.conn (Ok tt) (register_text register) → IsOpenedFrom g register before first
opened_from {S} {R} {g} register before first lacking opened told judged =
    record { all = not_so (has_all (state g before).now.schema) lacking; opened = opened; told = told; judged = judged }

-- so is that it was opened
same_opened : {S R N : Type 0} {g : Ghosts S} (register : RegisterValue) (before : Held S) (one : Store S R g) (other : Store S N g) → IsSame one other → IsOpenedFrom g register before one → IsOpenedFrom g register before other
same_opened {S} {R} {N} {g} register before one other same from = record {
  all = from.all;
  opened = same_seen (register_text register) one other same (λ s seen. IsOpened (state g before) s (register_text register) seen) from.opened;
  told = subst (λ (t : Tables S g). Tells g before t.conn (Ok tt) (register_text register)) (sym same.tables) from.told;
  judged = subst (λ (t : Tables S g). Judges g before t.conn (Ok tt) (register_text register)) (sym same.tables) from.judged;
}

module _ {S : Type 0} {g : Ghosts S} (register : RegisterValue) (before after : Held S) where
  uses : (first last : Store S Brand g) (commands : List Command) (responses : List Response) → (IsUnharmed (state g last.tables.conn) → IsUnharmed (state g first.tables.conn)) → (HasCleanDisk (state g last.tables.conn) → HasCleanDisk (state g first.tables.conn)) → IsOpenedFrom g register before first
      → last.tables.conn ≡ after → (StandForRun register (state g before).now → Runs (door_of register) (seen_in (register_text register) first) (seen_in (register_text register) last) commands responses) → Uses g register first before after commands responses
  uses first last commands responses harm trust from back runs =
      let hub = hub_in (state g before).now in
      let begun = begun_opened register first before from in
      subst (λ h. Uses g register first before h commands responses) back (record {
        opened = from;
        harm = harm;
        trust = trust;
        went_on = λ clean stood. went_on register first last hub commands responses stood.may.partial (begun stood) (runs stood) clean;
        goes_on = λ fine stood. goes_on register first last hub commands responses (begun stood (harm fine)) (runs stood) fine;
        stops = λ stood itself. finds register first last hub commands responses stood.may.partial (begun stood) (leaves_opened register first before from stood itself) (runs stood);
      })

  module _ (way : Way (Store S Brand g)) (given : Store S Brand g) (it : UsedAs Brand (register_text register) register way given after) where
    pub used_opened : IsOpenedFrom g register before given → UsesOpened g register way before after
    used_opened from_given =
        let from = same_opened register before given it.first it.same from_given in
        record {
          first = it.first;
          last = it.last;
          commands = it.goes.commands;
          responses = it.goes.responses;
          went = it.goes.went;
          back = it.back;
          uses = uses it.first it.last it.goes.commands it.goes.responses it.goes.harm it.goes.trust from it.back
              (λ stood. it.goes.runs (rests_bare (register_text register)) (λ fine. can_mirror (register_text register) (door_of register) it.first (begun_opened register it.first before from stood fine).0));
        }

-- a store that was made where there was room is one of which nothing was asked
pub made_alone : {S R : Type 0} {g : Ghosts S} (register : RegisterValue) (before : Held S) (store : Store S R g) → IsMade (state g before) (state g store.tables.conn) (register_text register) (seen_in (register_text register) store) → HasRoom (state g before).now.schema
    → IsUnharmed (state g store.tables.conn) → GoesOn register new_hub [] [] (state g store.tables.conn).now
made_alone register before store made room fine = goes_on register store store new_hub [] [] (begun_new register store before made room fine) (runs_none (door_of register) (seen_in (register_text register) store)) fine
