-- What is told of a hub that remembered nothing at first is told of its keeper.
use Rattle.std.proofs.Common.{◌≡◌, ◌∙◌, List, [], ◌∷◌, ap, refl, subst, sym, Option, None, Result, Ok, Err}
use Rattle.gaz_steps.specs.Hubs.{MeetsDoor, Runs, Steps, door_of}
use Rattle.gaz_hub.specs.Seen.{hub_seen}
use Rattle.gaz_steps.specs.Step.{Command, Door, Response}
use Rattle.gaz_hub.specs.declared.hub.Hub.{Hub}
use Rattle.gaz_steps.proofs.HubRuns.{runs_none, runs_one}
use Rattle.gaz_commands.specs.Obeying.{Obeys}
use Rattle.gaz_commands.specs.declared.said.Said.{Said}
use Rattle.gaz_stored.specs.Ways.{Asks, GoesBy, Way}
use Rattle.gaz_stored.proofs.Filled.{over_parts}
use Rattle.gaz_waiters.specs.Remembered.{Remembered}
use Rattle.gaz_hub.specs.Waiting.{remembering}
use Rattle.gaz_register.specs.Registers.{RegisterValue}
use Rattle.gaz_keeper.specs.Keeper.{Seen}

module _ (d : Door) (register other : RegisterValue) (waiters : Option Remembered) (a c : Seen) where
  pub runs_alone : (commands : List Command) (responses : List Response) → Runs d (remembering register None a) (remembering other waiters c) commands responses → Runs d a c commands responses
  runs_alone commands responses l =
      record {
        harm = l.harm;
        stands = λ stood fine. let then = l.stands ((stood.0, tt), stood.1) fine in (then.0.0, then.1);
        run = λ stood fine. l.run ((stood.0, tt), stood.1) fine;
        idle = l.idle;
        failures = l.failures;
        trust = l.trust;
        stays = l.stays;
        was_open = l.was_open;
        reaches = λ stood t. l.reaches ((stood.0, tt), stood.1) t;
        stops = λ sound.
            let s = l.stops (λ fine. let stood = sound fine in ((stood.0, tt), stood.1)) in
            record { ever = s.ever; now = s.now; answered = s.answered; received = s.received; whole = s.whole };
      }

-- a hub over a keeper made a step, when it remembered nothing
pub steps_alone : {K : Type 0} (seen : K → Seen) (register : RegisterValue) (hub new : Hub K) (first last : K) (command : Command) (response : Response) → hub.register ≡ register → hub.keeper ≡ first
    → hub.waiters ≡ None → new.keeper ≡ last → Steps (door_of hub.register) (hub_seen seen hub) (hub_seen seen new) command response
    → Runs (door_of register) (seen first) (seen last) (command ∷ []) (response ∷ [])
steps_alone seen register hub new first last command response e f fresh back steps =
    let one = runs_one (door_of hub.register) (hub_seen seen hub) (hub_seen seen new) command response steps in
    let over = over_parts seen (λ r s. Runs (door_of r) s (hub_seen seen new) (command ∷ []) (response ∷ [])) hub register first e f fresh one in
    subst (λ k. Runs (door_of register) (seen first) (seen k) (command ∷ []) (response ∷ [])) back
    (runs_alone (door_of register) register new.register new.waiters (seen first) (seen new.keeper) (command ∷ []) (response ∷ []) over)

-- nothing is asked over a keeper that is left as it is
pub goes_unused : {K : Type 0} (seen : K → Seen) (register : RegisterValue) (way : Way K) (keeper : K) → way keeper keeper [] [] → GoesBy seen register way keeper keeper
goes_unused seen register way keeper went = record { commands = []; responses = []; went = went; harm = λ fine. fine; trust = λ t. t; runs = λ bare can. runs_none (door_of register) (seen keeper) }

-- what a call did to a hub that remembered nothing, it did over its keeper
pub asks_with : {K : Type 0} (seen : K → Seen) (register : RegisterValue) (asks : Result Command Said) (hub new : Hub K) (first last : K) (said : Said) → hub.register ≡ register → hub.keeper ≡ first → hub.waiters ≡ None
    → new.keeper ≡ last → Obeys seen asks hub new said → GoesBy seen register (Asks register asks said) first last
asks_with {K} seen register (Ok command) hub new first last said e f fresh back told = record {
  commands = command ∷ [];
  responses = told.response ∷ [];
  went = record {
    response = told.response;
    asked = refl;
    told = refl;
    says = told.said_is;
    door = subst (λ (t : RegisterValue × K × K). MeetsDoor (door_of t.0) t.1 t.2 command told.response) (λ i. (e i, f i, back i)) told.door;
  };
  harm = λ fine. subst (λ k. (seen k).unharmed) f (told.steps.harm (subst (λ k. (seen k).unharmed) (sym back) fine));
  trust = λ t. subst (λ k. (seen k).trusted) f (told.steps.trust (subst (λ k. (seen k).trusted) (sym back) t));
  runs = λ bare can. steps_alone seen register hub new first last command told.response e f fresh back told.steps;
}
asks_with {K} seen register (Err at_once) hub new first last said e f fresh back told =
    let same : last ≡ first = sym back ∙ ap (λ (h : Hub K). h.keeper) told.1 ∙ f in
    record {
      commands = [];
      responses = [];
      went = (told.0, record { still = same; unasked = refl; untold = refl });
      harm = subst (λ (k : K). (seen k).unharmed) same;
      trust = subst (λ (k : K). (seen k).trusted) same;
      runs = λ bare can. subst (λ (t : K). Runs (door_of register) (seen first) (seen t) [] []) (sym same) (runs_none (door_of register) (seen first));
    }
