-- What a hub over a keeper reads off a settled board, and how it takes a file in.
use Rattle.std.specs.Prelude.{◌≡◌, ◌≤◌, ◌<◌, ⊤, ℕ, false, List, Option, Some, None, IsSome}
use Rattle.std.specs.FinMap as map
use Rattle.sha2.specs.Sha256.{sha256}
use Rattle.gaz_keeper.specs.Board.{Board}
use Rattle.gaz_keeper.specs.Keeper.{IsNew, IsNotOpen, Seen}
use Rattle.gaz_keeper.specs.Received.{Received}
use Rattle.gaz_keeper.specs.declared.fault.ShelfFault.TheVariants.{Store}
use Rattle.gaz_steps.specs.Answers.{IsTaken}
use Rattle.gaz_steps.specs.Hubs.{IsSoundFor, Reaches, StandsFor, cause_in, cause_in_answer}
use Rattle.gaz_steps.specs.Hubs.{is_declined, refusal_in_answer, state_of}
use Rattle.gaz_steps.specs.Outcomes.{outcome, wants}
use Rattle.gaz_steps.specs.Standing.{NothingReady}
use Rattle.gaz_steps.specs.Step.{Door, Submit, Submits, Submitted}
use Rattle.gaz_steps.specs.Stops.{StopsCall}
use Rattle.gaz_steps.specs.declared.answer.Answer.{Answer}
use Rattle.gaz_steps.specs.declared.answer.Answer.TheVariants.{New, Repeat, Taken, Refused}
use Rattle.gaz_steps.specs.declared.outcome.Outcome.{Outcome}
use Rattle.gaz_steps.specs.declared.outcome.Outcome.TheVariants.{Held}

-- the outcome of a received file on a settled board
abbrev pub IsOutcome : Received → Board → ℕ → ℕ → Outcome → Type 0
IsOutcome files board c volume told =
    IsSome (map.get files (c, volume)) → NothingReady files board
    → outcome files board c volume ≡ Some told

-- what the next volume waits for is named, where it waits for something
abbrev pub IsHeld : Received → Board → ℕ → Outcome → Type 0
IsHeld files board c told =
    (whom volume : ℕ) → wants files board c ≡ Some (whom, volume) → told ≡ Held whom volume

-- the digest of a received file, and its outcome on a settled board
pub record IsToldBy (files : Received) (board : Board) (c volume : ℕ) (digest : List ℕ)
    (told : Outcome) : Type 0 where
  pub bytes : List ℕ
  pub there : map.get files (c, volume) ≡ Some bytes
  pub digest_is : digest ≡ sha256 bytes
  pub outcome_is : IsOutcome files board c volume told

abbrev pub IsToldNow : Received → Board → ℕ → ℕ → Option (List ℕ × Outcome) → Type 0
IsToldNow files board c volume None = map.get files (c, volume) ≡ None
IsToldNow files board c volume (Some told) = IsToldBy files board c volume told.0 told.1

-- the answer to a file whose pair was received before; none where it wasn't
abbrev pub IsAgain : Received → Board → ℕ → ℕ → List ℕ → Option Answer → Type 0
IsAgain files board c volume bytes None = map.get files (c, volume) ≡ None
IsAgain files board c volume bytes (Some (Repeat told)) =
    (map.get files (c, volume) ≡ Some bytes) × IsOutcome files board c volume told
IsAgain files board c volume bytes (Some (Taken digest)) = IsTaken files c volume bytes digest
IsAgain files board c volume bytes (Some (New told)) = ⊥
IsAgain files board c volume bytes (Some (Refused r)) = ⊥

-- the answer is no refusal of the door
abbrev pub IsPastDoor : Answer → Type 0
IsPastDoor (New told) = ⊤
IsPastDoor (Repeat told) = ⊤
IsPastDoor (Taken digest) = ⊤
IsPastDoor (Refused r) = IsSome (cause_in r)

-- the answer tells that the pair was received before
abbrev pub IsOfBefore : Answer → Type 0
IsOfBefore (New told) = ⊥
IsOfBefore (Repeat told) = ⊤
IsOfBefore (Taken digest) = ⊤
IsOfBefore (Refused r) = ⊥

abbrev pub AnyIsOfBefore : Option Answer → Type 0
AnyIsOfBefore None = ⊤
AnyIsOfBefore (Some answer) = IsOfBefore answer

-- a file that is new is received, and all is settled
pub record TakesIn (door : Door) (old new : Seen) (c volume : ℕ) (bytes : List ℕ)
    (answer : Answer) : Type 0 where
  pub harm : new.unharmed → old.unharmed
  pub stands : StandsFor door old → IsNew old.content c volume → new.unharmed → StandsFor door new
  pub step : StandsFor door old → IsNew old.content c volume → new.unharmed
      → Submits door (state_of old.content) c volume bytes answer (state_of new.content)
  pub was_open : is_declined (Submitted answer) ≡ false → new.trusted → old.unharmed
  pub is_open : refusal_in_answer answer ≡ None → new.trusted → new.unharmed
  pub reaches : StandsFor door old → IsNew old.content c volume → new.trusted
      → Reaches door (state_of old.content) (Submit c volume bytes) (Submitted answer)
  pub idle : IsNotOpen new.progress
  pub kept : old.failures ≤ new.failures
  pub trust : new.trusted → old.trusted
  pub cause : StandsFor door old → IsNew old.content c volume → new.unharmed
      → cause_in_answer answer ≡ Some Store → old.failures < new.failures
  pub stops : IsSoundFor door old → (old.unharmed → IsNew old.content c volume)
      → StopsCall door old new (state_of old.content) (state_of new.content)
      (Submit c volume bytes) (Submitted answer)
