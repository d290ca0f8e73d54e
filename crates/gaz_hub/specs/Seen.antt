-- A hub at one moment, as it is seen.
use Rattle.std.specs.Prelude.{◌≡◌, ◌⊎◌, ⊤, Option, None, Some, option_map, ℕ, List, Result, Ok, Err}
use Rattle.std.specs.Prelude.{OnErr}
use Rattle.gaz_extract.specs.Readings.{Looks}
use Rattle.gaz_register.specs.Registers.{RegisterValue}
use Rattle.gaz_keeper.specs.Keeper.{Seen}
use Rattle.gaz_keeper.specs.declared.fault.ShelfFault.{ShelfFault}
use Rattle.gaz_keeper.specs.declared.fault.ShelfFault.TheVariants.{Store}
use Rattle.gaz_waiters.specs.Remembered.{Remembered, with_coming}
use Rattle.gaz_steps.specs.Hubs.{cause_in_answer, door_of}
use Rattle.gaz_steps.specs.Step.{file_refusal, question_refusal}
use Rattle.gaz_hub.specs.Waiting.{remembering}
use Rattle.gaz_steps.specs.declared.answer.Answer.{Answer}
use Rattle.gaz_hub.specs.declared.hub.Hub.{Hub}
use Rattle.gaz_steps.specs.declared.question.Question.{Question}
use Rattle.gaz_steps.specs.declared.refusal.Refusal.{Refusal}

-- a keeper, where `seen` is how that is seen, with what is remembered of it
abbrev pub kept_seen : {K : Type 0} → (K → Seen) → RegisterValue → K × Option Remembered → Seen
kept_seen seen register kept = remembering register kept.1 (seen kept.0)

-- a hub: its keeper, with what it remembers
abbrev pub hub_seen : {K : Type 0} → (K → Seen) → Hub K → Seen
hub_seen seen hub = kept_seen seen hub.register (hub.keeper, hub.waiters)

-- a hub that looks at everyone when it settles next
abbrev pub RemembersNothing : {K : Type 0} → Hub K → Type 0
RemembersNothing hub = hub.waiters ≡ None

-- a question that the door lets in and that ends in a refusal leaves a hub that remembers nothing
abbrev pub ForgetsOver : {K T : Type 0} → Question → Result T Refusal → Hub K → Type 0
ForgetsOver q reply hub =
    question_refusal (door_of hub.register) q ≡ None → OnErr reply (RemembersNothing hub)

-- a file that the door lets in and at which the keeper failed leaves a hub that remembers nothing
abbrev pub ForgetsTaking : {K : Type 0} → ℕ → ℕ → List ℕ → Answer → Hub K → Type 0
ForgetsTaking c volume bytes answer hub =
    file_refusal (door_of hub.register) c volume bytes ≡ None
    → cause_in_answer answer ≡ Some Store → RemembersNothing hub

-- all is remembered, or nothing
abbrev pub IsKeptOrLost : Option Remembered → Option Remembered → Type 0
IsKeptOrLost old new = (new ≡ old) ⊎ (new ≡ None)

-- what was told, where it is sure that the keeper could be asked; else why it isn't
abbrev pub sured : {T : Type 0} → Result T ShelfFault → Result (Unit {0}) ShelfFault
    → Result T ShelfFault
sured (Ok x) (Ok done) = Ok x
sured (Ok x) (Err fault) = Err fault
sured (Err fault) done = Err fault

-- after something was told the keeper is asked whether it can still be asked
pub record IsSured {K T : Type 0} (seen : K → Seen) (old new : K)
    (told result : Result T ShelfFault) : Type 0 where
  pub done : Result (Unit {0}) ShelfFault
  pub asked : Looks (seen old) (seen new) done (λ _. ⊤)
  pub result_is : result ≡ sured told done

-- a call of the keeper alone, after which it is sure that it could be asked
pub record CallsKeeper {K T : Type 0} (seen : K → Seen)
    (Calls : K → Result T ShelfFault → K → Type 0) (old : K × Option Remembered)
    (result : Result T ShelfFault) (new : K × Option Remembered) : Type 0 where
  pub last : K
  pub told : Result T ShelfFault
  pub called : Calls old.0 told last
  pub sure : IsSured seen last new.0 told result
  pub kept : IsKeptOrLost old.1 new.1

-- after a file came as this volume
abbrev pub IsAfterComing : ℕ × ℕ → Option Remembered → Option Remembered → Type 0
IsAfterComing p old new = (new ≡ option_map (λ m. with_coming m p) old) ⊎ (new ≡ None)
