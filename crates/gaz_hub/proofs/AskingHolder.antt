-- A look-up that asks the holder of the number.
use Rattle.std.proofs.Common.{◌≡◌, ℕ, refl, sym, ◌∙◌, subst}
use Rattle.std.specs.Prelude.{Option, Result}
use Rattle.gaz_extract.specs.Lookups.{lookup}
use Rattle.gaz_extract.specs.Readings.{Looks}
use Rattle.gaz_extract.specs.declared.found.Found.{Found}
use Rattle.gaz_extract.proofs.Readings.{if_ok}
use Rattle.gaz_register.specs.Registers.{IsRegister, RegisterValue}
use Rattle.gaz_keeper.specs.Keeper.{Content, Seen}
use Rattle.gaz_keeper.specs.declared.fault.ShelfFault.{ShelfFault}
use Rattle.gaz_steps.specs.Hubs.{StandsFor, Steps, door_of}
use Rattle.gaz_steps.specs.Owners.{told_by_holder}
use Rattle.gaz_hub.specs.Settling.{AnswersSettled, Tells}
use Rattle.gaz_steps.specs.Standing.{NothingReady}
use Rattle.gaz_steps.specs.Step.{Door, Pose, Replied}
use Rattle.gaz_steps.specs.declared.question.Question.TheVariants.{LookUp}
use Rattle.gaz_steps.specs.declared.refusal.Refusal.{Refusal}
use Rattle.gaz_steps.proofs.Owners.{holder_tells}
use Rattle.gaz_hub.proofs.Replying.{steps_read}
use Rattle.gaz_hub.proofs.Telling.{tells_settled}

-- what is right of each content that the hub may have by then
pub tells_as : {T : Type 0} (d : Door) (a c : Seen) (r : Result T ShelfFault) (P Q : T → Type 0) → (StandsFor d c → (x : T) → P x → Q x) → Tells d a c r P → Tells d a c r Q
tells_as d a c r P Q then l =
    record {
      advances = l.advances;
      settled = l.settled;
      right = λ stood fine. if_ok r P Q (then (l.advances.stands stood fine)) (l.right stood fine);
      cause = l.cause;
    }

-- what the holder is asked for is what is looked up
pub holder_steps : {K : Type 0} (seen : K → Seen) (register : RegisterValue) (uprn : ℕ) (Calls : K → Result (Option Found) ShelfFault → K → Type 0) (old new : K) (result : Result (Option Found) Refusal)
    → IsRegister register → AnswersSettled (door_of register) seen Calls old new result
    → ((mid : K) (r : Result (Option Found) ShelfFault) → Calls mid r new → Looks (seen mid) (seen new) r (λ found. found ≡ told_by_holder (seen mid).content.board register uprn))
    → Steps (door_of register) (seen old) (seen new) (Pose (LookUp uprn)) (Replied (LookUp uprn) result)
holder_steps seen register uprn Calls old new result is a looks =
    let d = door_of register in
    let IsTold = λ (k : Content) (found : Option Found). found ≡ told_by_holder k.board register uprn in
    let IsFound = λ (found : Option Found). NothingReady (seen new).content.files (seen new).content.board → found ≡ lookup (seen new).content.board register uprn in
    let told = tells_settled d seen Calls old new a.read IsTold a.calls (λ mid called. looks mid a.read called) in
    let found = tells_as d (seen old) (seen new) a.read (IsTold (seen new).content) IsFound
    (λ stood x e closed. e ∙ sym (holder_tells register (seen new).content.files (seen new).content.board uprn is stood.1.partial)) told in
    subst (λ k. Steps d (seen old) (seen new) (Pose (LookUp uprn)) (Replied (LookUp uprn) k)) (sym a.told)
    (steps_read d (LookUp uprn) (λ x. x) (λ r. r) (record { ok = λ x. refl; err = λ r. refl }) refl (seen old) (seen new) a.read a.is_open found)
