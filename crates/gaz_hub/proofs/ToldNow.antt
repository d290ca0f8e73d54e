-- What is read of a received file is what is told of it.
use Rattle.std.proofs.Common.{◌≡◌, ℕ, List, sym, ap, ◌∙◌}
use Rattle.std.specs.Prelude.{Option, Some, None, is_some}
use Rattle.std.specs.Option.{option_and_then, option_map}
use Rattle.sha2.specs.Sha256.{sha256}
use Rattle.gaz_hub.specs.Asked.{IsToldNow}
use Rattle.gaz_steps.specs.Outcomes.{outcome}
use Rattle.gaz_steps.specs.Standing.{NothingReady}
use Rattle.gaz_steps.specs.Step.{HubState, told_of}
use Rattle.gaz_steps.specs.declared.outcome.Outcome.{Outcome}

-- what is read there is what a hub with this state tells
pub told_is : (s : HubState) (c volume : ℕ) (told : Option (List ℕ × Outcome)) → IsToldNow s.received s.board c volume told → NothingReady s.received s.board
    → told ≡ told_of s c volume
told_is s c volume None e closed = sym (ap (option_and_then (λ bytes. option_map (λ o. (sha256 bytes, o)) (outcome s.received s.board c volume))) e)
told_is s c volume (Some told) h closed =
    (λ i. Some (h.digest_is i, told.1))
    ∙ sym (ap (option_map (λ o. (sha256 h.bytes, o))) (h.outcome_is (ap is_some h.there) closed))
    ∙ sym (ap (option_and_then (λ bytes. option_map (λ o. (sha256 bytes, o)) (outcome s.received s.board c volume))) h.there)
