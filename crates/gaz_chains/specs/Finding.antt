-- Who holds a number, found by asking one custodian after another for its newest event.
use Rattle.std.specs.Prelude.{◌≡◌, ◌≤◌, ℕ, zero, suc, nat_lt, Bool, List, Option, Some, None}
use Rattle.std.specs.Prelude.{length, if◌then◌else◌}
use Rattle.gaz_views.specs.declared.custody.Custody.{Custody}
use Rattle.gaz_views.specs.declared.custody.Custody.TheVariants.{Adopted, Released}
use Rattle.gaz_views.specs.Custody.{hop_of}
use Rattle.gaz_chains.specs.Events.{Course, newest, no_events}
use Rattle.gaz_chains.specs.Chains.{IsChain, holder}
use Rattle.gaz_chains.specs.Laws.{AreAllowed, IsAllotted, after}

-- whom to ask after a custodian with this newest event, or whether it holds the number itself
pub data Asked : Type 0 where
  Here : Asked
  Nobody : Asked
  Next : ℕ → Asked

-- a release names the next to ask, where that one has an event with its hop or a greater one
abbrev pub asked : (ℕ → Option Custody) → Bool → Option Custody → Asked
asked shown own None = if own then Here else Nobody
asked shown own (Some (Adopted from hop)) = Here
asked shown own (Some (Released to hop)) =
    if nat_lt (hop_of (shown to)) hop then Nobody else Next to

-- who is found to hold it, from a custodian on and with so many turns at most
abbrev pub found : (ℕ → Option Custody) → (ℕ → Bool) → ℕ → ℕ → Option ℕ
found shown own zero c = None
found shown own (suc turns) c =
    elim (asked shown (own c) (shown c)) [
      | Here ↦ Some c
      | Nobody ↦ None
      | Next to ↦ found shown own turns to
    ]

-- from the custodian to whom it is allotted on, with a turn for each custodian of the chain, the
-- holder is found, or nobody where there is none
abbrev pub FindsHolder : Type 0
FindsHolder =
    (own : ℕ → Bool) (allotted : ℕ) (course : Course) (chain : List ℕ)
    (offered : Option ℕ) (turns : ℕ)
    → IsAllotted own allotted → AreAllowed own no_events course
    → IsChain allotted (after no_events course) chain offered → length chain ≤ turns
    → found (λ c. newest (after no_events course c)) own turns allotted ≡ holder chain offered
