-- A number that passes from custodian 1001 to 1002 and back.
use Rattle.std.specs.Prelude.{◌≡◌, ℕ, ◌==◌, Bool, List, [], ◌∷◌, ◌++◌, Option, Some, None}
use Rattle.gaz_views.specs.declared.custody.Custody.TheVariants.{Adopted, Released}
use Rattle.gaz_chains.specs.Events.{Course, newest, no_events}
use Rattle.gaz_chains.specs.Chains.{IsChain, IsHop, IsOffer, holder}
use Rattle.gaz_chains.specs.Finding.{found}
use Rattle.gaz_chains.specs.Laws.{AreAllowed, IsAllowed, after}

abbrev pub own : ℕ → Bool
own c = c == 1001

abbrev pub over : Course
over = (1001, Released 1002 1) ∷ (1002, Adopted 1001 1) ∷ []

abbrev pub and_back : Course
and_back =
    (1001, Released 1002 1) ∷ (1002, Adopted 1001 1) ∷ (1002, Released 1001 2)
    ∷ (1001, Adopted 1002 2) ∷ []

abbrev pub found_after : Course → Option ℕ
found_after course = found (λ c. newest (after no_events course c)) own 10 1001

-- no list of custodians is a chain of these events
abbrev pub HasNoChain : Course → Type 0
HasNoChain course =
    (chain : List ℕ) (offered : Option ℕ) → IsChain 1001 (after no_events course) chain offered → ⊥

-- ---- each rule is needed: events that only it refuses have no chain

pub record WorkedRules : Type 0 where
  -- a release of what isn't held
  pub unheld : HasNoChain ((1002, Released 1003 1) ∷ [])
  -- a release with a hop that isn't the next
  pub skipped : HasNoChain ((1001, Released 1002 2) ∷ [])
  -- an adoption of what was released to another custodian
  pub by_two : HasNoChain ((1001, Released 1002 1) ∷ (1002, Adopted 1001 1)
      ∷ (1003, Adopted 1001 1) ∷ [])
  -- an adoption of an old release
  pub stale : HasNoChain (and_back ++ (1002, Adopted 1001 1) ∷ [])

pub record WorkedChains : Type 0 where
  pub over_and_back : AreAllowed own no_events and_back
  pub never_released : found_after [] ≡ Some 1001
  pub only_released : found_after ((1001, Released 1002 1) ∷ []) ≡ None
  pub there : found_after over ≡ Some 1002
  pub back_again : found_after and_back ≡ Some 1001
  -- an old release isn't adopted again, nor is the new one by another custodian
  pub not_twice : IsAllowed own (after no_events and_back) 1002 (Adopted 1001 1) → ⊥
  pub not_by_another : IsAllowed own (after no_events ((1001, Released 1002 1) ∷ [])) 1003
      (Adopted 1001 1) → ⊥
  pub not_released_twice : IsAllowed own (after no_events ((1001, Released 1002 1) ∷ [])) 1001
      (Released 1003 2) → ⊥
  pub a_hop : IsHop (1001 ∷ 1002 ∷ []) 1001 1002 1
  pub no_hop : IsHop (1001 ∷ 1002 ∷ []) 1002 1001 2 → ⊥
  pub an_offer : IsOffer (1001 ∷ 1002 ∷ []) (Some 1003) 1002 1003 2
  pub end_of_chain : holder (1001 ∷ 1002 ∷ []) None ≡ Some 1002
  pub nobody : holder (1001 ∷ 1002 ∷ []) (Some 1003) ≡ None
