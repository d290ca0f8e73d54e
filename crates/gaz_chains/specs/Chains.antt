-- The custodians that had a number, one after another.
use Rattle.std.specs.Prelude.{◌≡◌, ◌↔◌, ◌⊎◌, ℕ, zero, suc, List, ◌++◌, length, slice_get}
use Rattle.std.specs.Prelude.{Option, Some, None}
use Rattle.std.specs.List.{last_or}
use Rattle.gaz_views.specs.declared.custody.Custody.{Custody}
use Rattle.gaz_views.specs.declared.custody.Custody.TheVariants.{Adopted, Released}
use Rattle.gaz_chains.specs.Events.{Events, Has}

-- in the chain the number goes from one custodian to the next, for this time, from 1
abbrev pub IsHop : List ℕ → ℕ → ℕ → ℕ → Type 0
IsHop chain from to zero = ⊥
IsHop chain from to (suc n) = (slice_get chain n ≡ Some from) × (slice_get chain (suc n) ≡ Some to)

-- the last custodian of the chain released it to one that didn't adopt it yet
abbrev pub IsOffer : List ℕ → Option ℕ → ℕ → ℕ → ℕ → Type 0
IsOffer chain None from to hop = ⊥
IsOffer chain (Some x) from to zero = ⊥
IsOffer chain (Some x) from to (suc n) =
    (x ≡ to) × (slice_get chain n ≡ Some from) × (length chain ≡ suc n)

-- the chain begins with the custodian to whom the number is allotted; the adoptions are just its
-- hops, each once; the releases are just its hops, and at most one more by its last custodian
pub record IsChain (allotted : ℕ) (events : Events) (chain : List ℕ) (offered : Option ℕ)
    : Type 0 where
  pub begins : slice_get chain 0 ≡ Some allotted
  pub adoptions : (c from hop : ℕ) → Has (events c) (Adopted from hop) ↔ IsHop chain from c hop
  pub releases : (c to hop : ℕ) → Has (events c) (Released to hop)
      ↔ (IsHop chain c to hop ⊎ IsOffer chain offered c to hop)
  pub once : (c : ℕ) (e : Custody) (i j : ℕ) → slice_get (events c) i ≡ Some e
      → slice_get (events c) j ≡ Some e → i ≡ j

-- its last custodian, unless that one released it since
abbrev pub holder : List ℕ → Option ℕ → Option ℕ
holder chain None = last_or None chain
holder chain (Some to) = None

-- one list begins another
abbrev pub IsPrefixOf : {X : Type 0} → List X → List X → Type 0
IsPrefixOf {X} xs ys = (rest : List X) × (xs ++ rest ≡ ys)
