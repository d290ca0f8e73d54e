-- What holds of chains, whatever brings the events about.
use Rattle.std.specs.Prelude.{◌≡◌, ◌↔◌, ◌<◌, ◌+◌, ⊤, ℕ, Bool, true, List, [], ◌∷◌, Option, Some}
use Rattle.gaz_views.specs.declared.custody.Custody.{Custody}
use Rattle.gaz_views.specs.declared.custody.Custody.TheVariants.{Adopted, Released}
use Rattle.gaz_views.specs.Custody.{hop_of, is_holding}
use Rattle.gaz_chains.specs.Events.{Course, Events, Has, appended, newest, no_events}
use Rattle.gaz_chains.specs.Chains.{IsChain, IsPrefixOf, holder}

-- a custodian's next event is as the rules allow it: a release of what it holds, with its own hop
-- plus 1; or an adoption of what was ever released to it with this hop, which is above its own
abbrev pub IsAllowed : (ℕ → Bool) → Events → ℕ → Custody → Type 0
IsAllowed own events c (Released to hop) =
    (is_holding (own c) (newest (events c)) ≡ true) × (hop ≡ hop_of (newest (events c)) + 1)
IsAllowed own events c (Adopted from hop) =
    Has (events from) (Released c hop) × (hop_of (newest (events c)) < hop)

-- each of these events is as the rules allow it after those before it
abbrev pub AreAllowed : (ℕ → Bool) → Events → Course → Type 0
AreAllowed own events [] = ⊤
AreAllowed own events (e ∷ course) =
    IsAllowed own events e.0 e.1 × AreAllowed own (appended events e.0 (e.1 ∷ [])) course

-- what became of the number at each custodian after a course
abbrev pub after : Events → Course → Events
after events [] = events
after events (e ∷ course) = after (appended events e.0 (e.1 ∷ [])) course

-- a chain, and who holds the number by its own newest event is its holder
pub record HasChain (own : ℕ → Bool) (allotted : ℕ) (events : Events) : Type 0 where
  pub chain : List ℕ
  pub offered : Option ℕ
  pub is : IsChain allotted events chain offered
  pub holds : (c : ℕ) → (is_holding (own c) (newest (events c)) ≡ true)
      ↔ (holder chain offered ≡ Some c)

-- the number is in the own blocks of the one to whom it is allotted, and of nobody else
pub record IsAllotted (own : ℕ → Bool) (allotted : ℕ) : Type 0 where
  pub own_number : own allotted ≡ true
  pub of_nobody_else : (c : ℕ) → own c ≡ true → c ≡ allotted

-- events that come one after another as the rules allow it have a chain
abbrev pub EventsMakeChains : Type 0
EventsMakeChains =
    (own : ℕ → Bool) (allotted : ℕ) (course : Course) → IsAllotted own allotted
    → AreAllowed own no_events course → HasChain own allotted (after no_events course)

-- no events have two
abbrev pub OneChainAtMost : Type 0
OneChainAtMost =
    (allotted : ℕ) (events : Events) (chain other : List ℕ) (offered others : Option ℕ)
    → IsChain allotted events chain offered → IsChain allotted events other others
    → (other ≡ chain) × (others ≡ offered)

-- the chain of more events begins with that of fewer
abbrev pub ChainsGoOn : Type 0
ChainsGoOn =
    (allotted : ℕ) (events later : Events) (chain longer : List ℕ) (offered others : Option ℕ)
    → ((c : ℕ) (e : Custody) → Has (events c) e → Has (later c) e)
    → IsChain allotted events chain offered → IsChain allotted later longer others
    → IsPrefixOf chain longer
