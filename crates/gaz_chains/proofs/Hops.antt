-- The hops of a chain, and of one with one more custodian.
use Rattle.std.proofs.Common.{◌≡◌, ◌⊎◌, inl, inr, ℕ, zero, suc, ◌<◌, List, [], ◌∷◌, ◌++◌, length, sym, ap, ◌∙◌, subst, arith}
use Rattle.std.specs.Prelude.{Option, Some, None, slice_get}
use Rattle.std.proofs.lemmas.Option.{same_Some}
use Rattle.gaz_chains.specs.Chains.{IsHop, IsOffer}
use Rattle.gaz_chains.proofs.Lists.{get_kept, get_pushed, get_split, get_before, get_within}

pub hop_kept : (chain : List ℕ) (x from to hop : ℕ) → IsHop chain from to hop → IsHop (chain ++ x ∷ []) from to hop
hop_kept chain x from to zero h = h
hop_kept chain x from to (suc n) h = (get_kept chain (x ∷ []) n from h.0, get_kept chain (x ∷ []) (suc n) to h.1)

-- what was offered becomes a hop
pub hop_taken : (chain : List ℕ) (x from to hop : ℕ) → IsOffer chain (Some x) from to hop → IsHop (chain ++ x ∷ []) from to hop
hop_taken chain x from to zero h = absurd h
hop_taken chain x from to (suc n) h = (
  get_kept chain (x ∷ []) n from h.1,
  subst (λ k. slice_get (chain ++ x ∷ []) k ≡ Some to) h.2 (get_pushed chain x ∙ ap (λ y. Some y) h.0),
)

-- a hop of the longer chain is an old one or the one that was offered
pub hop_split : (chain : List ℕ) (x from to hop : ℕ) → IsHop (chain ++ x ∷ []) from to hop → IsHop chain from to hop ⊎ IsOffer chain (Some x) from to hop
hop_split chain x from to zero h = absurd h
hop_split chain x from to (suc n) h = elim (get_split chain x (suc n) to h.1) [
  | inl old ↦
      let w = get_before chain n to old in
      let same = same_Some from w.0 (sym h.0 ∙ get_kept chain (x ∷ []) n w.0 w.1) in
      inl (w.1 ∙ ap (λ y. Some y) (sym same), old)
  | inr new ↦ elim (get_split chain x n from h.0) [
    | inl old ↦ inr (sym new.1, old, sym new.0)
    | inr twice ↦ let a = new.0 in let b = twice.0 in absurd (omega (arith, a, b))
  ]
]

-- a hop within the chain, and an offer beyond it
pub hop_within : (chain : List ℕ) (from to hop : ℕ) → IsHop chain from to hop → hop < length chain
hop_within chain from to zero h = absurd h
hop_within chain from to (suc n) h = get_within chain (suc n) to h.1

pub offer_beyond : (chain : List ℕ) (offered : Option ℕ) (from to hop : ℕ) → IsOffer chain offered from to hop → length chain ≡ hop
offer_beyond chain None from to hop h = absurd h
offer_beyond chain (Some x) from to zero h = absurd h
offer_beyond chain (Some x) from to (suc n) h = h.2

-- to whom it is
pub offer_to : (chain : List ℕ) (offered : Option ℕ) (from to hop : ℕ) → IsOffer chain offered from to hop → offered ≡ Some to
offer_to chain None from to hop h = absurd h
offer_to chain (Some x) from to zero h = absurd h
offer_to chain (Some x) from to (suc n) h = ap (λ y. Some y) h.0

-- two offers are by the same custodian and with the same hop
pub one_offer : (chain : List ℕ) (offered others : Option ℕ) (c d to other hop hops : ℕ) → IsOffer chain offered c to hop → IsOffer chain others d other hops → (d ≡ c) × (hops ≡ hop)
one_offer chain None others c d to other hop hops h k = absurd h
one_offer chain (Some x) None c d to other hop hops h k = absurd k
one_offer chain (Some x) (Some y) c d to other zero hops h k = absurd h
one_offer chain (Some x) (Some y) c d to other (suc n) zero h k = absurd k
one_offer chain (Some x) (Some y) c d to other (suc n) (suc m) h k =
    let place : suc m ≡ suc n = sym k.2 ∙ h.2 in
    let at : m ≡ n = omega (arith, place) in
    (same_Some d c (sym k.1 ∙ ap (slice_get chain) at ∙ h.1), place)
