-- Events that have no chain.
use Rattle.std.proofs.Common.{◌≡◌, ◌⊎◌, inl, inr, ℕ, zero, suc, refl, sym, ◌∙◌, arith}
use Rattle.std.specs.Prelude.{Option, Some, None, slice_get, [], ◌∷◌, List}
use Rattle.std.proofs.lemmas.Option.{same_Some}
use Rattle.gaz_views.specs.declared.custody.Custody.TheVariants.{Adopted, Released}
use Rattle.gaz_chains.specs.Chains.{IsHop, IsOffer}
use Rattle.gaz_chains.specs.Worked.{HasNoChain, WorkedRules}

differ : {a b : ℕ} (o : Option ℕ) → o ≡ Some a → o ≡ Some b → a ≡ b
differ {a} {b} o p q = same_Some a b (sym p ∙ q)

-- the custodian that hops or offers first stands first
first_is : (chain : List ℕ) (offered : Option ℕ) (from to : ℕ) → IsHop chain from to 1 ⊎ IsOffer chain offered from to 1 → slice_get chain 0 ≡ Some from
first_is chain offered from to (inl h) = h.0
first_is chain None from to (inr h) = absurd h
first_is chain (Some x) from to (inr h) = h.1

unheld : HasNoChain ((1002, Released 1003 1) ∷ [])
unheld chain offered k =
    let same : ◌≡◌ {A = ℕ} 1001 1002 = differ (slice_get chain 0) k.begins (first_is chain offered 1002 1003 ((k.releases 1002 1003 1).0 (0, refl))) in
    omega (arith, same)

by_two : HasNoChain ((1001, Released 1002 1) ∷ (1002, Adopted 1001 1) ∷ (1003, Adopted 1001 1) ∷ [])
by_two chain offered k =
    let one = (k.adoptions 1002 1001 1).0 (0, refl) in
    let other = (k.adoptions 1003 1001 1).0 (0, refl) in
    let same : ◌≡◌ {A = ℕ} 1002 1003 = differ (slice_get chain 1) one.1 other.1 in
    omega (arith, same)

-- who releases with hop 2 stands second
second_is : (chain : List ℕ) (offered : Option ℕ) (from to : ℕ) → IsHop chain from to 2 ⊎ IsOffer chain offered from to 2 → slice_get chain 1 ≡ Some from
second_is chain offered from to (inl h) = h.0
second_is chain None from to (inr h) = absurd h
second_is chain (Some x) from to (inr h) = h.1

no_adoption : (i : ℕ) → slice_get (Released 1002 2 ∷ []) i ≡ Some (Adopted 1001 1) → ⊥
no_adoption zero e = cc
no_adoption (suc i) e = cc

skipped : HasNoChain ((1001, Released 1002 2) ∷ [])
skipped chain offered k =
    let h = (k.adoptions 1001 1001 1).1 (k.begins, second_is chain offered 1001 1002 ((k.releases 1001 1002 2).0 (0, refl))) in
    no_adoption h.0 h.1

pub worked_rules_holds : WorkedRules
worked_rules_holds = record {
  unheld = unheld;
  skipped = skipped;
  by_two = by_two;
  stale = λ chain offered k. let same : ◌≡◌ {A = ℕ} 0 2 = k.once 1002 (Adopted 1001 1) 0 2 refl refl in omega (arith, same);
}
