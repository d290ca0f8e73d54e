-- Asking one custodian after another finds the holder.
use Rattle.std.proofs.Common.{◌≡◌, ◌⊎◌, inl, inr, ℕ, zero, suc, ◌+◌, ◌≤◌, Bool, true, false, cond, ltb, ltb-true, ltb-false, List, length, refl, sym, ap, ◌∙◌, arith}
use Rattle.std.specs.Prelude.{Option, Some, None}
use Rattle.std.proofs.lemmas.Option.{same_Some}
use Rattle.gaz_views.specs.declared.custody.Custody.{Custody}
use Rattle.gaz_views.specs.declared.custody.Custody.TheVariants.{Adopted, Released}
use Rattle.gaz_views.specs.Custody.{hop_of, is_holding}
use Rattle.gaz_chains.specs.Events.{Events, Has, newest, no_events}
use Rattle.gaz_chains.specs.Chains.{IsChain, IsHop, IsOffer, holder}
use Rattle.gaz_chains.specs.Laws.{IsAllotted, after}
use Rattle.gaz_chains.specs.Finding.{Asked, Here, Nobody, Next, FindsHolder, asked, found}
use Rattle.gaz_chains.proofs.Lists.{get_within}
use Rattle.gaz_chains.proofs.Rising.{IsRising, at_most, has_newest, nothing_there}
use Rattle.gaz_chains.proofs.Hops.{hop_within, offer_beyond, offer_to, one_offer}
use Rattle.gaz_chains.proofs.Ends.{held_at_end, holder_at_end}
use Rattle.gaz_chains.proofs.Steps.{all_kept, none_kept}

-- how far along the chain a custodian stands
abbrev rank : Option Custody → ℕ
rank None = 1
rank (Some (Released to hop)) = hop
rank (Some (Adopted from hop)) = hop + 1

never_both : {x y z w : ℕ} → Adopted x y ≡ Released z w → ⊥
never_both e = cc

module _ (own : ℕ → Bool) (a : ℕ) (is : IsAllotted own a) (ev : Events) (chain : List ℕ) (offered : Option ℕ) (k : IsChain a ev chain offered) (rising : (c : ℕ) → IsRising (ev c)) where
  abbrev shown : ℕ → Option Custody
  shown c = newest (ev c)

  abbrev after_asking : ℕ → ℕ → Asked → Option ℕ
  after_asking turns c answer = elim answer [ Here ↦ Some c | Nobody ↦ None | Next to ↦ found shown own turns to ]

  -- who offers the number is the only one with an event beyond the chain
  beyond : (d hop : ℕ) (o : Option Custody) → newest (ev d) ≡ o → length chain ≡ hop → hop ≤ hop_of o → (t : ℕ) × IsOffer chain offered d t (hop_of o)
  beyond d hop None e l h =
      let within = get_within chain 0 a k.begins in
      absurd (omega (arith, within, l, h))
  beyond d hop (Some (Adopted from hops)) e l h =
      let within = hop_within chain from d hops ((k.adoptions d from hops).0 (has_newest (ev d) (Adopted from hops) e)) in
      absurd (omega (arith, within, l, h))
  beyond d hop (Some (Released t hops)) e l h = elim ((k.releases d t hops).0 (has_newest (ev d) (Released t hops) e)) [
    | inl is_hop ↦ let within = hop_within chain d t hops is_hop in absurd (omega (arith, within, l, h))
    | inr offer ↦ (t, offer)
  ]

  offer_finds_none : (turns c to hop : ℕ) → newest (ev c) ≡ Some (Released to hop) → IsOffer chain offered c to hop → found shown own turns c ≡ None
  offer_finds_none zero c to hop e offer = refl
  offer_finds_none (suc turns) c to hop e offer =
      ap (λ o. after_asking turns c (asked shown (own c) o)) e ∙ elim (ltb (hop_of (newest (ev to))) hop) as (λ b. ltb (hop_of (newest (ev to))) hop ≡ b → after_asking turns c (cond b Nobody (Next to)) ≡ None) [
        | true ↦ λ _. refl
        | false ↦ λ f.
            let long = offer_beyond chain offered c to hop offer in
            let also = beyond to hop (newest (ev to)) refl long (let h : hop ≤ hop_of (newest (ev to)) = omega (arith, ltb-false (hop_of (newest (ev to))) hop f) in h) in
            let same = (one_offer chain offered offered c to to also.0 hop (hop_of (newest (ev to))) offer also.1).0 in
            ap (found shown own turns) same ∙ offer_finds_none turns c to hop e offer
      ] refl

  finds : (turns c : ℕ) → (newest (ev c) ≡ None → own c ≡ true) → length chain + 1 ≤ turns + rank (newest (ev c)) → found shown own turns c ≡ holder chain offered
  finds zero c reach few = go (newest (ev c)) refl few
    where
      go : (o : Option Custody) → newest (ev c) ≡ o → length chain + 1 ≤ 0 + rank o → None ≡ holder chain offered
      go None e few = let within = get_within chain 0 a k.begins in absurd (omega (arith, within, few))
      go (Some (Adopted from hop)) e few =
          let within = hop_within chain from c hop ((k.adoptions c from hop).0 (has_newest (ev c) (Adopted from hop) e)) in
          absurd (omega (arith, within, few))
      go (Some (Released to hop)) e few = elim ((k.releases c to hop).0 (has_newest (ev c) (Released to hop) e)) [
        | inl is_hop ↦ let within = hop_within chain c to hop is_hop in absurd (omega (arith, within, few))
        | inr offer ↦ let long = offer_beyond chain offered c to hop offer in absurd (omega (arith, long, few))
      ]
  finds (suc turns) c reach few = go (λ to. finds turns to) (newest (ev c)) refl few
    where
      here : (o : Option Custody) → newest (ev c) ≡ o → is_holding (own c) o ≡ true → Some c ≡ holder chain offered
      here o e h =
          let holding : is_holding (own c) (newest (ev c)) ≡ true = ap (is_holding (own c)) e ∙ h in
          sym (holder_at_end own a is ev chain offered k rising c _ (held_at_end own a is ev chain offered k rising c holding))

      further : (o : Option Custody) (from hop : ℕ) → Has (ev from) (Adopted c hop) → newest (ev from) ≡ o → length chain + 1 ≤ suc turns + hop → length chain + 1 ≤ turns + rank o
      further None from hop has e few = absurd (nothing_there (ev from) (rising from) e (Adopted c hop) has)
      further (Some (Adopted d hops)) from hop has e few =
          let low : hop ≤ hop_of (newest (ev from)) = at_most (ev from) (rising from) (Adopted c hop) has in
          let top : hop_of (newest (ev from)) ≡ hops = ap hop_of e in
          omega (arith, low, top, few)
      further (Some (Released d hops)) from hop has e few =
          let top : hop_of (newest (ev from)) ≡ hops = ap hop_of e in
          elim ((rising from).below (Adopted c hop) has) [
            | inl same ↦ absurd (never_both (same_Some (Adopted c hop) (Released d hops) (sym same ∙ e)))
            | inr less ↦ omega (arith, less, top, few)
          ]

      go : ((to : ℕ) → (newest (ev to) ≡ None → own to ≡ true) → length chain + 1 ≤ turns + rank (newest (ev to)) → found shown own turns to ≡ holder chain offered)
          → (o : Option Custody) → newest (ev c) ≡ o → length chain + 1 ≤ suc turns + rank o → found shown own (suc turns) c ≡ holder chain offered
      go rest None e few =
          ap (λ o. after_asking turns c (asked shown (own c) o)) e ∙ ap (λ b. after_asking turns c (cond b Here Nobody)) (reach e) ∙ here None e (reach e)
      go rest (Some (Adopted from hop)) e few = ap (λ o. after_asking turns c (asked shown (own c) o)) e ∙ here (Some (Adopted from hop)) e refl
      go rest (Some (Released to hop)) e few = elim ((k.releases c to hop).0 (has_newest (ev c) (Released to hop) e)) [
        | inr offer ↦ offer_finds_none (suc turns) c to hop e offer ∙ sym (ap (holder chain) (offer_to chain offered c to hop offer))
        | inl is_hop ↦
            let has = (k.adoptions to c hop).1 is_hop in
            let low : hop ≤ hop_of (newest (ev to)) = at_most (ev to) (rising to) (Adopted c hop) has in
            ap (λ o. after_asking turns c (asked shown (own c) o)) e ∙ elim (ltb (hop_of (newest (ev to))) hop) as (λ b. ltb (hop_of (newest (ev to))) hop ≡ b → after_asking turns c (cond b Nobody (Next to)) ≡ holder chain offered) [
              | true ↦ λ t. let less = ltb-true (hop_of (newest (ev to))) hop t in absurd (omega (arith, less, low))
              | false ↦ λ _. rest to (λ none. absurd (nothing_there (ev to) (rising to) none (Adopted c hop) has)) (further (newest (ev to)) to hop has refl few)
            ] refl
      ]

  first_rank : (o : Option Custody) → newest (ev a) ≡ o → 1 ≤ rank o
  first_rank None e = omega arith
  first_rank (Some (Adopted from hop)) e = omega arith
  first_rank (Some (Released to hop)) e = positive hop ((k.releases a to hop).0 (has_newest (ev a) (Released to hop) e))
    where
      offered_positive : (o : Option ℕ) → IsOffer chain o a to 0 → ⊥
      offered_positive None h = h
      offered_positive (Some x) h = h

      positive : (hop : ℕ) → IsHop chain a to hop ⊎ IsOffer chain offered a to hop → 1 ≤ hop
      positive zero h = elim h [ inl is_hop ↦ absurd is_hop | inr offer ↦ absurd (offered_positive offered offer) ]
      positive (suc n) h = omega arith

  pub finds_from_first : (turns : ℕ) → length chain ≤ turns → found shown own turns a ≡ holder chain offered
  finds_from_first turns few =
      let first = first_rank (newest (ev a)) refl in
      finds turns a (λ _. is.own_number) (omega (arith, few, first))

pub finds_holder_holds : FindsHolder
finds_holder_holds own a ps chain offered turns is allowed k few =
    let kept = all_kept own a is no_events (none_kept a) ps allowed in
    finds_from_first own a is (after no_events ps) chain offered k kept.rising turns few
