-- Who holds a number by its own newest event is the end of the chain.
use Rattle.std.proofs.Common.{◌≡◌, ◌⊎◌, inl, inr, ℕ, zero, suc, ◌<◌, ◌≤◌, Bool, true, true≢false, List, length, refl, sym, ap, ◌∙◌, subst, arith}
use Rattle.std.specs.Prelude.{Option, Some, None, slice_get}
use Rattle.std.proofs.lemmas.Option.{none-some, same_Some}
use Rattle.gaz_views.specs.declared.custody.Custody.{Custody}
use Rattle.gaz_views.specs.declared.custody.Custody.TheVariants.{Adopted, Released}
use Rattle.gaz_views.specs.Custody.{hop_of, is_holding}
use Rattle.gaz_chains.specs.Events.{Events, Has, newest}
use Rattle.gaz_chains.specs.Chains.{IsChain, IsHop, IsOffer, holder}
use Rattle.gaz_chains.specs.Laws.{IsAllotted}
use Rattle.gaz_chains.proofs.Lists.{get_before, length_here, last_here, has_last}
use Rattle.gaz_chains.proofs.Rising.{IsRising, at_most, has_newest, nothing_there, same_hop}
use Rattle.gaz_chains.proofs.Hops.{hop_within}

-- the custodian stands last in the chain, at its own hop, and nothing is offered
pub record IsEnd (chain : List ℕ) (offered : Option ℕ) (c hop : ℕ) : Type 0 where
  pub unoffered : offered ≡ None
  pub at : slice_get chain hop ≡ Some c
  pub last : length chain ≡ suc hop

module _ (own : ℕ → Bool) (a : ℕ) (is : IsAllotted own a) (ev : Events) (chain : List ℕ) (offered : Option ℕ) (k : IsChain a ev chain offered) (rising : (c : ℕ) → IsRising (ev c)) where
  no_offer : (c hop : ℕ) (o : Option ℕ) → ((t : ℕ) → IsOffer chain o c t (suc hop) → ⊥) → slice_get chain hop ≡ Some c → length chain ≡ suc hop → o ≡ None
  no_offer c hop None never at l = refl
  no_offer c hop (Some t) never at l = absurd (never t (refl, at, l))

  -- where the custodian stands at a place, and never released it with the next hop
  at_end : (c hop : ℕ) → slice_get chain hop ≡ Some c → ((t : ℕ) → Has (ev c) (Released t (suc hop)) → ⊥) → IsEnd chain offered c hop
  at_end c hop at never =
      let l = length_here chain hop c at (λ t next. never t ((k.releases c t (suc hop)).1 (inl (at, next)))) in
      record {
        unoffered = no_offer c hop offered (λ t o. never t ((k.releases c t (suc hop)).1 (inr o))) at l;
        at = at;
        last = l;
      }

  never_more : (c : ℕ) (t hop : ℕ) → hop_of (newest (ev c)) ≡ hop → Has (ev c) (Released t (suc hop)) → ⊥
  never_more c t hop top h = let low : suc hop ≤ hop_of (newest (ev c)) = at_most (ev c) (rising c) (Released t (suc hop)) h in omega (arith, low, top)

  pub held_at_end : (c : ℕ) → is_holding (own c) (newest (ev c)) ≡ true → IsEnd chain offered c (hop_of (newest (ev c)))
  held_at_end c h = go (newest (ev c)) refl h
    where
      go : (o : Option Custody) → newest (ev c) ≡ o → is_holding (own c) o ≡ true → IsEnd chain offered c (hop_of o)
      go None e h =
          let first : slice_get chain 0 ≡ Some c = k.begins ∙ ap (λ x. Some x) (sym (is.of_nobody_else c h)) in
          at_end c 0 first (λ t r. nothing_there (ev c) (rising c) e (Released t 1) r)
      go (Some (Released to hop)) e h = absurd (true≢false (sym h))
      go (Some (Adopted from hop)) e h =
          let hops = (k.adoptions c from hop).0 (has_newest (ev c) (Adopted from hop) e) in
          at_end c hop (stands from hop hops) (λ t r. never_more c t hop (ap hop_of e) r)
        where
          stands : (from hop : ℕ) → IsHop chain from c hop → slice_get chain hop ≡ Some c
          stands from zero h = absurd h
          stands from (suc n) h = h.1

  pub holder_at_end : (c hop : ℕ) → IsEnd chain offered c hop → holder chain offered ≡ Some c
  holder_at_end c hop end = ap (holder chain) end.unoffered ∙ last_here None chain hop c end.at end.last

  -- the last of the chain adopted it at its place, unless it is the first
  came : (c : ℕ) (place : ℕ) → slice_get chain place ≡ Some c → (c ≡ a) × (place ≡ 0) ⊎ ((from : ℕ) × (0 < place) × Has (ev c) (Adopted from place))
  came c zero at = inl (same_Some c a (sym at ∙ k.begins), refl)
  came c (suc n) at = let w = get_before chain n c at in inr (w.0, omega arith, (k.adoptions c w.0 (suc n)).1 (w.1, at))

  end_holds : (c place : ℕ) → offered ≡ None → slice_get chain place ≡ Some c → length chain ≡ suc place → (o : Option Custody) → newest (ev c) ≡ o → is_holding (own c) o ≡ true
  end_holds c place unoffered at l (Some (Adopted from hop)) e = refl
  end_holds c place unoffered at l None e = elim (came c place at) [
    | inl first ↦ ap own first.0 ∙ is.own_number
    | inr adopted ↦ absurd (nothing_there (ev c) (rising c) e (Adopted adopted.0 place) adopted.2)
  ]
  end_holds c place unoffered at l (Some (Released to hop)) e =
      let r = has_newest (ev c) (Released to hop) e in
      elim ((k.releases c to hop).0 r) [
        | inr offer ↦ absurd (subst (λ o. IsOffer chain o c to hop) unoffered offer)
        | inl h ↦
            let within = hop_within chain c to hop h in
            elim (came c place at) [
              | inl first ↦ absurd (at_start hop h within first.1)
              | inr adopted ↦
                  let low : place ≤ hop_of (newest (ev c)) = at_most (ev c) (rising c) (Adopted adopted.0 place) adopted.2 in
                  let top : hop_of (newest (ev c)) ≡ hop = ap hop_of e in
                  let same : place ≡ hop = omega (arith, low, top, within, l) in
                  absurd (apart (same_hop (ev c) (rising c) (Adopted adopted.0 place) (Released to hop) adopted.2 e same))
            ]
      ]
    where
      apart : {x y z w : ℕ} → Adopted x y ≡ Released z w → ⊥
      apart e = cc

      at_start : (hop : ℕ) → IsHop chain c to hop → hop < length chain → place ≡ 0 → ⊥
      at_start zero h w e = h
      at_start (suc n) h w e = omega (arith, w, l, e)

  pub holder_holds : (c : ℕ) → holder chain offered ≡ Some c → is_holding (own c) (newest (ev c)) ≡ true
  holder_holds c h = go offered refl h
    where
      go : (o : Option ℕ) → offered ≡ o → holder chain o ≡ Some c → is_holding (own c) (newest (ev c)) ≡ true
      go (Some t) e h = absurd (none-some c h)
      go None e h = let at = has_last chain c h in end_holds c at.0 e at.1 at.2 (newest (ev c)) refl
