-- One event more, as the rules allow it, keeps the chain.
use Rattle.std.proofs.Common.{◌≡◌, ◌⊎◌, inl, inr, ℕ, zero, suc, ◌+◌, ◌<◌, ◌≤◌, Bool, true, false, cond, eqb, eqb-true, eq-eqb, List, [], ◌∷◌, ◌++◌, refl, sym, subst, arith}
use Rattle.std.specs.Prelude.{Option, Some, None}
use Rattle.std.proofs.lemmas.Option.{none-some, same_Some}
use Rattle.gaz_views.specs.declared.custody.Custody.{Custody}
use Rattle.gaz_views.specs.declared.custody.Custody.TheVariants.{Adopted, Released}
use Rattle.gaz_views.specs.Custody.{hop_in, hop_of, is_holding}
use Rattle.gaz_chains.specs.Events.{Events, Has, appended, newest, no_events}
use Rattle.gaz_chains.specs.Chains.{IsChain, IsHop, IsOffer}
use Rattle.gaz_chains.specs.Laws.{AreAllowed, EventsMakeChains, HasChain, IsAllotted, IsAllowed, after}
use Rattle.gaz_chains.proofs.Lists.{get_kept, has_kept, has_pushed, has_split, none_has}
use Rattle.gaz_chains.proofs.Rising.{IsRising, at_most, none_rising, rising_pushed}
use Rattle.gaz_chains.proofs.Hops.{hop_kept, hop_split, hop_taken, offer_to, one_offer}
use Rattle.gaz_chains.proofs.Ends.{held_at_end, holder_at_end, holder_holds}

-- a chain, and each custodian's events by rising hop
pub record IsKept (a : ℕ) (ev : Events) : Type 0 where
  pub chain : List ℕ
  pub offered : Option ℕ
  pub is : IsChain a ev chain offered
  pub rising : (c : ℕ) → IsRising (ev c)

-- ---- one event more

pub pushed_old : (ev : Events) (c : ℕ) (e : Custody) (d : ℕ) (f : Custody) → Has (ev d) f → Has (appended ev c (e ∷ []) d) f
pushed_old ev c e d f h = elim (eqb d c) as (λ b. Has (cond b (ev d ++ e ∷ []) (ev d)) f) [ true ↦ has_kept (ev d) (e ∷ []) f h | false ↦ h ]

pub pushed_new : (ev : Events) (c : ℕ) (e : Custody) (d : ℕ) (f : Custody) → d ≡ c → f ≡ e → Has (appended ev c (e ∷ []) d) f
pushed_new ev c e d f at is =
    subst (λ b. Has (cond b (ev d ++ e ∷ []) (ev d)) f) (sym (eq-eqb d c at)) (subst (Has (ev d ++ e ∷ [])) (sym is) (has_pushed (ev d) e))

pub pushed_split : (ev : Events) (c : ℕ) (e : Custody) (d : ℕ) (f : Custody) → Has (appended ev c (e ∷ []) d) f → Has (ev d) f ⊎ ((d ≡ c) × (f ≡ e))
pushed_split ev c e d f h =
    elim (eqb d c) as (λ b. eqb d c ≡ b → Has (cond b (ev d ++ e ∷ []) (ev d)) f → Has (ev d) f ⊎ ((d ≡ c) × (f ≡ e))) [
      | true ↦ λ t h. elim (has_split (ev d) e f h) [ inl old ↦ inl old | inr new ↦ inr (eqb-true d c t, new) ]
      | false ↦ λ t h. inl h
    ] refl h

pushed_rising : (ev : Events) (c : ℕ) (e : Custody) → ((d : ℕ) → IsRising (ev d)) → hop_of (newest (ev c)) < hop_in e → (d : ℕ) → IsRising (appended ev c (e ∷ []) d)
pushed_rising ev c e rising higher d =
    elim (eqb d c) as (λ b. eqb d c ≡ b → IsRising (cond b (ev d ++ e ∷ []) (ev d))) [
      | true ↦ λ t. rising_pushed (ev d) e (rising d) (subst (λ x. hop_of (newest (ev x)) < hop_in e) (sym (eqb-true d c t)) higher)
      | false ↦ λ t. rising d
    ] refl

never_both : {x y z w : ℕ} → Adopted x y ≡ Released z w → ⊥
never_both e = cc

adopted_parts : {x y z w : ℕ} → Adopted x y ≡ Adopted z w → (x ≡ z) × (y ≡ w)
adopted_parts {x} {y} {z} {w} e = (let p : x ≡ z = cc in p, let q : y ≡ w = cc in q)

released_parts : {x y z w : ℕ} → Released x y ≡ Released z w → (x ≡ z) × (y ≡ w)
released_parts {x} {y} {z} {w} e = (let p : x ≡ z = cc in p, let q : y ≡ w = cc in q)

adopted_is : (x y z w : ℕ) → x ≡ z → y ≡ w → Adopted x y ≡ Adopted z w
adopted_is x y z w p q i = Adopted (p i) (q i)

released_is : (x y z w : ℕ) → x ≡ z → y ≡ w → Released x y ≡ Released z w
released_is x y z w p q i = Released (p i) (q i)

-- ---- a release

module _ (own : ℕ → Bool) (a : ℕ) (is : IsAllotted own a) (ev : Events) (k : IsKept a ev) where
  released : (c to hop : ℕ) → is_holding (own c) (newest (ev c)) ≡ true → hop ≡ hop_of (newest (ev c)) + 1 → IsKept a (appended ev c (Released to hop ∷ []))
  released c to hop holding next =
      let ends = held_at_end own a is ev k.chain k.offered k.is k.rising c holding in
      let place = hop_of (newest (ev c)) in
      let is_next : suc place ≡ hop = omega (arith, next) in
      let offer : IsOffer k.chain (Some to) c to hop = subst (IsOffer k.chain (Some to) c to) is_next (refl, ends.at, ends.last) in
      record {
        chain = k.chain;
        offered = Some to;
        is = record {
          begins = k.is.begins;
          adoptions = λ d from h. (
            λ has. elim (pushed_split ev c (Released to hop) d (Adopted from h) has) [
              | inl old ↦ (k.is.adoptions d from h).0 old
              | inr new ↦ absurd (never_both new.1)
            ],
            λ is_hop. pushed_old ev c (Released to hop) d (Adopted from h) ((k.is.adoptions d from h).1 is_hop),
          );
          releases = λ d t h. (
            λ has. elim (pushed_split ev c (Released to hop) d (Released t h) has) [
              | inl old ↦ elim ((k.is.releases d t h).0 old) [
                | inl is_hop ↦ inl is_hop
                | inr other ↦ absurd (subst (λ o. IsOffer k.chain o d t h) ends.unoffered other)
              ]
              | inr new ↦
                  let parts = released_parts new.1 in
                  inr (subst (λ x. IsOffer k.chain (Some to) x t h) (sym new.0)
                  (subst (λ x. IsOffer k.chain (Some to) c x h) (sym parts.0)
                  (subst (λ x. IsOffer k.chain (Some to) c to x) (sym parts.1) offer)))
            ],
            λ where_from. elim where_from [
              | inl is_hop ↦ pushed_old ev c (Released to hop) d (Released t h) ((k.is.releases d t h).1 (inl is_hop))
              | inr other ↦
                  let one = one_offer k.chain (Some to) (Some to) c d to t hop h offer other in
                  let same = same_Some to t (offer_to k.chain (Some to) d t h other) in
                  pushed_new ev c (Released to hop) d (Released t h) one.0 (released_is t h to hop (sym same) one.1)
            ],
          );
          once = λ d. (rises d).once;
        };
        rising = rises;
      }
    where
      rises : (d : ℕ) → IsRising (appended ev c (Released to hop ∷ []) d)
      rises = pushed_rising ev c (Released to hop) k.rising (omega (arith, next))

  -- ---- an adoption

  -- what was ever released to it with a hop above its own is what is offered now
  is_offered : (c from hop : ℕ) → Has (ev from) (Released c hop) → hop_of (newest (ev c)) < hop → IsOffer k.chain k.offered from c hop
  is_offered c from hop was higher = elim ((k.is.releases from c hop).0 was) [
    | inl is_hop ↦
        let low : hop ≤ hop_of (newest (ev c)) = at_most (ev c) (k.rising c) (Adopted from hop) ((k.is.adoptions c from hop).1 is_hop) in
        absurd (omega (arith, low, higher))
    | inr offer ↦ offer
  ]

  adopted : (c from hop : ℕ) → Has (ev from) (Released c hop) → hop_of (newest (ev c)) < hop → IsKept a (appended ev c (Adopted from hop ∷ []))
  adopted c from hop was higher =
      record {
        chain = k.chain ++ c ∷ [];
        offered = None;
        is = record {
          begins = get_kept k.chain (c ∷ []) 0 a k.is.begins;
          adoptions = λ d g h. (
            λ has. elim (pushed_split ev c (Adopted from hop) d (Adopted g h) has) [
              | inl old ↦ hop_kept k.chain c g d h ((k.is.adoptions d g h).0 old)
              | inr new ↦
                  let parts = adopted_parts new.1 in
                  subst (λ x. IsHop (k.chain ++ c ∷ []) g x h) (sym new.0)
                  (subst (λ x. IsHop (k.chain ++ c ∷ []) x c h) (sym parts.0)
                  (subst (IsHop (k.chain ++ c ∷ []) from c) (sym parts.1) (hop_taken k.chain c from c hop offer)))
            ],
            λ is_hop. elim (hop_split k.chain c g d h is_hop) [
              | inl old ↦ pushed_old ev c (Adopted from hop) d (Adopted g h) ((k.is.adoptions d g h).1 old)
              | inr other ↦
                  let one = one_offer k.chain (Some c) (Some c) from g c d hop h offer other in
                  let same = same_Some c d (offer_to k.chain (Some c) g d h other) in
                  pushed_new ev c (Adopted from hop) d (Adopted g h) (sym same) (adopted_is g h from hop one.0 one.1)
            ],
          );
          releases = λ d t h. (
            λ has. elim (pushed_split ev c (Adopted from hop) d (Released t h) has) [
              | inl old ↦ elim ((k.is.releases d t h).0 old) [
                | inl is_hop ↦ inl (hop_kept k.chain c d t h is_hop)
                | inr other ↦ inl (hop_taken k.chain c d t h (subst (λ o. IsOffer k.chain o d t h) to_it other))
              ]
              | inr new ↦ absurd (never_both (sym new.1))
            ],
            λ where_from. elim where_from [
              | inl is_hop ↦ pushed_old ev c (Adopted from hop) d (Released t h) ((k.is.releases d t h).1
                  (elim (hop_split k.chain c d t h is_hop) [
                    | inl old ↦ inl old
                    | inr other ↦ inr (subst (λ o. IsOffer k.chain o d t h) (sym to_it) other)
                  ]))
              | inr other ↦ absurd other
            ],
          );
          once = λ d. (rises d).once;
        };
        rising = rises;
      }
    where
      was_offered : IsOffer k.chain k.offered from c hop
      was_offered = is_offered c from hop was higher

      to_it : k.offered ≡ Some c
      to_it = offer_to k.chain k.offered from c hop was_offered

      offer : IsOffer k.chain (Some c) from c hop
      offer = subst (λ o. IsOffer k.chain o from c hop) to_it was_offered

      rises : (d : ℕ) → IsRising (appended ev c (Adopted from hop ∷ []) d)
      rises = pushed_rising ev c (Adopted from hop) k.rising higher

-- ---- event after event

pub none_kept : (a : ℕ) → IsKept a no_events
none_kept a = record {
  chain = a ∷ [];
  offered = None;
  is = record {
    begins = refl;
    adoptions = λ c from hop. (λ h. absurd (none_has _ h), λ h. absurd (alone from c hop h));
    releases = λ c to hop. (λ h. absurd (none_has _ h), λ h. elim h [ inl is_hop ↦ absurd (alone c to hop is_hop) | inr offer ↦ absurd offer ]);
    once = λ c e i j p q. absurd (none-some e p);
  };
  rising = λ c. none_rising;
}
  where
    alone : (from to hop : ℕ) → IsHop (a ∷ []) from to hop → ⊥
    alone from to zero h = h
    alone from to (suc n) h = none-some to h.1

pub one_kept : (own : ℕ → Bool) (a : ℕ) → IsAllotted own a → (ev : Events) → IsKept a ev → (c : ℕ) (e : Custody) → IsAllowed own ev c e → IsKept a (appended ev c (e ∷ []))
one_kept own a is ev k c (Released to hop) allowed = released own a is ev k c to hop allowed.0 allowed.1
one_kept own a is ev k c (Adopted from hop) allowed = adopted own a is ev k c from hop allowed.0 allowed.1

pub kept_chain : (own : ℕ → Bool) (a : ℕ) → IsAllotted own a → (ev : Events) → IsKept a ev → HasChain own a ev
kept_chain own a is ev k = record {
  chain = k.chain;
  offered = k.offered;
  is = k.is;
  holds = λ c. (
    λ h. holder_at_end own a is ev k.chain k.offered k.is k.rising c _ (held_at_end own a is ev k.chain k.offered k.is k.rising c h),
    holder_holds own a is ev k.chain k.offered k.is k.rising c,
  );
}

pub all_kept : (own : ℕ → Bool) (a : ℕ) → IsAllotted own a → (ev : Events) → IsKept a ev → (ps : List (ℕ × Custody)) → AreAllowed own ev ps → IsKept a (after ev ps)
all_kept own a is ev k [] allowed = k
all_kept own a is ev k (p ∷ ps) allowed = all_kept own a is (appended ev p.0 (p.1 ∷ [])) (one_kept own a is ev k p.0 p.1 allowed.0) ps allowed.1

pub events_make_chains_holds : EventsMakeChains
events_make_chains_holds own a ps is allowed = kept_chain own a is (after no_events ps) (all_kept own a is no_events (none_kept a) ps allowed)
