-- Rings of parents: none is longer than the view.
use Rattle.std.proofs.Common.{◌≡◌, ◌≤◌, ◌<◌, ◌+◌, ◌-◌, ℕ, zero, suc, Bool, true, false, cond, nat_eq, ◌||◌, ◌⊎◌, inl, inr, refl, sym, ap, ◌∙◌, subst, true≢false, is_some, arith, eqb-true, eq-eqb, suc-add}
use Rattle.std.proofs.lemmas.Bool.Decides.{leb_tells}
use Rattle.std.specs.Prelude.{Some, None}
use Rattle.std.specs.Option.{option_and_then, unwrap_or}
use Rattle.std.specs.List.{list_any, range_with_len}
use Rattle.std.specs.FinMap as map
use Rattle.gaz_records.proofs.KeyOrder.{keys_total}
use Rattle.gaz_records.specs.Keys.{key_cmp}
use Rattle.gaz_records.specs.declared.key.Key.{Key}
use Rattle.gaz_records.specs.declared.key.Key.TheVariants as key
use Rattle.gaz_views.specs.View.{View, holds}
use Rattle.gaz_end_rules.specs.EndRules.{ancestor, as_blpu, blpu_at, if_some, is_own_ancestor, parent_of, same_key}
use Rattle.gaz_end_rules.specs.Laws.{FindsRings, IsOnRing}
use Rattle.gaz_end_rules.proofs.Keys.{key_tied}
use Rattle.gaz_end_rules.proofs.Booleans.{and_then_gives, by_test, no_false, or_true, passes_some, some_passes}

-- whether a test passes at some number below n
pub some_below : (p : ℕ → Bool) (n : ℕ) → ((t : ℕ) × (t < n) × (p t ≡ true)) ⊎ ((t : ℕ) → t < n → p t ≡ false)
some_below p zero = inr (λ t h. absurd (omega arith))
some_below p (suc n) =
    elim (some_below p n) [
      | inl s ↦ inl (s.0, omega arith, s.2)
      | inr none ↦ by_test (p n) (λ y. inl (n, omega arith, y)) (λ fails. inr (λ t h. elim (leb_tells (suc t) n) [
        | inl below ↦ none t below.1
        | inr above ↦ let e : t ≡ n = omega arith in ap p e ∙ fails
      ]))
    ]

-- more numbers than keys: two have one key
pub pigeon : {X : Type 0} (n : ℕ) (m : map.FinMap key_cmp X) (f : ℕ → Key) → ((t : ℕ) → t < n → map.contains_key m (f t) ≡ true) → map.len m < n → (s : ℕ) × (t : ℕ) × (s < t) × (t < n) × (f s ≡ f t)
pigeon zero m f all h = absurd (omega arith)
pigeon {X} (suc n) m f all h =
    let first : map.contains_key m (f 0) ≡ true = all 0 (omega arith) in
    let some : 0 < map.len m = elim (leb_tells 1 (map.len m)) [
      | inl y ↦ y.1
      | inr small ↦
          let none : map.len m ≡ 0 = omega arith in
          no_false (map.contains_key m (f 0)) first (ap (λ k. map.contains_key k (f 0)) (map.empty_of_len m none) ∙ ap is_some (map.get-empty {X = X} key_cmp (f 0)))
    ] in
    elim (some_below (λ t. same_key (f (suc t)) (f 0)) n) [
      | inl again ↦ (0, suc again.0, omega arith, omega arith, sym (key_tied _ _ again.2))
      | inr apart ↦
          let less : map.len (map.remove m (f 0)) ≡ map.len m - 1 = map.len-remove keys_total m (f 0) ∙ ap (λ b. cond b (map.len m - 1) (map.len m)) first in
          let rest = pigeon n (map.remove m (f 0)) (λ t. f (suc t))
          (λ t below. ap is_some (map.get-remove keys_total m (f 0) (f (suc t)) ∙ ap (λ b. cond b None (map.get m (f (suc t)))) (apart t below)) ∙ all (suc t) (omega arith))
          (omega arith) in
          (suc rest.0, suc rest.1, omega arith, omega arith, rest.4)
    ]

module _ (v : View) where
  pub split_chain : (m k a b : ℕ) → ancestor v (m + k) a ≡ Some b → (x : ℕ) × (ancestor v m a ≡ Some x) × (ancestor v k x ≡ Some b)
  split_chain zero k a b e = (a, refl, let z : zero + k ≡ k = omega arith in ap (λ n. ancestor v n a) (sym z) ∙ e)
  split_chain (suc m) k a b e =
      let step = and_then_gives (ancestor v (m + k)) (parent_of v a) b (ap (λ n. ancestor v n a) (sym (suc-add m k)) ∙ e) in
      let rest = split_chain m k step.0 b step.2 in
      (rest.0, ap (option_and_then (ancestor v m)) step.1 ∙ rest.1, rest.2)

  pub join_chain : (m k a x b : ℕ) → ancestor v m a ≡ Some x → ancestor v k x ≡ Some b → ancestor v (m + k) a ≡ Some b
  join_chain zero k a x b e f = let z : zero + k ≡ k = omega arith in let is : a ≡ x = cc in ap (λ n. ancestor v n a) z ∙ ap (ancestor v k) is ∙ f
  join_chain (suc m) k a x b e f =
      let step = and_then_gives (ancestor v m) (parent_of v a) x e in
      ap (λ n. ancestor v n a) (suc-add m k) ∙ ap (option_and_then (ancestor v (m + k))) step.1 ∙ join_chain m k step.0 x b step.2 f

  held : (k x b : ℕ) → ancestor v (suc k) x ≡ Some b → holds v (key.Blpu x) ≡ true
  held k x b e =
      let p = and_then_gives (ancestor v k) (parent_of v x) b e in
      let blpu = and_then_gives (λ b. b.parent) (blpu_at v x) p.0 p.1 in
      let i = and_then_gives as_blpu (map.get v.items (key.Blpu x)) blpu.0 blpu.1 in
      ap is_some i.1

  at : ℕ → ℕ → ℕ
  at n t = unwrap_or (ancestor v t n) 0

  -- each of the chain is there
  chain_at : (n i t : ℕ) → t < i → ancestor v i n ≡ Some n → (ancestor v t n ≡ Some (at n t)) × (ancestor v (i - t) (at n t) ≡ Some n)
  unfolding at
  chain_at n i t h e =
      let sum : t + (i - t) ≡ i = omega arith in
      let s = split_chain t (i - t) n n (ap (λ k. ancestor v k n) sum ∙ e) in
      let is : s.0 ≡ unwrap_or (ancestor v t n) 0 = sym (ap (λ o. unwrap_or o 0) s.1) in
      (s.1 ∙ ap Some is, subst (λ x. ancestor v (i - t) x ≡ Some n) is s.2)

  chain_held : (n i t : ℕ) → t < i → ancestor v i n ≡ Some n → holds v (key.Blpu (at n t)) ≡ true
  chain_held n i t h e =
      let left = (chain_at n i t h e).1 in
      let more : i - t ≡ suc (i - t - 1) = omega arith in
      held (i - t - 1) (at n t) n (ap (λ k. ancestor v k (at n t)) (sym more) ∙ left)

  -- a ring can be cut to one no longer than the view
  pub short_ring : (fuel i n : ℕ) → i ≤ fuel → 1 ≤ i → ancestor v i n ≡ Some n → (j : ℕ) × (1 ≤ j) × (j ≤ map.len v.items) × (ancestor v j n ≡ Some n)
  short_ring zero i n f h e = absurd (omega arith)
  short_ring (suc fuel) i n f h e =
      elim (leb_tells i (map.len v.items)) [
        | inl y ↦ (i, h, y.1, e)
        | inr long ↦
            let two = pigeon i v.items (λ t. key.Blpu (at n t)) (λ t below. chain_held n i t below e) long.1 in
            let s = two.0 in
            let t = two.1 in
            let st : s < t = two.2 in
            let ti : t < i = two.3 in
            let same : at n s ≡ at n t = let k = two.4 in cc in
            let from = (chain_at n i s (omega arith) e).0 in
            let on = (chain_at n i t ti e).1 in
            let cut = join_chain s (i - t) n (at n s) n from (subst (λ x. ancestor v (i - t) x ≡ Some n) (sym same) on) in
            short_ring fuel (s + (i - t)) n (omega arith) (omega arith) cut
      ]

any_in_range : (p : ℕ → Bool) (start n j : ℕ) → start ≤ j → j < start + n → p j ≡ true → list_any p (range_with_len start n) ≡ true
any_in_range p start zero j a b h = absurd (omega arith)
any_in_range p start (suc n) j a b h =
    elim (leb_tells (suc start) j) [
      | inl later ↦ or_true (p start) _ (any_in_range p (start + 1) n j (omega (arith, later.1)) (omega arith) h)
      | inr here ↦ let e : start ≡ j = omega arith in ap (λ x. x || list_any p (range_with_len (start + 1) n)) (ap p e ∙ h)
    ]

in_range_some : (p : ℕ → Bool) (start n : ℕ) → list_any p (range_with_len start n) ≡ true → (j : ℕ) × (start ≤ j) × (p j ≡ true)
in_range_some p start zero h = absurd (true≢false (sym h))
in_range_some p start (suc n) h =
    by_test (p start) (λ y. (start, omega arith, y))
    (λ fails.
    let rest = in_range_some p (start + 1) n (sym (ap (λ b. b || list_any p (range_with_len (start + 1) n)) fails) ∙ h) in
    (rest.0, omega (arith, rest.1), rest.2))

-- a ring of any length breaks the rule
pub ring_breaks : (v : View) (n steps : ℕ) → 1 ≤ steps → ancestor v steps n ≡ Some n → is_own_ancestor v (key.Blpu n) ≡ true
ring_breaks v n steps h e =
    let j = short_ring v steps steps n (omega arith) h e in
    any_in_range _ 1 (map.len v.items) j.0 j.1 (omega arith) (passes_some (ancestor v j.0 n) (λ a. nat_eq a n) n j.3 (eq-eqb n n refl))

-- and what breaks it is on a ring
ring_found : (v : View) (k : Key) → is_own_ancestor v k ≡ true → IsOnRing v k
ring_found v (key.Blpu n) h =
    let j = in_range_some (λ k. if_some (ancestor v k n) (λ a. nat_eq a n)) 1 (map.len v.items) h in
    let end = some_passes (ancestor v j.0 n) (λ a. nat_eq a n) j.2 in
    record { uprn = n; is = refl; steps = j.0; at_least_one = j.1; leads = end.1 ∙ ap Some (eqb-true _ _ end.2) }
ring_found v (key.Street n) h = absurd (true≢false (sym h))
ring_found v (key.Descriptor n l) h = absurd (true≢false (sym h))
ring_found v (key.Xref t) h = absurd (true≢false (sym h))
ring_found v (key.Lpi t) h = absurd (true≢false (sym h))

pub finds_rings_holds : FindsRings
finds_rings_holds v k = (ring_found v k, λ ring. ap (is_own_ancestor v) ring.is ∙ ring_breaks v ring.uprn ring.steps ring.at_least_one ring.leads)
