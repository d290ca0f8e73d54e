-- Entries in the order of their keys, by what stands among them.
use Rattle.std.proofs.Common.{◌≡◌, ◌∙◌, ◌&&◌, ℕ, zero, suc, Bool, true, false, cond, T, List, [], ◌∷◌, filter, map, take, Option, Some, inl, inr, refl, sym, ap, subst}
use Rattle.std.specs.List.{cons_option, filter_map}
use Rattle.std.specs.Cmp.{IsTotalOrder, tied_itself}
use Rattle.std.specs.FinMap as finite
use Rattle.std.specs.FinMap.{IsAntisymmetric, is_sorted}
use Rattle.std.specs.FinMap.Entries.{below_all, same_entries}
use Rattle.std.specs.Ordering.{is_lt}
use Rattle.std.specs.declared.cmp.Ordering.{Ordering}
use Rattle.std.specs.declared.cmp.Ordering.TheVariants.{Less, Equal, Greater}
use Rattle.sqlite_rules.specs.Lists.{Has}
use Rattle.sqlite_rules.proofs.ListLemmas.{has_filtered}
use Rattle.gaz_row_items.proofs.Pairs.{AreSingle, alike, at_one, found}

both : (a b : Bool) → T a → T b → T (a && b)
both true b p q = q
both false b p q = p

first : (a b : Bool) → T (a && b) → T a
first true b p = tt
first false b p = p

second : (a b : Bool) → T (a && b) → T b
second true b p = p
second false b p = absurd p

less : (o : Ordering) → T (is_lt o) → o ≡ Less
less Less p = refl
less Equal p = absurd p
less Greater p = absurd p

module _ {K X : Type 0} (R : K → K → Ordering) where
  below_has : (k : K) (es : List (K × X)) → T (below_all R k es) → (e : K × X) → Has es e → R k e.0 ≡ Less
  below_has k [] h e there = absurd there
  below_has k (f ∷ es) h e (inl same) = subst (λ (x : K × X). R k x.0 ≡ Less) (sym same) (less _ (first _ _ h))
  below_has k (f ∷ es) h e (inr later) = below_has k es (second _ _ h) e later

  below_from : (k : K) (es : List (K × X)) → ((e : K × X) → Has es e → R k e.0 ≡ Less) → T (below_all R k es)
  below_from k [] each = tt
  below_from k (f ∷ es) each = both _ _ (subst (λ o. T (is_lt o)) (sym (each f (inl refl))) tt) (below_from k es (λ e there. each e (inr there)))

  pub sorted_tail : (e : K × X) (es : List (K × X)) → T (is_sorted R (e ∷ es)) → T (is_sorted R es)
  sorted_tail e es h = second _ _ h

  -- an entry is below each that stands behind it
  pub sorted_below : (e : K × X) (es : List (K × X)) → T (is_sorted R (e ∷ es)) → (f : K × X) → Has es f → R e.0 f.0 ≡ Less
  sorted_below e es h = below_has e.0 es (first _ _ h)

  pub sorted_from : (e : K × X) (es : List (K × X)) → ((f : K × X) → Has es f → R e.0 f.0 ≡ Less) → T (is_sorted R es) → T (is_sorted R (e ∷ es))
  sorted_from e es below up = both _ _ (below_from e.0 es below) up

  -- those that pass a test rise as they did
  pub sorted_filter : (p : K × X → Bool) (es : List (K × X)) → T (is_sorted R es) → T (is_sorted R (filter p es))
  sorted_filter p [] h = tt
  sorted_filter p (e ∷ es) h =
      let rest = sorted_filter p es (sorted_tail e es h) in
      elim (p e) as (λ b. T (is_sorted R (cond b (e ∷ filter p es) (filter p es)))) [
        | true ↦ sorted_from e (filter p es) (λ f there. sorted_below e es h f (has_filtered p es f there).0) rest
        | false ↦ rest
      ]

module _ {K : Type 0} {R : K → K → Ordering} (o : IsTotalOrder R) where
  not_below_itself : {A : Type 0} (k : K) → R k k ≡ Less → A
  not_below_itself k l = let clash : Less ≡ Equal = sym l ∙ tied_itself o k in absurd (cc)

  module _ {X : Type 0} where
    -- at each key stands one value
    pub sorted_single : (es : List (K × X)) → T (is_sorted R es) → AreSingle es
    sorted_single [] h k x y hx hy = absurd hx
    sorted_single (e ∷ es) h k x y (inl is) (inl same) = ap (λ (p : K × X). p.1) (is ∙ sym same)
    sorted_single (e ∷ es) h k x y (inl is) (inr later) = not_below_itself k (subst (λ (p : K × X). R p.0 k ≡ Less) (sym is) (sorted_below R e es h (k, y) later))
    sorted_single (e ∷ es) h k x y (inr later) (inl is) = not_below_itself k (subst (λ (p : K × X). R p.0 k ≡ Less) (sym is) (sorted_below R e es h (k, x) later))
    sorted_single (e ∷ es) h k x y (inr hx) (inr hy) = sorted_single es (sorted_tail R e es h) k x y hx hy

    -- entries that rise are known by which there are
    pub same_sorted : IsAntisymmetric R → (a b : List (K × X)) → T (is_sorted R a) → T (is_sorted R b) → ((e : K × X) → Has a e → Has b e) → ((e : K × X) → Has b e → Has a e) → a ≡ b
    same_sorted same a b up rise to from =
        let one = alike o same a b (sorted_single b rise) (λ k x there. to (k, x) there) (λ k x there. from (k, x) there) in
        same_entries R o same a b up rise (λ q. sym (finite.get-from_entries o a q) ∙ ap (λ (m : finite.FinMap R X). finite.get m q) one ∙ finite.get-from_entries o b q)

    -- where each key has one value, the map of a list has just its entries
    module _ (same : IsAntisymmetric R) (es : List (K × X)) where
      abbrev made : finite.FinMap R X
      made = finite.from_entries es

      pub map_from : (e : K × X) → Has (finite.entries made) e → Has es e
      map_from e there =
          let here = at_one o same e.0 (finite.entries made) e.1 (sorted_single (finite.entries made) (finite.entries_sorted made)) there in
          found o same e.0 es e.1 (sym (finite.get-from_entries o es e.0) ∙ finite.get-entries made e.0 ∙ here)

      pub map_has : AreSingle es → (e : K × X) → Has es e → Has (finite.entries made) e
      map_has single e there =
          found o same e.0 (finite.entries made) e.1 (sym (finite.get-entries made e.0) ∙ finite.get-from_entries o es e.0 ∙ at_one o same e.0 es e.1 single there)

-- ---- rows that are read as entries

take_nil : {X : Type 0} (n : ℕ) → take {A = X} n [] ≡ []
take_nil zero = refl
take_nil (suc n) = refl

module _ {A E : Type 0} (entry : A → Option E) where
  -- what is shown of the first so many is read as what their entries have
  pub taken_read : {S Y : Type 0} (show : A → S) (read : S → Option Y) (g : E → Y) (rows : List A) → ((r : A) → Has rows r → (e : E) × (entry r ≡ Some e) × (read (show r) ≡ Some (g e)))
      → (most : ℕ) (ys : List Y) → map read (map show (take most rows)) ≡ map Some ys → ys ≡ take most (map g (filter_map entry rows))
  taken_read show read g [] each most [] is = sym (take_nil most)
  taken_read show read g [] each most (y ∷ ys) is = let none : [] ≡ Some y ∷ map Some ys = sym (ap (λ l. map read (map show l)) (take_nil most)) ∙ is in absurd (cc)
  taken_read show read g (r ∷ rows) each zero [] is = refl
  taken_read show read g (r ∷ rows) each zero (y ∷ ys) is = absurd (cc)
  taken_read show read g (r ∷ rows) each (suc n) [] is = absurd (cc)
  taken_read show read g (r ∷ rows) each (suc n) (y ∷ ys) is =
      let here = each r (inl refl) in
      let rest = taken_read show read g rows (λ s there. each s (inr there)) n ys (cc) in
      let one : Some y ≡ Some (g here.0) = sym (cc) ∙ here.2 in
      let same : y ≡ g here.0 = cc in
      (λ i. same i ∷ rest i) ∙ ap (λ o. take (suc n) (map g (cons_option o (filter_map entry rows)))) (sym here.1)
