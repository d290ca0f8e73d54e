-- Keys that rise, and what a view holds in their order.
use Rattle.std.proofs.Common.{◌≡◌, ◌∙◌, inl, inr, ℕ, true, List, [], ◌∷◌, filter, refl, sym, ap, subst}
use Rattle.std.specs.Prelude.{Some}
use Rattle.std.specs.Cmp.{tied_itself}
use Rattle.std.specs.FinMap as finite
use Rattle.std.specs.List.{AllByRecursion}
use Rattle.std.specs.List.Sorted.{IsStrictlySortedBy}
use Rattle.std.specs.Map.{keys_of}
use Rattle.std.specs.declared.cmp.Ordering.TheVariants.{Less, Equal}
use Rattle.sqlite_rules.specs.Lists.{Has}
use Rattle.sqlite_rules.proofs.ListLemmas.{all_has, has_filtered, has_kept}
use Rattle.sqlite_rules.proofs.ProbeLemmas.{has_mapped, mapped_has}
use Rattle.gaz_standing.proofs.KeyHistories.{view_ascends}
use Rattle.gaz_standing.proofs.Passing.{rows_ascend}
use Rattle.gaz_records.proofs.KeyOrder.{keys_exact, keys_total}
use Rattle.gaz_records.specs.Keys.{key_cmp}
use Rattle.gaz_records.specs.declared.item.Item.{Item}
use Rattle.gaz_records.specs.declared.key.Key.{Key}
use Rattle.gaz_views.specs.View.{View}
use Rattle.gaz_views.specs.Words.{approved_of, entries, is_approved_of}
use Rattle.gaz_row_items.proofs.Pairs.{AreSingle, at_one, found}

abbrev pub Rise : List Key → Type 0
Rise = IsStrictlySortedBy key_cmp

not_itself : (k : Key) → ¬ (key_cmp k k ≡ Less)
not_itself k less = let clash : Equal ≡ Less = sym (tied_itself keys_total k) ∙ less in absurd (cc)

not_both : (a b : Key) → key_cmp a b ≡ Less → ¬ (key_cmp b a ≡ Less)
not_both a b up down = not_itself a (keys_total.trans a b a up down)

-- ---- lists that rise and have the same keys are one

below : (k q : Key) (ks : List Key) → AllByRecursion (λ y. key_cmp k y ≡ Less) ks → Has ks q → key_cmp k q ≡ Less
below k q ks above h = all_has (λ y. key_cmp k y ≡ Less) ks q above h

same_head : (x y : Key) (xs ys : List Key) → AllByRecursion (λ q. key_cmp x q ≡ Less) xs → AllByRecursion (λ q. key_cmp y q ≡ Less) ys → Has (y ∷ ys) x → Has (x ∷ xs) y → x ≡ y
same_head x y xs ys hx hy (inl same) other = same
same_head x y xs ys hx hy (inr later) (inl same) = sym same
same_head x y xs ys hx hy (inr lx) (inr ly) = absurd (not_both y x (below y x ys hy lx) (below x y xs hx ly))

-- a key behind the head stands behind the other head
behind : (x y q : Key) (xs ys : List Key) → x ≡ y → AllByRecursion (λ k. key_cmp x k ≡ Less) xs → Has xs q → Has (y ∷ ys) q → Has ys q
behind x y q xs ys same above h (inr later) = later
behind x y q xs ys same above h (inl is) = absurd (not_itself x (subst (λ k. key_cmp x k ≡ Less) (is ∙ sym same) (below x q xs above h)))

pub rising_same : (xs ys : List Key) → Rise xs → Rise ys → ((q : Key) → Has xs q → Has ys q) → ((q : Key) → Has ys q → Has xs q) → xs ≡ ys
unfolding IsStrictlySortedBy
rising_same [] [] hx hy to from = refl
rising_same [] (y ∷ ys) hx hy to from = absurd (from y (inl refl))
rising_same (x ∷ xs) [] hx hy to from = absurd (to x (inl refl))
rising_same (x ∷ xs) (y ∷ ys) hx hy to from =
    let head = same_head x y xs ys hx.0 hy.0 (to x (inl refl)) (from y (inl refl)) in
    let rest = rising_same xs ys hx.1 hy.1
    (λ q h. behind x y q xs ys head hx.0 h (to q (inr h)))
    (λ q h. behind y x q ys xs (sym head) hy.0 h (from q (inr h))) in
    λ i. head i ∷ rest i

-- ---- the entries of a view

single_rising : (es : List (Key × Item)) → Rise (keys_of es) → AreSingle es
unfolding IsStrictlySortedBy
single_rising [] h k x y hx hy = absurd hx
single_rising (e ∷ es) h k x y (inl hx) (inl hy) = ap (λ p. p.1) (hx ∙ sym hy)
single_rising (e ∷ es) h k x y (inl hx) (inr hy) = absurd (not_itself k (subst (λ q. key_cmp q k ≡ Less) (sym (ap (λ p. p.0) hx)) (below e.0 k (keys_of es) h.0 (mapped_has (λ p. p.0) es (k, y) hy))))
single_rising (e ∷ es) h k x y (inr hx) (inl hy) = absurd (not_itself k (subst (λ q. key_cmp q k ≡ Less) (sym (ap (λ p. p.0) hy)) (below e.0 k (keys_of es) h.0 (mapped_has (λ p. p.0) es (k, x) hx))))
single_rising (e ∷ es) h k x y (inr hx) (inr hy) = single_rising es h.1 k x y hx hy

module _ (v : View) where
  pub entry_there : (k : Key) (x : Item) → finite.get v.items k ≡ Some x → Has (entries v) (k, x)
  entry_there k x is = found keys_total keys_exact k (entries v) x (sym (finite.get-entries v.items k) ∙ is)

  pub entry_is : (k : Key) (x : Item) → Has (entries v) (k, x) → finite.get v.items k ≡ Some x
  entry_is k x h = finite.get-entries v.items k ∙ at_one keys_total keys_exact k (entries v) x (single_rising (entries v) (view_ascends v)) h

  -- ---- approved addresses

  module _ (uprn : ℕ) where
    pub approved_rise : Rise (approved_of v uprn)
    approved_rise = rows_ascend (λ e. is_approved_of uprn e.1) (entries v) (view_ascends v)

    pub approved_there : (k : Key) (x : Item) → finite.get v.items k ≡ Some x → is_approved_of uprn x ≡ true → Has (approved_of v uprn) k
    approved_there k x is approved = mapped_has (λ e. e.0) (filter (λ e. is_approved_of uprn e.1) (entries v)) (k, x) (has_kept (λ e. is_approved_of uprn e.1) (entries v) (k, x) (entry_there k x is) approved)

    pub approved_is : (k : Key) → Has (approved_of v uprn) k → (x : Item) × (finite.get v.items k ≡ Some x) × (is_approved_of uprn x ≡ true)
    approved_is k h =
        let e = has_mapped (λ (e : Key × Item). e.0) (filter (λ e. is_approved_of uprn e.1) (entries v)) k h in
        let f = has_filtered (λ (e : Key × Item). is_approved_of uprn e.1) (entries v) e.0 e.1 in
        (e.0.1, subst (λ q. finite.get v.items q ≡ Some e.0.1) (sym e.2) (entry_is e.0.0 e.0.1 f.0), f.1)
