-- Elements of lists, and their ends.
use Rattle.std.proofs.Common.{◌≡◌, ◌⊎◌, inl, inr, ℕ, zero, suc, ◌<◌, List, [], ◌∷◌, ◌++◌, length, refl, sym, ap, arith}
use Rattle.std.specs.Prelude.{Option, Some, None, slice_get}
use Rattle.std.specs.List.{last_or}
use Rattle.std.proofs.lemmas.Option.{none-some, same_Some}
use Rattle.gaz_chains.specs.Events.{Has}
use Rattle.gaz_chains.specs.Chains.{IsPrefixOf}

module _ {X : Type 0} where
  pub get_kept : (xs ys : List X) (i : ℕ) (x : X) → slice_get xs i ≡ Some x → slice_get (xs ++ ys) i ≡ Some x
  get_kept [] ys i x e = absurd (none-some x e)
  get_kept (y ∷ xs) ys zero x e = e
  get_kept (y ∷ xs) ys (suc i) x e = get_kept xs ys i x e

  pub get_pushed : (xs : List X) (y : X) → slice_get (xs ++ y ∷ []) (length xs) ≡ Some y
  get_pushed [] y = refl
  get_pushed (x ∷ xs) y = get_pushed xs y

  -- an element of a list and one more is an old one or that one
  pub get_split : (xs : List X) (y : X) (i : ℕ) (x : X) → slice_get (xs ++ y ∷ []) i ≡ Some x → (slice_get xs i ≡ Some x) ⊎ ((i ≡ length xs) × (x ≡ y))
  get_split [] y zero x e = inr (refl, sym (same_Some y x e))
  get_split [] y (suc i) x e = absurd (none-some x e)
  get_split (z ∷ xs) y zero x e = inl e
  get_split (z ∷ xs) y (suc i) x e =
      elim (get_split xs y i x e) [ inl old ↦ inl old | inr new ↦ inr (ap suc new.0, new.1) ]

  pub get_before : (xs : List X) (i : ℕ) (x : X) → slice_get xs (suc i) ≡ Some x → (w : X) × (slice_get xs i ≡ Some w)
  get_before [] i x e = absurd (none-some x e)
  get_before (y ∷ xs) zero x e = (y, refl)
  get_before (y ∷ xs) (suc i) x e = get_before xs i x e

  pub get_within : (xs : List X) (i : ℕ) (x : X) → slice_get xs i ≡ Some x → i < length xs
  get_within [] i x e = absurd (none-some x e)
  get_within (y ∷ xs) zero x e = omega arith
  get_within (y ∷ xs) (suc i) x e = omega (arith, get_within xs i x e)

  -- an element that none follows is the last
  pub length_here : (xs : List X) (i : ℕ) (x : X) → slice_get xs i ≡ Some x → ((y : X) → slice_get xs (suc i) ≡ Some y → ⊥) → length xs ≡ suc i
  length_here [] i x e none = absurd (none-some x e)
  length_here (y ∷ []) zero x e none = refl
  length_here (y ∷ (z ∷ xs)) zero x e none = absurd (none z refl)
  length_here (y ∷ xs) (suc i) x e none = ap suc (length_here xs i x e none)

  pub last_pushed : (o : Option X) (xs : List X) (y : X) → last_or o (xs ++ y ∷ []) ≡ Some y
  last_pushed o [] y = refl
  last_pushed o (x ∷ xs) y = last_pushed (Some x) xs y

  pub last_here : (o : Option X) (xs : List X) (i : ℕ) (x : X) → slice_get xs i ≡ Some x → length xs ≡ suc i → last_or o xs ≡ Some x
  last_here o [] i x e l = absurd (none-some x e)
  last_here o (y ∷ []) zero x e l = e
  last_here o (y ∷ (z ∷ xs)) zero x e l = absurd (omega (arith, l))
  last_here o (y ∷ xs) (suc i) x e l = last_here (Some y) xs i x e (omega (arith, l))

  -- where the last one stands
  pub last_at : (xs : List X) (z x : X) → last_or (Some z) xs ≡ Some x → (slice_get (z ∷ xs) (length xs) ≡ Some x)
  last_at [] z x e = e
  last_at (y ∷ xs) z x e = last_at xs y x e

  pub has_last : (xs : List X) (x : X) → last_or None xs ≡ Some x → (i : ℕ) × (slice_get xs i ≡ Some x) × (length xs ≡ suc i)
  has_last [] x e = absurd (none-some x e)
  has_last (y ∷ xs) x e = (length xs, last_at xs y x e, refl)

  pub has_kept : (xs ys : List X) (x : X) → Has xs x → Has (xs ++ ys) x
  has_kept xs ys x h = (h.0, get_kept xs ys h.0 x h.1)

  pub has_pushed : (xs : List X) (y : X) → Has (xs ++ y ∷ []) y
  has_pushed xs y = (length xs, get_pushed xs y)

  pub has_split : (xs : List X) (y x : X) → Has (xs ++ y ∷ []) x → Has xs x ⊎ (x ≡ y)
  has_split xs y x h = elim (get_split xs y h.0 x h.1) [ inl old ↦ inl (h.0, old) | inr new ↦ inr new.1 ]

  pub none_has : (x : X) → Has [] x → ⊥
  none_has x h = none-some x h.1

  -- a list whose elements stand at their places in another begins it
  pub prefix_from_gets : (xs ys : List X) → ((i : ℕ) (x : X) → slice_get xs i ≡ Some x → slice_get ys i ≡ Some x) → IsPrefixOf xs ys
  prefix_from_gets [] ys there = (ys, refl)
  prefix_from_gets (x ∷ xs) [] there = absurd (none-some x (there zero x refl))
  prefix_from_gets (x ∷ xs) (y ∷ ys) there =
      let rest = prefix_from_gets xs ys (λ i z e. there (suc i) z e) in
      let same = same_Some y x (there zero x refl) in
      (rest.0, λ i. sym same i ∷ rest.1 i)

  -- two lists whose elements stand at their places in the other are one
  pub same_from_gets : (xs ys : List X) → ((i : ℕ) (x : X) → slice_get xs i ≡ Some x → slice_get ys i ≡ Some x) → ((i : ℕ) (x : X) → slice_get ys i ≡ Some x → slice_get xs i ≡ Some x) → xs ≡ ys
  same_from_gets [] [] there back = refl
  same_from_gets [] (y ∷ ys) there back = absurd (none-some y (back zero y refl))
  same_from_gets (x ∷ xs) [] there back = absurd (none-some x (there zero x refl))
  same_from_gets (x ∷ xs) (y ∷ ys) there back =
      let rest = same_from_gets xs ys (λ i z e. there (suc i) z e) (λ i z e. back (suc i) z e) in
      let same = same_Some y x (there zero x refl) in
      λ i. sym same i ∷ rest i
