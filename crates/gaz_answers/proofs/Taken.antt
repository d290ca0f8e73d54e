-- What is taken of a list.
use Rattle.std.proofs.Common.{◌≡◌, ◌∙◌, ◌-◌, ◌⊎◌, ℕ, zero, suc, List, [], ◌∷◌, drop, length, slice_get, take, inl, inr, refl, sym, ap, subst, arith}
use Rattle.std.specs.Prelude.{None}
use Rattle.std.proofs.lemmas.List.{take-append-drop}
use Rattle.sqlite_rules.specs.Lists.{Has}
use Rattle.sqlite_rules.proofs.ListLemmas.{all_from, all_has, has_either, has_left}
use Rattle.sqlite_trees.specs.Tree.{IsAscending}
use Rattle.gaz_kept.proofs.RowsRead.{not_none}
use Rattle.gaz_loaded.specs.Telling.{last_of}

pub taken : {X : Type 0} (n : ℕ) (xs : List X) (x : X) → Has (take n xs) x → Has xs x
taken n xs x h = subst (λ l. Has l x) (take-append-drop n xs) (has_left (take n xs) (drop n xs) x h)

pub taken_or_not : {X : Type 0} (n : ℕ) (xs : List X) (x : X) → Has xs x → Has (take n xs) x ⊎ Has (drop n xs) x
taken_or_not n xs x h = has_either (take n xs) (drop n xs) x (subst (λ l. Has l x) (sym (take-append-drop n xs)) h)

dropped : {X : Type 0} (n : ℕ) (xs : List X) (x : X) → Has (drop n xs) x → Has xs x
dropped zero xs x h = h
dropped (suc n) [] x h = absurd h
dropped (suc n) (y ∷ xs) x h = inr (dropped n xs x h)

-- what is taken is below what is not
pub before : {X : Type 0} (R : X → X → Type 0) (n : ℕ) (xs : List X) (a b : X) → IsAscending R xs → Has (take n xs) a → Has (drop n xs) b → R a b
before R zero xs a b up ha hb = absurd ha
before R (suc n) [] a b up ha hb = absurd ha
before R (suc n) (x ∷ xs) a b up (inl same) hb = subst (λ y. R y b) (sym same) (all_has (R x) xs b up.0 (dropped n xs b hb))
before R (suc n) (x ∷ xs) a b up (inr later) hb = before R n xs a b up.1 later hb

-- and rises as it did
pub taken_rises : {X : Type 0} (R : X → X → Type 0) (n : ℕ) (xs : List X) → IsAscending R xs → IsAscending R (take n xs)
taken_rises R zero xs up = tt
taken_rises R (suc n) [] up = tt
taken_rises R (suc n) (x ∷ xs) up = (all_from (R x) (take n xs) (λ y there. all_has (R x) xs y up.0 (taken n xs y there)), taken_rises R n xs up.1)

-- nothing is left of a list of which nothing is taken, though something might be
pub none_taken : {X : Type 0} (n : ℕ) (xs : List X) → ((x : X) → ¬ Has (take (suc n) xs) x) → (x : X) → ¬ Has xs x
none_taken n [] none x h = h
none_taken n (y ∷ xs) none x h = none y (inl refl)

-- a list without a last element is empty
some_last : {X A : Type 0} (x : X) (xs : List X) → slice_get (x ∷ xs) (length xs) ≡ None → A
some_last x [] none = not_none x refl none
some_last x (y ∷ xs) none = some_last y xs none

pub empty_is : {X : Type 0} (xs : List X) → last_of xs ≡ None → xs ≡ []
empty_is [] none = refl
empty_is (x ∷ xs) none = let e : length (x ∷ xs) - 1 ≡ length xs = omega arith in some_last x xs (ap (slice_get (x ∷ xs)) (sym e) ∙ none)
