-- Lists that grow at their end.
use Rattle.std.proofs.Common.{◌≡◌, inl, inr, ◌∙◌, ℕ, zero, suc, ◌+◌, Bool, true, false, cond, List, [], ◌∷◌, ◌++◌, length, find, slice_get, Option, None, Some, refl, ap, arith}
use Rattle.std.specs.List.{AllByRecursion, list_any, position_from}
use Rattle.std.specs.Option.{option_or}
use Rattle.std.proofs.lemmas.Bool.{or_parts}
use Rattle.std.proofs.lemmas.List.Folds.{find-append}
use Rattle.sqlite_rules.specs.Lists.{Has}

module _ {X : Type 0} where
  -- the first that passes stays the first, and one behind those that don't is found
  pub placed_still : (p : X → Bool) (k at : ℕ) (xs ys : List X) → position_from p k xs ≡ Some at → position_from p k (xs ++ ys) ≡ Some at
  placed_still p k at [] ys h = absurd (cc)
  placed_still p k at (x ∷ xs) ys h =
      elim (p x) as (λ b. cond b (Some k) (position_from p (k + 1) xs) ≡ Some at → cond b (Some k) (position_from p (k + 1) (xs ++ ys)) ≡ Some at) [
        | true ↦ λ here. here
        | false ↦ λ later. placed_still p (k + 1) at xs ys later
      ] h

  pub placed_behind : (p : X → Bool) (k : ℕ) (xs ys : List X) → position_from p k xs ≡ None → position_from p k (xs ++ ys) ≡ position_from p (k + length xs) ys
  placed_behind p k [] ys h = let same : k ≡ k + 0 = omega arith in ap (λ n. position_from p n ys) same
  placed_behind p k (x ∷ xs) ys h =
      let more : k + 1 + length xs ≡ k + suc (length xs) = omega arith in
      elim (p x) as (λ b. cond b (Some k) (position_from p (k + 1) xs) ≡ None → cond b (Some k) (position_from p (k + 1) (xs ++ ys)) ≡ position_from p (k + suc (length xs)) ys) [
        | true ↦ λ here. absurd (cc)
        | false ↦ λ later. placed_behind p (k + 1) xs ys later ∙ ap (λ n. position_from p n ys) more
      ] h

  placed_none : (p : X → Bool) (k : ℕ) (ys : List X) → list_any p ys ≡ false → position_from p k ys ≡ None
  placed_none p k [] h = refl
  placed_none p k (y ∷ ys) h = let parts = or_parts (p y) (list_any p ys) h in rw parts.0 (placed_none p (k + 1) ys parts.1)

  pub none_still : (p : X → Bool) (k : ℕ) (xs ys : List X) → position_from p k xs ≡ None → list_any p ys ≡ false → position_from p k (xs ++ ys) ≡ None
  none_still p k xs ys h none = placed_behind p k xs ys h ∙ placed_none p (k + length xs) ys none

  pub got_still : (xs ys : List X) (at : ℕ) (x : X) → slice_get xs at ≡ Some x → slice_get (xs ++ ys) at ≡ Some x
  got_still [] ys at x h = absurd (cc)
  got_still (y ∷ xs) ys zero x h = h
  got_still (y ∷ xs) ys (suc at) x h = got_still xs ys at x h

  pub got_last : (xs : List X) (x : X) → slice_get (xs ++ x ∷ []) (length xs) ≡ Some x
  got_last [] x = refl
  got_last (y ∷ xs) x = got_last xs x

  pub found_still : (p : X → Bool) (xs ys : List X) (x : X) → find p xs ≡ Some x → find p (xs ++ ys) ≡ Some x
  found_still p xs ys x h = find-append p xs ys ∙ ap (λ (o : Option X). option_or o (find p ys)) h

  found_none : (p : X → Bool) (xs : List X) → ((x : X) → Has xs x → p x ≡ false) → find p xs ≡ None
  found_none p [] each = refl
  found_none p (x ∷ xs) each = rw (each x (inl refl)) (found_none p xs (λ y there. each y (inr there)))

  pub found_last : (p : X → Bool) (xs : List X) (x : X) → ((y : X) → Has xs y → p y ≡ false) → p x ≡ true → find p (xs ++ x ∷ []) ≡ Some x
  found_last p xs x each fits = find-append p xs (x ∷ []) ∙ ap (λ (o : Option X). option_or o (find p (x ∷ []))) (found_none p xs each) ∙ rw fits refl

  pub all_last : (P : X → Type 0) (xs : List X) (x : X) → AllByRecursion P xs → P x → AllByRecursion P (xs ++ x ∷ [])
  all_last P [] x all one = (one, tt)
  all_last P (y ∷ xs) x all one = (all.0, all_last P xs x all.1 one)
