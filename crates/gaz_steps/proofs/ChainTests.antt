-- What follows from faults of which there are none.
use Rattle.std.proofs.Common.{◌≡◌, ℕ, List, [], ◌∷◌, ◌++◌, refl}
use Rattle.std.specs.Prelude.{Option, Some, None}
use Rattle.std.specs.List.{cons_option, filter_map}
use Rattle.gaz_rules.specs.Judging.{fault_at}

pub both_empty : {X : Type 0} (xs ys : List X) → xs ++ ys ≡ [] → (xs ≡ []) × (ys ≡ [])
both_empty [] ys e = (refl, e)
both_empty (x ∷ xs) ys e = cc

pub first_none : {X Y : Type 0} (f : X → Option Y) (x : X) (xs : List X) → filter_map f (x ∷ xs) ≡ [] → (f x ≡ None) × (filter_map f xs ≡ [])
first_none f x xs e =
    elim (f x) as (λ o. f x ≡ o → (cons_option o (filter_map f xs)) ≡ [] → (f x ≡ None) × (filter_map f xs ≡ [])) [
      | None ↦ λ is rest. (is, rest)
      | Some y ↦ λ _ no. cc
    ] refl e

pub no_fault : (place : ℕ) (rule : Option ℕ) → fault_at place rule ≡ None → rule ≡ None
no_fault place None e = refl
no_fault place (Some r) e = cc
