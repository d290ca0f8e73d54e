-- What is gathered from a list, one item after another, up to the first fault.
use Rattle.std.proofs.Common.{◌≡◌, inl, inr, ℕ, List, [], ◌∷◌, ◌++◌, map, drop, refl, sym, ap, ◌∙◌, append_assoc, Ok, Err}
use Rattle.std.specs.Prelude.{Result}
use Rattle.std.specs.List.{fold}
use Rattle.std.specs.List.Sorted.{IsNonDecreasingBy}
use Rattle.gaz_register.specs.Lists.{place}
use Rattle.std.proofs.lemmas.List.{append-nil}
use Rattle.gaz_register.specs.Drafts.{◌then◌, all_good, OrMemory}
use Rattle.gaz_register.specs.declared.fault.RegFault.{RegFault}
use Rattle.gaz_register.specs.declared.fault.RegFault.TheVariants.{Memory}

pub ok-of : {A : Type 0} (a : A) (r : Result A RegFault) → OrMemory (Ok a) r → r ≡ Ok a
ok-of a r (inl e) = sym e
ok-of a r (inr e) = cc e

-- a fault of a part is one of the whole
pub fault-of : {A B : Type 0} (e : RegFault) (r : Result A RegFault) (whole : Result B RegFault)
    → OrMemory (Err e) r → (r ≡ Err e → whole ≡ Err e) → OrMemory (Err e) whole
fault-of e r whole (inl h) on = inl (sym (on (sym h)))
fault-of e r whole (inr h) on = let m : e ≡ Memory = cc h in inr (ap Err m)

module _ {X Y Z : Type 0} (f : X → Result Y RegFault) (add : Z → Y → Z) where
  -- what is gathered already, and the rest
  abbrev pub onto : Z → List X → Result Z RegFault
  onto done rest = all_good (map f rest) then (λ more. Ok (fold add done more))

pub fold-push : {Y : Type 0} (done more : List Y) → fold (λ ys y. ys ++ y ∷ []) done more ≡ done ++ more
fold-push done [] = sym (append-nil done)
fold-push done (y ∷ ys) = fold-push (done ++ y ∷ []) ys ∙ append_assoc done (y ∷ []) ys

as-pushed : {Y : Type 0} (r : Result (List Y) RegFault) → r then (λ more. Ok (fold (λ ys y. ys ++ y ∷ []) [] more)) ≡ r
as-pushed (Ok ys) = ap Ok (fold-push [] ys)
as-pushed (Err e) = refl

pub onto_pushed : {X Y : Type 0} (f : X → Result Y RegFault) (xs : List X) → onto f (λ ys y. ys ++ y ∷ []) [] xs ≡ all_good (map f xs)
onto_pushed f xs = as-pushed (all_good (map f xs))

-- in a loop that puts each at its place: what it has, with the rest, comes to the whole
pub record Gathers {X Y : Type 0} (f : X → Result Y RegFault) (key : Y → ℕ) (done : List Y) (i : ℕ) (xs : List X) : Type 0 where
  pub whole : onto f (λ sorted y. place key y sorted) done (drop i xs) ≡ onto f (λ sorted y. place key y sorted) [] xs
  pub rises : IsNonDecreasingBy key done
