-- Five fields are read as house numbers, and then as a text.
use Rattle.std.proofs.Common.{◌≡◌, ℕ, List, [], ◌∷◌, ◌++◌, Bool, true, false, refl, ◌∙◌, arith, Ok, Err, Some, None}
use Rattle.std.specs.Prelude.{Option, Result, ◌&&◌, is_none, if◌then◌else◌}
use Rattle.std.proofs.lemmas.Bool.Decides.{nat_tests}
use Rattle.gaz_addressable.specs.HouseNumbers.{RangeValue}
use Rattle.gaz_addressable.specs.Objects.{ObjectValue, first_of, is_empty, object_of, range_faults, range_of, range_value, text_faults, unless, with_text}
use Rattle.gaz_addressable.specs.declared.object.ObjFault.{ObjFault}
use Rattle.gaz_addressable.specs.declared.object.ObjFault.TheVariants as fault

-- where no fault of the first applies, the first of all is that of the rest
passed : {A : Type 0} (xs ys : List (Bool × ObjFault)) (v x : A) → unless (first_of xs) v ≡ Ok x → first_of (xs ++ ys) ≡ first_of ys
passed [] ys v x h = refl
passed ((true, f) ∷ xs) ys v x h = cc h
passed ((false, f) ∷ xs) ys v x h = passed xs ys v x h

valued : {A : Type 0} (xs : List (Bool × ObjFault)) (v x : A) → unless (first_of xs) v ≡ Ok x → v ≡ x
valued [] v x h = cc h
valued ((true, f) ∷ xs) v x h = cc h
valued ((false, f) ∷ xs) v x h = valued xs v x h

-- and else it is that of the first
failed : {A : Type 0} (xs ys : List (Bool × ObjFault)) (v : A) (f : ObjFault) → unless (first_of xs) v ≡ Err f → first_of (xs ++ ys) ≡ Some f
failed [] ys v f h = cc h
failed ((true, g) ∷ xs) ys v f h = cc h
failed ((false, g) ∷ xs) ys v f h = failed xs ys v f h

-- four fields are empty where they say no house numbers, and only there
blank : (a b c d : List ℕ) → range_of a b c d ≡ Ok None → (is_empty a && is_empty b && is_empty c && is_empty d) ≡ true
unfolding range_of
blank a b c d e = grind (arith, nat_tests)

not_blank : (a b c d : List ℕ) (r : RangeValue) → range_of a b c d ≡ Ok (Some r) → (is_empty a && is_empty b && is_empty c && is_empty d) ≡ false
unfolding range_of
not_blank a b c d r e = grind (arith, nat_tests)

faulty : (a b c d : List ℕ) (f : ObjFault) → range_of a b c d ≡ Err f → (is_empty a && is_empty b && is_empty c && is_empty d) ≡ false
unfolding range_of
faulty a b c d f e = grind (arith, nat_tests)

all_blank : (a b c d : List ℕ) (r : Option RangeValue) → range_of a b c d ≡ Ok r → (is_empty a && is_empty b && is_empty c && is_empty d) ≡ is_none r
all_blank a b c d None e = blank a b c d e
all_blank a b c d (Some r) e = not_blank a b c d r e

-- the faults and the value of five fields, put together
put : Bool → List ℕ → Option ObjFault → Option RangeValue → Result ObjectValue ObjFault
put blank text first range = unless (if blank && is_empty text then Some fault.Empty else first) (record { range = range; text = if is_empty text then None else Some text })

put-is : (a b c d e : List ℕ) → object_of a b c d e ≡ put (is_empty a && is_empty b && is_empty c && is_empty d) e (first_of (range_faults a b c d ++ text_faults e)) (range_value a b c d)
unfolding object_of put
put-is a b c d e = refl

either : (b : Bool) (first : Option ObjFault) (x : ObjectValue)
    → unless (if b then Some fault.Empty else first) x ≡ (if b then Err fault.Empty else unless first x)
either true first x = refl
either false first x = refl

put-text : (r : Option RangeValue) (e : List ℕ) → put (is_none r) e (first_of (text_faults e)) r ≡ with_text r e
unfolding put
put-text r e = either (is_none r && is_empty e) (first_of (text_faults e)) (record { range = r; text = if is_empty e then None else Some e })

put-fault : (e : List ℕ) (f : ObjFault) (r : Option RangeValue) → put false e (Some f) r ≡ Err f
unfolding put
put-fault e f r = refl

pub object_of-read : (a b c d e : List ℕ) (r : Option RangeValue) → range_of a b c d ≡ Ok r → object_of a b c d e ≡ with_text r e
unfolding range_of
object_of-read a b c d e r h =
    let first = passed (range_faults a b c d) (text_faults e) (range_value a b c d) r h in
    let value = valued (range_faults a b c d) (range_value a b c d) r h in
    put-is a b c d e ∙ (λ i. put (all_blank a b c d r h i) e (first i) (value i)) ∙ put-text r e

pub object_of-fault : (a b c d e : List ℕ) (f : ObjFault) → range_of a b c d ≡ Err f → object_of a b c d e ≡ Err f
unfolding range_of
object_of-fault a b c d e f h =
    let first = failed (range_faults a b c d) (text_faults e) (range_value a b c d) f h in
    put-is a b c d e ∙ (λ i. put (faulty a b c d f h i) e (first i) (range_value a b c d)) ∙ put-fault e f (range_value a b c d)

pub ruleset readings = (object_of-read, object_of-fault)
