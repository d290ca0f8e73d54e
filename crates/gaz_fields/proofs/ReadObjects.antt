-- An addressable object that five fields say is such as the table allows.
use Rattle.std.proofs.Common.{◌≡◌, ℕ, Bool, true, false, List, [], ◌∷◌, ◌++◌, refl, arith, subst, Some, None, Ok, Err}
use Rattle.std.specs.Prelude.{◌&&◌, ◌||◌, not, nat_le, is_none, is_some, Option, Result, if◌then◌else◌}
use Rattle.std.specs.Result.{result_ok}
use Rattle.std.specs.Option.{option_flatten, unwrap_or}
use Rattle.std.proofs.lemmas.Bool.Decides.{nat_tests}
use Rattle.gaz_ids.specs.Numbers.{read_id}
use Rattle.gaz_addressable.specs.Texts.{is_text}
use Rattle.gaz_addressable.specs.HouseNumbers.{HouseNumberValue, house_of, is_number_or_none, is_suffix, suffix_of}
use Rattle.gaz_addressable.specs.Objects.{ObjectValue, first_of, is_empty, is_object, is_range_or_none, numbered, object_faults, object_of, range_faults, range_from, range_value, rises_if_there, text_faults, unless}
use Rattle.gaz_addressable.specs.declared.object.ObjFault.{ObjFault}
use Rattle.gaz_fields.specs.Forms.{AddressableObject, no_object, object_at, says}
use Rattle.gaz_fields.proofs.Both.{and-both}

-- a house number that was read is from 1 to 9999
number-read : (t : List ℕ) (n : ℕ) → option_flatten (house_of t) ≡ Some n → (nat_le 1 n && nat_le n 9999) ≡ true
unfolding read_id
number-read t n h = grind (arith, nat_tests, h)

suffix-read : (t : List ℕ) (s : Option ℕ) → option_flatten (suffix_of t) ≡ s → is_suffix s ≡ true
suffix-read t None h = refl
suffix-read t (Some c) h = grind (arith, nat_tests, h)

house-read : (n s : Option ℕ) → ((m : ℕ) → n ≡ Some m → (nat_le 1 m && nat_le m 9999) ≡ true) → is_suffix s ≡ true → is_number_or_none (numbered n s) ≡ true
house-read None s number suffix = refl
house-read (Some n) s number suffix = and-both _ _ (number n refl) suffix

range-read : (from to : Option HouseNumberValue) → is_number_or_none from ≡ true → is_number_or_none to ≡ true → rises_if_there (range_from from to) ≡ true
    → is_range_or_none (range_from from to) ≡ true
range-read None to from-fits to-fits up = refl
range-read (Some from) to from-fits to-fits up = and-both _ _ (and-both _ _ from-fits to-fits) up

-- none of the faults applies
abbrev NoneHolds : List (Bool × ObjFault) → Type 0
NoneHolds [] = Unit {0}
NoneHolds ((holds, fault) ∷ faults) = (holds ≡ false) × NoneHolds faults

none-holds : (faults : List (Bool × ObjFault)) → first_of faults ≡ None → NoneHolds faults
none-holds [] h = tt
none-holds ((true, fault) ∷ faults) h = cc h
none-holds ((false, fault) ∷ faults) h = (refl, none-holds faults h)

none-first : (xs ys : List (Bool × ObjFault)) → NoneHolds (xs ++ ys) → NoneHolds xs
none-first [] ys h = tt
none-first ((holds, fault) ∷ xs) ys h = (h.0, none-first xs ys h.1)

none-last : (xs ys : List (Bool × ObjFault)) → NoneHolds (xs ++ ys) → NoneHolds ys
none-last [] ys h = h
none-last ((holds, fault) ∷ xs) ys h = none-last xs ys h.1

-- the object that was made where no fault applies
record Faultless (faults : List (Bool × ObjFault)) (made answer : ObjectValue) : Type 0 where
  none : NoneHolds faults
  same : made ≡ answer

faultless : (faults : List (Bool × ObjFault)) (made answer : ObjectValue) → unless (first_of faults) made ≡ Ok answer → Faultless faults made answer
faultless faults made answer h = by_first (first_of faults) refl h
  where
    by_first : (o : Option ObjFault) → first_of faults ≡ o → unless o made ≡ Ok answer → Faultless faults made answer
    by_first None e h = record { none = none-holds faults e; same = cc h }
    by_first (Some fault) e h = cc h

started : (a : List ℕ) → is_none (house_of a) ≡ false → is_empty a ≡ false → is_some (option_flatten (house_of a)) ≡ true
started a formed some = grind (arith, nat_tests, formed, some)

range-started : (n s : Option ℕ) (to : Option HouseNumberValue) → is_some n ≡ true → is_some (range_from (numbered n s) to) ≡ true
range-started None s to h = cc h
range-started (Some n) s to h = refl

or-right : (b : Bool) → b || true ≡ true
or-right true = refl
or-right false = refl

not-true : (b : Bool) → not b ≡ false → b ≡ true
not-true true h = refl
not-true false h = cc h

there : (a b c d : List ℕ) → NoneHolds (range_faults a b c d) → (is_empty a && is_empty b && is_empty c && is_empty d) ≡ false → is_some (range_value a b c d) ≡ true
there a b c d none some = by_start (is_empty a) refl
  where
    by_start : (start : Bool) → is_empty a ≡ start → is_some (range_value a b c d) ≡ true
    by_start true blank = let suffix = none.1.0 in let end = none.1.1.1.0 in let end_suffix = none.1.1.1.1.0 in grind (arith, nat_tests, some, suffix, end, end_suffix, blank)
    by_start false filled = range-started (option_flatten (house_of a)) _ _ (started a none.0 filled)

-- the house number that two fields say, if any
house : (number suffix : List ℕ) → Option HouseNumberValue
house number suffix = numbered (option_flatten (house_of number)) (option_flatten (suffix_of suffix))

house-said : (number suffix : List ℕ) → is_number_or_none (house number suffix) ≡ true
unfolding house
house-said number suffix = house-read (option_flatten (house_of number)) (option_flatten (suffix_of suffix)) (number-read number) (suffix-read suffix _ refl)

range-said : (a b c d : List ℕ) → NoneHolds (range_faults a b c d) → is_range_or_none (range_value a b c d) ≡ true
unfolding house
range-said a b c d none = range-read (house a b) (house c d) (house-said a b) (house-said c d) (not-true _ none.1.1.1.1.1.0)

object-said : (a b c d e : List ℕ) → NoneHolds (object_faults a b c d e)
    → is_object (record { range = range_value a b c d; text = if is_empty e then None else Some e }) ≡ true
object-said a b c d e none = by_text (is_empty e) refl
  where
    ranges : NoneHolds (range_faults a b c d)
    ranges = none-first (range_faults a b c d) (text_faults e) none.1

    texts : NoneHolds (text_faults e)
    texts = none-last (range_faults a b c d) (text_faults e) none.1

    plain : is_empty e ≡ false → is_text 90 e ≡ true
    plain filled = let form = texts.0 in let long = texts.1.0 in grind (arith, nat_tests, form, long, filled)

    some : is_empty e ≡ true → (is_empty a && is_empty b && is_empty c && is_empty d) ≡ false
    some blank = let empty = none.0 in grind (arith, nat_tests, empty, blank)

    by_text : (blank : Bool) → is_empty e ≡ blank → is_object (record { range = range_value a b c d; text = if blank then None else Some e }) ≡ true
    by_text true blank = and-both _ _ (and-both _ _ (rw (there a b c d ranges (some blank)) refl) (range-said a b c d ranges)) refl
    by_text false filled = and-both _ _ (and-both _ _ (or-right (is_some (range_value a b c d))) (range-said a b c d ranges)) (plain filled)

object-read : (a b c d e : List ℕ) (o : ObjectValue) → object_of a b c d e ≡ Ok o → is_object o ≡ true
unfolding object_of
object-read a b c d e o h =
    let k = faultless (object_faults a b c d e) (record { range = range_value a b c d; text = if is_empty e then None else Some e }) o h in
    subst (λ (o : ObjectValue). is_object o ≡ true) k.same (object-said a b c d e k.none)

pub ok-read : (a b c d e : List ℕ) (r : Result ObjectValue ObjFault) → object_of a b c d e ≡ r → (o : ObjectValue) → result_ok r ≡ Some o → is_object o ≡ true
ok-read a b c d e (Ok made) is o h = let same : made ≡ o = cc h in subst (λ (o : ObjectValue). is_object o ≡ true) same (object-read a b c d e made is)
ok-read a b c d e (Err fault) is o h = cc h

object-known : (said : Option ObjectValue) → ((o : ObjectValue) → said ≡ Some o → is_object o ≡ true) → is_some said ≡ true → is_object (unwrap_or said no_object) ≡ true
object-known None known h = cc h
object-known (Some o) known h = known o refl

pub object-fits : (f : List (List ℕ)) (i : ℕ) → is_some (says AddressableObject f i) ≡ true → is_object (unwrap_or (says AddressableObject f i) no_object) ≡ true
unfolding says
object-fits f i h = object-known (result_ok (object_at f i)) (ok-read _ _ _ _ _ (object_at f i) refl) h
