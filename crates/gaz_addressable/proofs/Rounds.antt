-- What an object writes reads back.
use Rattle.std.proofs.Common.{◌≡◌, ℕ, List, [], Bool, true, false, ◌≤◌, arith, refl, Ok, Some, None, ◌∙◌}
use Rattle.std.specs.Prelude.{◌&&◌, nat_le, decimal, Option}
use Rattle.std.specs.Option.{unwrap_or}
use Rattle.std.proofs.lemmas.Bool.Decides.{nat_tests}
use Rattle.std.proofs.lemmas.Fmt.{decimal_nonempty}
use Rattle.gaz_ids.proofs.Numerals.{read_decimal}
use Rattle.gaz_addressable.specs.Texts.{is_plain, char_count}
use Rattle.gaz_addressable.specs.HouseNumbers.{HouseNumberValue, RangeValue, house_of, is_before, is_before_end, is_house_number, is_number_or_none, is_suffix, suffix_of, suffix_text}
use Rattle.gaz_addressable.specs.Objects.{ObjectValue, digits_text, from_of, is_object, is_range_or_none, is_text_or_none, is_there, letter_text, object_of_fields, range_of, texts_of, to_of, with_text}
use Rattle.gaz_addressable.proofs.Characters.{plain_some}
use Rattle.gaz_addressable.proofs.Reading.{object_of-read}

and-left : (a b : Bool) → a && b ≡ true → a ≡ true
and-left true b e = refl
and-left false b e = cc e

and-right : (a b : Bool) → a && b ≡ true → b ≡ true
and-right true b e = e
and-right false b e = cc e

-- what a house number writes reads back
house_back : (n : ℕ) → 1 ≤ n → n ≤ 9999 → house_of (decimal n) ≡ Some (Some n)
house_back n a b =
    let some = decimal_nonempty n (omega (arith, b)) in
    rw (read_decimal 4 1 9999 n (omega arith) (omega (arith, b)) (omega (arith, b)) a b) (grind (arith, nat_tests, some))

suffix_back : (s : Option ℕ) → is_suffix s ≡ true → suffix_of (suffix_text s) ≡ Some s
suffix_back None h = refl
suffix_back (Some c) h = grind (arith, nat_tests)

one_back : (n : ℕ) (s : Option ℕ) → 1 ≤ n → n ≤ 9999 → is_suffix s ≡ true
    → range_of (decimal n) (suffix_text s) [] [] ≡ Ok (Some (record { from = record { n = n; suffix = s }; to = None }))
unfolding range_of
one_back n s a b h =
    let some = decimal_nonempty n (omega (arith, b)) in
    rw (house_back n a b, suffix_back s h) (grind (arith, nat_tests, some))

two_back : (n : ℕ) (s : Option ℕ) (m : ℕ) (t : Option ℕ) → 1 ≤ n → n ≤ 9999 → is_suffix s ≡ true → 1 ≤ m → m ≤ 9999 → is_suffix t ≡ true
    → is_before (record { n = n; suffix = s }) (record { n = m; suffix = t }) ≡ true
    → range_of (decimal n) (suffix_text s) (decimal m) (suffix_text t) ≡ Ok (Some (record { from = record { n = n; suffix = s }; to = Some (record { n = m; suffix = t }) }))
unfolding range_of
two_back n s m t a b h c d k later =
    let some = decimal_nonempty n (omega (arith, b)) in
    let more = decimal_nonempty m (omega (arith, d)) in
    rw (house_back n a b, suffix_back s h, house_back m c d, suffix_back t k, later) (grind (arith, nat_tests, some, more))

number_parts : (x : HouseNumberValue) → is_house_number x ≡ true → (1 ≤ x.n) × (x.n ≤ 9999) × (is_suffix x.suffix ≡ true)
number_parts x h = (grind (arith, nat_tests), grind (arith, nat_tests), grind (arith, nat_tests))

with_end : (x : HouseNumberValue) (y : Option HouseNumberValue) → is_house_number x ≡ true → is_number_or_none y ≡ true → is_before_end x y ≡ true
    → range_of (decimal x.n) (suffix_text x.suffix) (digits_text y) (letter_text y) ≡ Ok (Some (record { from = x; to = y }))
with_end x None h k later = let p = number_parts x h in one_back x.n x.suffix p.0 p.1 p.2
with_end x (Some y) h k later =
    let p = number_parts x h in
    let q = number_parts y k in
    two_back x.n x.suffix y.n y.suffix p.0 p.1 p.2 q.0 q.1 q.2 later

none_back : range_of [] [] [] [] ≡ Ok None
unfolding range_of
none_back = refl

range_back : (r : Option RangeValue) → is_range_or_none r ≡ true
    → range_of (digits_text (from_of r)) (letter_text (from_of r)) (digits_text (to_of r)) (letter_text (to_of r)) ≡ Ok r
range_back None h = none_back
range_back (Some r) h = with_end r.from r.to (and-left _ _ (and-left _ _ h)) (and-right _ _ (and-left _ _ h)) (and-right _ _ h)

text_back : (r : Option RangeValue) (t : Option (List ℕ)) → is_there r t ≡ true → is_text_or_none 90 t ≡ true → with_text r (unwrap_or t []) ≡ Ok (record { range = r; text = t })
text_back None None there text = cc there
text_back (Some r) None there text = refl
text_back r (Some t) there text =
    let plain : is_plain t ≡ true = and-left (is_plain t) (nat_le (char_count t) 90) text in
    let short : nat_le (char_count t) 90 ≡ true = and-right (is_plain t) (nat_le (char_count t) 90) text in
    grind (arith, nat_tests, plain, short, plain_some t plain)

-- what an object writes reads back
pub object_back : (o : ObjectValue) → is_object o ≡ true → object_of_fields (texts_of o) ≡ Ok o
object_back o h =
    let parts = and-left _ _ h in
    object_of-read _ _ _ _ (unwrap_or o.text []) o.range (range_back o.range (and-right _ _ parts)) ∙ text_back o.range o.text (and-left _ _ parts) (and-right _ _ h)
