-- An item reads back from its fields and from its row.
use Rattle.std.proofs.Common.{◌≡◌, ℕ, ◌^◌, ◌<◌, ◌≤◌, true, false, List, [], ◌∷◌, length, get_or, refl, arith, Some, Ok}
use Rattle.std.specs.Prelude.{◌==◌, ◌&&◌, decimal, nat_le}
use Rattle.std.proofs.lemmas.Bool.Decides.{nat_tests}
use Rattle.std.proofs.lemmas.Fmt.{decimal_nonempty, digits_decimal}
use Rattle.gaz_ids.proofs.Numerals.{digit_at, own}
use Rattle.gaz_rows.specs.Rows.{line_of, one_row}
use Rattle.gaz_rows.proofs.Back.{line-only, no-mark}
use Rattle.gaz_fields.specs.Labels.{are_label_bytes, is_label, is_label_byte}
use Rattle.gaz_fields.proofs.Both.{and-left, and-right}
use Rattle.gaz_records.specs.Items.{is_item, item_of_text, item_text, item_texts, kind_of, read_item}
use Rattle.gaz_records.specs.Streets.{is_usrn}
use Rattle.gaz_records.specs.Blpus.{is_uprn}
use Rattle.gaz_records.specs.declared.item.Item.{Item}
use Rattle.gaz_records.specs.declared.item.Item.TheVariants as item
use Rattle.gaz_records.proofs.FieldsBack.{adopt_fields, blpu_fields, descriptor_fields, lpi_fields, release_fields, street_fields, xref_fields}

pub fields-back : (x : Item) → is_item x ≡ true → read_item (kind_of x) (item_texts x) ≡ Ok x
fields-back (item.Street x) h = rw (street_fields x h) refl
fields-back (item.Descriptor x) h = rw (descriptor_fields x h) refl
fields-back (item.Blpu x) h = rw (blpu_fields x h) refl
fields-back (item.Xref x) h = rw (xref_fields x h) refl
fields-back (item.Lpi x) h = rw (lpi_fields x h) refl
fields-back (item.Release x) h = rw (release_fields x h) refl
fields-back (item.Adopt x) h = rw (adopt_fields x h) refl

-- a first field that is no mark of UTF-8
record Plain (t : List ℕ) : Type 0 where
  some : 0 < length t
  first : (get_or t 0 0 == 0xEF) ≡ false

number-plain : (n : ℕ) → 1 ≤ n → n < 2 ^ 64 → Plain (decimal n)
number-plain n a b =
    let some = decimal_nonempty n b in
    let d = digit_at 0 (decimal n) some (digits_decimal own n b) in
    record { some = some; first = grind (arith, nat_tests, d) }

usrn-plain : (n : ℕ) → is_usrn n ≡ true → Plain (decimal n)
usrn-plain n h =
    let from : 1 ≤ n = grind (arith, nat_tests, h) in
    let to : n ≤ 99_999_999 = grind (arith, nat_tests, h) in
    number-plain n from (omega (arith, to))

uprn-plain : (n : ℕ) → is_uprn n ≡ true → Plain (decimal n)
uprn-plain n h =
    let from : 1 ≤ n = grind (arith, nat_tests, h) in
    let to : n ≤ 999_999_999_999 = grind (arith, nat_tests, h) in
    number-plain n from (omega (arith, to))

label-plain : (t : List ℕ) → is_label 14 t ≡ true → Plain t
label-plain [] h = cc h
label-plain (b ∷ rest) h =
    let byte : is_label_byte b ≡ true = and-left (is_label_byte b) (are_label_bytes rest) (and-right (nat_le 1 (length (b ∷ rest)) && nat_le (length (b ∷ rest)) 14) (are_label_bytes (b ∷ rest)) h) in
    record { some = omega arith; first = grind (arith, nat_tests, byte) }

-- the row of such a field and of another
row-back : (x y : List ℕ) (ys : List (List ℕ)) → Plain x → one_row (line_of (x ∷ y ∷ ys)) ≡ Some (x ∷ y ∷ ys)
row-back x y ys p = line-only x y ys (no-mark x y ys p.some p.first)

item-row : (x : Item) → is_item x ≡ true → one_row (item_text x) ≡ Some (item_texts x)
item-row (item.Street x) h = row-back _ _ _ (usrn-plain x.usrn (and-left _ _ (and-left _ _ (and-left _ _ (and-left _ _ h)))))
item-row (item.Descriptor x) h = row-back _ _ _ (usrn-plain x.usrn (and-left _ _ (and-left _ _ (and-left _ _ (and-left _ _ h)))))
item-row (item.Blpu x) h =
    row-back _ _ _ (uprn-plain x.uprn (and-left _ _ (and-left _ _ (and-left _ _ (and-left _ _ (and-left _ _ (and-left _ _ (and-left _ _ (and-left _ _ h)))))))))
item-row (item.Xref x) h = row-back _ _ _ (label-plain x.key (and-left _ _ (and-left _ _ (and-left _ _ (and-left _ _ (and-left _ _ (and-left _ _ h)))))))
item-row (item.Lpi x) h = row-back _ _ _ (label-plain x.key (and-left _ _ (and-left _ _ (and-left _ _ (and-left _ _ (and-left _ _ (and-left _ _ (and-left _ _ h))))))))
item-row (item.Release x) h = row-back _ _ _ (uprn-plain x.uprn (and-left _ _ (and-left _ _ h)))
item-row (item.Adopt x) h =
    row-back _ _ _ (uprn-plain x.blpu.uprn
    (and-left _ _ (and-left _ _ (and-left _ _ (and-left _ _ (and-left _ _ (and-left _ _ (and-left _ _ (and-left _ _ (and-left _ _ (and-left _ _ h)))))))))))

pub text-back : (x : Item) → is_item x ≡ true → item_of_text (kind_of x) (item_text x) ≡ Ok x
text-back x h = rw (item-row x h) (fields-back x h)
