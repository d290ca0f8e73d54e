-- The texts of items' fields are UTF-8, and so are their rows.
use Rattle.std.proofs.Common.{◌≡◌, ℕ, ◌^◌, ◌<◌, ◌≤◌, true, List, [], ◌∷◌, ◌++◌, refl, arith, Option, Some, None, lit<}
use Rattle.std.specs.Prelude.{IsUtf8, ◌&&◌, nat_le, decimal}
use Rattle.std.specs.Option.{unwrap_or}
use Rattle.std.specs.Str.{IsAscii, chars, is_utf8}
use Rattle.std.proofs.Math.Utf8.{encode}
use Rattle.std.proofs.lemmas.Bool.Decides.{nat_tests}
use Rattle.std.proofs.lemmas.Str.{IsUtf8-from_ascii, IsUtf8-from_is_utf8, IsUtf8-nil}
use Rattle.std.proofs.lemmas.Str.Ascii.{IsAscii-cons, IsAscii-nil}
use Rattle.gaz_ids.specs.Codes.{lang_text, status_text}
use Rattle.gaz_ids.specs.declared.lang.Lang.{Lang}
use Rattle.gaz_ids.specs.declared.lang.Lang.TheVariants.{Cym, Eng}
use Rattle.gaz_ids.specs.declared.status.Status.{Status}
use Rattle.gaz_ids.specs.declared.status.Status.TheVariants.{Approved, Alternative, Provisional, Historical}
use Rattle.gaz_rows.specs.Rows.{AreTexts}
use Rattle.gaz_rows.proofs.Utf8.{body-utf8, decimal-utf8, texts-append}
use Rattle.gaz_addressable.specs.HouseNumbers.{HouseNumberValue, RangeValue, is_before_end, is_house_number, is_number_or_none, is_suffix}
use Rattle.gaz_addressable.specs.Objects.{ObjectValue, digits_text, from_of, is_object, is_range_or_none, is_text_or_none, is_there, letter_text, texts_of, to_of}
use Rattle.gaz_addressable.specs.Texts.{char_count, is_plain, is_text}
use Rattle.gaz_addressable.proofs.Characters.{plain_utf8}
use Rattle.gaz_fields.specs.Days.{CivilDay, is_day_or_none, date_text, end_text, is_day, two}
use Rattle.gaz_fields.proofs.Both.{and-left, and-right}
use Rattle.gaz_fields.proofs.LabelBytes.{label_utf8}
use Rattle.gaz_records.specs.Adopts.{adopt_texts, is_adopt}
use Rattle.gaz_records.specs.Blpus.{BlpuValue, blpu_texts, is_blpu, is_parent, parent_text}
use Rattle.gaz_records.specs.Descriptors.{DescriptorValue, descriptor_texts, is_descriptor}
use Rattle.gaz_records.specs.Items.{is_item, item_text, item_texts}
use Rattle.gaz_records.specs.Lpis.{LpiValue, is_lpi, is_secondary, lpi_texts, secondary_texts}
use Rattle.gaz_records.specs.Releases.{is_release, release_texts}
use Rattle.gaz_records.specs.Streets.{StreetValue, is_street, street_texts}
use Rattle.gaz_records.specs.Xrefs.{XrefValue, is_xref, xref_texts}
use Rattle.gaz_records.specs.declared.adopt.Adopt.{Adopt}
use Rattle.gaz_records.specs.declared.item.Item.{Item}
use Rattle.gaz_records.specs.declared.item.Item.TheVariants as item
use Rattle.gaz_records.specs.declared.release.Release.{Release}

-- ---- what stands in the fields

up_to : (low high n : ℕ) → high < 2 ^ 64 → (nat_le low n && nat_le n high) ≡ true → IsUtf8 (decimal n)
up_to low high n h e = let k : n ≤ high = grind (arith, nat_tests, e) in decimal-utf8 n (omega arith)

from_nought : (high n : ℕ) → high < 2 ^ 64 → nat_le n high ≡ true → IsUtf8 (decimal n)
from_nought high n h e = let k : n ≤ high = grind (arith, nat_tests, e) in decimal-utf8 n (omega arith)

-- each byte is ASCII
abbrev AllLow : List ℕ → Type 0
AllLow [] = Unit {0}
AllLow (b ∷ bs) = (b < 128) × AllLow bs

low_ascii : (bs : List ℕ) → AllLow bs → IsAscii bs
low_ascii [] h = IsAscii-nil
low_ascii (b ∷ bs) h = IsAscii-cons b bs h.0 (low_ascii bs h.1)

pub date_utf8 : (d : CivilDay) → is_day d ≡ true → IsUtf8 (date_text d)
date_utf8 d h =
    let y : d.year < 10000 = grind (arith, nat_tests, h) in
    let m : d.month < 100 = grind (arith, nat_tests, h) in
    let a : d.day < 100 = grind (arith, nat_tests, h) in
    let day : AllLow (two d.day) = (omega arith, (omega arith, tt)) in
    let month : AllLow (two d.month ++ (45 ∷ two d.day)) = (omega arith, (omega arith, (lit< tt, day))) in
    IsUtf8-from_ascii (date_text d) (low_ascii (date_text d) (omega arith, (omega arith, (omega arith, (omega arith, (lit< tt, month))))))

end_utf8 : (d : Option CivilDay) → is_day_or_none d ≡ true → IsUtf8 (end_text d)
end_utf8 None h = IsUtf8-nil
end_utf8 (Some d) h = date_utf8 d h

text_utf8 : (most : ℕ) (t : List ℕ) → is_text most t ≡ true → IsUtf8 t
text_utf8 most t h = plain_utf8 t (and-left (is_plain t) (nat_le (char_count t) most) h)

opt_text_utf8 : (most : ℕ) (t : Option (List ℕ)) → is_text_or_none most t ≡ true → IsUtf8 (unwrap_or t [])
opt_text_utf8 most None h = IsUtf8-nil
opt_text_utf8 most (Some t) h = text_utf8 most t h

pub lang_utf8 : (l : Lang) → IsUtf8 (lang_text l)
unfolding is_utf8 chars encode
lang_utf8 Cym = IsUtf8-from_is_utf8 (lang_text Cym) refl
lang_utf8 Eng = IsUtf8-from_is_utf8 (lang_text Eng) refl

status_utf8 : (s : Status) → IsUtf8 (status_text s)
unfolding is_utf8 chars encode
status_utf8 Approved = IsUtf8-from_is_utf8 (status_text Approved) refl
status_utf8 Alternative = IsUtf8-from_is_utf8 (status_text Alternative) refl
status_utf8 Provisional = IsUtf8-from_is_utf8 (status_text Provisional) refl
status_utf8 Historical = IsUtf8-from_is_utf8 (status_text Historical) refl

parent_utf8 : (n : Option ℕ) → is_parent n ≡ true → IsUtf8 (parent_text n)
parent_utf8 None h = IsUtf8-nil
parent_utf8 (Some n) h = up_to 1 999_999_999_999 n (lit< tt) h

digits_utf8 : (x : Option HouseNumberValue) → is_number_or_none x ≡ true → IsUtf8 (digits_text x)
digits_utf8 None h = IsUtf8-nil
digits_utf8 (Some x) h = up_to 1 9999 x.n (lit< tt) (and-left (nat_le 1 x.n && nat_le x.n 9999) (is_suffix x.suffix) h)

letter_utf8 : (n : ℕ) (s : Option ℕ) → is_suffix s ≡ true → IsUtf8 (letter_text (Some (record { n = n; suffix = s })))
letter_utf8 n None h = IsUtf8-nil
letter_utf8 n (Some c) h = let k : c < 128 = grind (arith, nat_tests, h) in IsUtf8-from_ascii (c ∷ []) (IsAscii-cons c [] k IsAscii-nil)

suffix_utf8 : (x : Option HouseNumberValue) → is_number_or_none x ≡ true → IsUtf8 (letter_text x)
suffix_utf8 None h = IsUtf8-nil
suffix_utf8 (Some x) h = letter_utf8 x.n x.suffix (and-right (nat_le 1 x.n && nat_le x.n 9999) (is_suffix x.suffix) h)

from_known : (r : Option RangeValue) → is_range_or_none r ≡ true → is_number_or_none (from_of r) ≡ true
from_known None h = refl
from_known (Some r) h =
    and-left (is_house_number r.from) (is_number_or_none r.to) (and-left (is_house_number r.from && is_number_or_none r.to) (is_before_end r.from r.to) h)

to_known : (r : Option RangeValue) → is_range_or_none r ≡ true → is_number_or_none (to_of r) ≡ true
to_known None h = refl
to_known (Some r) h =
    and-right (is_house_number r.from) (is_number_or_none r.to) (and-left (is_house_number r.from && is_number_or_none r.to) (is_before_end r.from r.to) h)

object_texts : (o : ObjectValue) → is_object o ≡ true → AreTexts (texts_of o)
object_texts o h =
    let numbers = and-left (is_there o.range o.text && is_range_or_none o.range) (is_text_or_none 90 o.text) h in
    let range = and-right (is_there o.range o.text) (is_range_or_none o.range) numbers in
    let text = and-right (is_there o.range o.text && is_range_or_none o.range) (is_text_or_none 90 o.text) h in
    let from = from_known o.range range in
    let to = to_known o.range range in
    (digits_utf8 _ from, (suffix_utf8 _ from, (digits_utf8 _ to, (suffix_utf8 _ to, (opt_text_utf8 90 o.text text, tt)))))

secondary_texts_are : (o : Option ObjectValue) → is_secondary o ≡ true → AreTexts (secondary_texts o)
secondary_texts_are None h = (IsUtf8-nil, (IsUtf8-nil, (IsUtf8-nil, (IsUtf8-nil, (IsUtf8-nil, tt)))))
secondary_texts_are (Some o) h = object_texts o h

-- ---- items

street_are : (x : StreetValue) → is_street x ≡ true → AreTexts (street_texts x)
street_are x h =
    let h1 = and-left _ _ h in
    let h2 = and-left _ _ h1 in
    let h3 = and-left _ _ h2 in (
      up_to 1 99_999_999 x.usrn (lit< tt) (and-left _ _ h3),
      (up_to 1 4 x.street_type (lit< tt) (and-right _ _ h3), (date_utf8 x.start (and-right _ _ h2), (end_utf8 x.end (and-right _ _ h1), tt))),
    )

descriptor_are : (x : DescriptorValue) → is_descriptor x ≡ true → AreTexts (descriptor_texts x)
descriptor_are x h =
    let h1 = and-left _ _ h in
    let h2 = and-left _ _ h1 in
    let h3 = and-left _ _ h2 in (
      up_to 1 99_999_999 x.usrn (lit< tt) (and-left _ _ h3),
      (lang_utf8 x.lang, (text_utf8 100 x.description (and-right _ _ h3), (opt_text_utf8 35 x.locality (and-right _ _ h2), (opt_text_utf8 30 x.town (and-right _ _ h1), (text_utf8 30 x.area (and-right _ _ h), tt))))),
    )

blpu_are : (x : BlpuValue) → is_blpu x ≡ true → AreTexts (blpu_texts x)
blpu_are x h =
    let h1 = and-left _ _ h in
    let h2 = and-left _ _ h1 in
    let h3 = and-left _ _ h2 in
    let h4 = and-left _ _ h3 in
    let h5 = and-left _ _ h4 in
    let h6 = and-left _ _ h5 in
    let h7 = and-left _ _ h6 in
    let dates : AreTexts (date_text x.start ∷ end_text x.end ∷ []) = (date_utf8 x.start (and-right _ _ h2), (end_utf8 x.end (and-right _ _ h1), tt)) in
    let more : AreTexts (parent_text x.parent ∷ unwrap_or x.postcode [] ∷ date_text x.start ∷ end_text x.end ∷ []) = (parent_utf8 x.parent (and-right _ _ h4), (opt_text_utf8 8 x.postcode (and-right _ _ h3), dates)) in (
      up_to 1 999_999_999_999 x.uprn (lit< tt) (and-left _ _ h7),
      (status_utf8 x.status, (from_nought 700_000 x.easting (lit< tt) (and-right _ _ h6), (from_nought 1_300_000 x.northing (lit< tt) (and-right _ _ h5), more))),
    )

xref_are : (x : XrefValue) → is_xref x ≡ true → AreTexts (xref_texts x)
xref_are x h =
    let h1 = and-left _ _ h in
    let h2 = and-left _ _ h1 in
    let h3 = and-left _ _ h2 in
    let h4 = and-left _ _ h3 in
    let h5 = and-left _ _ h4 in
    let dates : AreTexts (date_text x.start ∷ end_text x.end ∷ []) = (date_utf8 x.start (and-right _ _ h2), (end_utf8 x.end (and-right _ _ h1), tt)) in (
      label_utf8 14 x.key (and-left _ _ h5),
      (up_to 1 999_999_999_999 x.uprn (lit< tt) (and-right _ _ h5), (label_utf8 6 x.source (and-right _ _ h4), (text_utf8 50 x.reference (and-right _ _ h3), dates))),
    )

lpi_are : (x : LpiValue) → is_lpi x ≡ true → AreTexts (lpi_texts x)
lpi_are x h =
    let h1 = and-left _ _ h in
    let h2 = and-left _ _ h1 in
    let h3 = and-left _ _ h2 in
    let h4 = and-left _ _ h3 in
    let h5 = and-left _ _ h4 in
    let h6 = and-left _ _ h5 in
    let dates : AreTexts (date_text x.start ∷ end_text x.end ∷ []) = (date_utf8 x.start (and-right _ _ h2), (end_utf8 x.end (and-right _ _ h1), tt)) in
    let objects =
    texts-append (secondary_texts x.secondary) (texts_of x.primary ++ (date_text x.start ∷ end_text x.end ∷ [])) (secondary_texts_are x.secondary (and-right _ _ h4))
    (texts-append (texts_of x.primary) (date_text x.start ∷ end_text x.end ∷ []) (object_texts x.primary (and-right _ _ h3)) dates) in (
      label_utf8 14 x.key (and-left _ _ h6),
      (up_to 1 999_999_999_999 x.uprn (lit< tt) (and-right _ _ h6), (lang_utf8 x.lang, (status_utf8 x.status, (up_to 1 99_999_999 x.usrn (lit< tt) (and-right _ _ h5), objects)))),
    )

release_are : (x : Release) → is_release x ≡ true → AreTexts (release_texts x)
release_are x h =
    let h1 = and-left _ _ h in
    (up_to 1 999_999_999_999 x.uprn (lit< tt) (and-left _ _ h1), (up_to 1 9999 x.to (lit< tt) (and-right _ _ h1), (up_to 1 9999 x.hop (lit< tt) (and-right _ _ h), tt)))

adopt_are : (x : Adopt) → is_adopt x ≡ true → AreTexts (adopt_texts x)
adopt_are x h =
    let h1 = and-left _ _ h in
    let blpu = blpu_are x.blpu (and-left _ _ h1) in
    (blpu.0, (up_to 1 9999 x.from (lit< tt) (and-right _ _ h1), (up_to 1 9999 x.hop (lit< tt) (and-right _ _ h), blpu.1)))

pub item_are : (x : Item) → is_item x ≡ true → AreTexts (item_texts x)
item_are (item.Street x) h = street_are x h
item_are (item.Descriptor x) h = descriptor_are x h
item_are (item.Blpu x) h = blpu_are x h
item_are (item.Xref x) h = xref_are x h
item_are (item.Lpi x) h = lpi_are x h
item_are (item.Release x) h = release_are x h
item_are (item.Adopt x) h = adopt_are x h

pub item_utf8 : (x : Item) → is_item x ≡ true → IsUtf8 (item_text x)
item_utf8 x h = body-utf8 (item_texts x) (item_are x h)
