-- The fields that are written of an item read back as the same item.
use Rattle.std.proofs.Common.{◌≡◌, ℕ, true, List, refl, arith, Some, None, Ok, lit<}
use Rattle.std.specs.Prelude.{◌&&◌, decimal, nat_le, Option, is_some}
use Rattle.std.proofs.lemmas.Bool.Decides.{nat_tests}
use Rattle.csv.specs.Records.{field_at}
use Rattle.gaz_ids.specs.declared.lang.Lang.{Lang}
use Rattle.gaz_ids.specs.declared.status.Status.{Status}
use Rattle.gaz_addressable.specs.Texts.{is_text}
use Rattle.gaz_addressable.specs.Objects.{ObjectValue, is_object, is_text_or_none}
use Rattle.gaz_fields.specs.Days.{CivilDay, is_day_or_none, ends_by, is_day}
use Rattle.gaz_fields.specs.Fields.{field}
use Rattle.gaz_fields.specs.Forms.{Digits, of_blpu, says}
use Rattle.gaz_fields.specs.Labels.{is_label}
use Rattle.gaz_fields.proofs.Both.{and-left, and-right}
use Rattle.gaz_fields.proofs.Says.{says-blank_object, says-blpu_status, says-day, says-end, says-label, says-lang, says-number, says-object, says-opt_object, says-opt_text, says-status, says-text}
use Rattle.gaz_records.specs.Streets.{StreetValue, is_type_number, is_street, is_usrn, read_street, street_texts}
use Rattle.gaz_records.specs.Descriptors.{DescriptorValue, descriptor_texts, is_descriptor, read_descriptor}
use Rattle.gaz_records.specs.Blpus.{BlpuValue, blpu_texts, is_blpu, is_parent, is_uprn, read_blpu}
use Rattle.gaz_records.specs.Xrefs.{XrefValue, is_xref, read_xref, xref_texts}
use Rattle.gaz_records.specs.Lpis.{LpiValue, is_lpi, is_secondary, lpi_texts, read_lpi}
use Rattle.gaz_records.specs.Releases.{is_code, is_hop, is_release, read_release, release_texts}
use Rattle.gaz_records.specs.Adopts.{adopt_texts, is_adopt, read_adopt}
use Rattle.gaz_records.specs.declared.adopt.Adopt.{Adopt}
use Rattle.gaz_records.specs.declared.release.Release.{Release}
use Rattle.gaz_records.proofs.LeftOut.{says-parent}

usrn-says : (f : List (List ℕ)) (i n : ℕ) → field f i ≡ decimal n → is_usrn n ≡ true → says (Digits 8 1 99_999_999) f i ≡ Some n
usrn-says f i n at h = says-number f i 8 1 99_999_999 n at (lit< tt) (lit< tt) (lit< tt) h

uprn-says : (f : List (List ℕ)) (i n : ℕ) → field f i ≡ decimal n → is_uprn n ≡ true → says (Digits 12 1 999_999_999_999) f i ≡ Some n
uprn-says f i n at h = says-number f i 12 1 999_999_999_999 n at (lit< tt) (lit< tt) (lit< tt) h

code-says : (f : List (List ℕ)) (i n : ℕ) → field f i ≡ decimal n → is_code n ≡ true → says (Digits 4 1 9999) f i ≡ Some n
code-says f i n at h = says-number f i 4 1 9999 n at (lit< tt) (lit< tt) (lit< tt) h

-- a number from 0
from-zero : (n high : ℕ) → nat_le n high ≡ true → (nat_le 0 n && nat_le n high) ≡ true
from-zero n high h = grind (arith, nat_tests, h)

street-back : (x : StreetValue) → is_usrn x.usrn ≡ true → is_type_number x.street_type ≡ true → is_day x.start ≡ true → is_day_or_none x.end ≡ true → ends_by x.start x.end ≡ true
    → read_street (street_texts x) ≡ Ok x
unfolding read_street field_at
street-back x usrn street_type start end order =
    let f = street_texts x in
    rw (
      usrn-says f 0 x.usrn refl usrn,
      says-number f 1 1 1 4 x.street_type refl (lit< tt) (lit< tt) (lit< tt) street_type,
      says-day f 2 x.start refl start,
      says-end f 3 x.start x.end refl refl start end order,
    ) refl

pub street_fields : (x : StreetValue) → is_street x ≡ true → read_street (street_texts x) ≡ Ok x
street_fields x h =
    let ends = and-right _ _ h in
    let h1 = and-left _ _ h in
    let h2 = and-left _ _ h1 in
    let h3 = and-left _ _ h2 in
    street-back x (and-left _ _ h3) (and-right _ _ h3) (and-right _ _ h2) (and-right _ _ h1) ends

descriptor-back : (x : DescriptorValue) → is_usrn x.usrn ≡ true → is_text 100 x.description ≡ true → is_text_or_none 35 x.locality ≡ true → is_text_or_none 30 x.town ≡ true
    → is_text 30 x.area ≡ true → read_descriptor (descriptor_texts x) ≡ Ok x
unfolding read_descriptor field_at
descriptor-back x usrn description locality town area =
    let f = descriptor_texts x in
    rw (
      usrn-says f 0 x.usrn refl usrn,
      says-lang f 1 x.lang refl,
      says-text f 2 100 x.description refl description,
      says-opt_text f 3 35 x.locality refl locality,
      says-opt_text f 4 30 x.town refl town,
      says-text f 5 30 x.area refl area,
    ) refl

pub descriptor_fields : (x : DescriptorValue) → is_descriptor x ≡ true → read_descriptor (descriptor_texts x) ≡ Ok x
descriptor_fields x h =
    let h1 = and-left _ _ h in
    let h2 = and-left _ _ h1 in
    let h3 = and-left _ _ h2 in
    descriptor-back x (and-left _ _ h3) (and-right _ _ h3) (and-right _ _ h2) (and-right _ _ h1) (and-right _ _ h)

blpu-back : (x : BlpuValue) → is_uprn x.uprn ≡ true → is_some (of_blpu x.status) ≡ true → nat_le x.easting 700_000 ≡ true → nat_le x.northing 1_300_000 ≡ true
    → is_parent x.parent ≡ true → is_text_or_none 8 x.postcode ≡ true → is_day x.start ≡ true → is_day_or_none x.end ≡ true → ends_by x.start x.end ≡ true
    → read_blpu (blpu_texts x) ≡ Ok x
unfolding read_blpu field_at
blpu-back x uprn status easting northing parent postcode start end order =
    let f = blpu_texts x in
    rw (
      uprn-says f 0 x.uprn refl uprn,
      says-blpu_status f 1 x.status refl status,
      says-number f 2 6 0 700_000 x.easting refl (lit< tt) (lit< tt) (lit< tt) (from-zero x.easting 700_000 easting),
      says-number f 3 7 0 1_300_000 x.northing refl (lit< tt) (lit< tt) (lit< tt) (from-zero x.northing 1_300_000 northing),
      says-parent f 4 x.parent refl parent,
      says-opt_text f 5 8 x.postcode refl postcode,
      says-day f 6 x.start refl start,
      says-end f 7 x.start x.end refl refl start end order,
    ) refl

pub blpu_fields : (x : BlpuValue) → is_blpu x ≡ true → read_blpu (blpu_texts x) ≡ Ok x
blpu_fields x h =
    let h1 = and-left _ _ h in
    let h2 = and-left _ _ h1 in
    let h3 = and-left _ _ h2 in
    let h4 = and-left _ _ h3 in
    let h5 = and-left _ _ h4 in
    let h6 = and-left _ _ h5 in
    let h7 = and-left _ _ h6 in
    blpu-back x (and-left _ _ h7) (and-right _ _ h7) (and-right _ _ h6) (and-right _ _ h5) (and-right _ _ h4) (and-right _ _ h3) (and-right _ _ h2) (and-right _ _ h1) (and-right _ _ h)

xref-back : (x : XrefValue) → is_label 14 x.key ≡ true → is_uprn x.uprn ≡ true → is_label 6 x.source ≡ true → is_text 50 x.reference ≡ true
    → is_day x.start ≡ true → is_day_or_none x.end ≡ true → ends_by x.start x.end ≡ true → read_xref (xref_texts x) ≡ Ok x
unfolding read_xref field_at
xref-back x key uprn source reference start end order =
    let f = xref_texts x in
    rw (
      says-label f 0 14 x.key refl key,
      uprn-says f 1 x.uprn refl uprn,
      says-label f 2 6 x.source refl source,
      says-text f 3 50 x.reference refl reference,
      says-day f 4 x.start refl start,
      says-end f 5 x.start x.end refl refl start end order,
    ) refl

pub xref_fields : (x : XrefValue) → is_xref x ≡ true → read_xref (xref_texts x) ≡ Ok x
xref_fields x h =
    let h1 = and-left _ _ h in
    let h2 = and-left _ _ h1 in
    let h3 = and-left _ _ h2 in
    let h4 = and-left _ _ h3 in
    let h5 = and-left _ _ h4 in
    xref-back x (and-left _ _ h5) (and-right _ _ h5) (and-right _ _ h4) (and-right _ _ h3) (and-right _ _ h2) (and-right _ _ h1) (and-right _ _ h)

lpi-back : (key : List ℕ) (uprn : ℕ) (lang : Lang) (status : Status) (usrn : ℕ) (second : Option ObjectValue) (first : ObjectValue) (start : CivilDay) (end : Option CivilDay)
    → is_label 14 key ≡ true → is_uprn uprn ≡ true → is_usrn usrn ≡ true → is_secondary second ≡ true → is_object first ≡ true
    → is_day start ≡ true → is_day_or_none end ≡ true → ends_by start end ≡ true
    → read_lpi (lpi_texts (record { key = key; uprn = uprn; lang = lang; status = status; usrn = usrn; secondary = second; primary = first; start = start; end = end }))
    ≡ Ok (record { key = key; uprn = uprn; lang = lang; status = status; usrn = usrn; secondary = second; primary = first; start = start; end = end })
unfolding read_lpi field_at
lpi-back key uprn lang status usrn None first start end k p u o f s e order =
    let t = lpi_texts (record { key = key; uprn = uprn; lang = lang; status = status; usrn = usrn; secondary = None; primary = first; start = start; end = end }) in
    rw (
      says-label t 0 14 key refl k,
      uprn-says t 1 uprn refl p,
      says-lang t 2 lang refl,
      says-status t 3 status refl,
      usrn-says t 4 usrn refl u,
      says-blank_object t 5 refl,
      says-object t 10 first refl f,
      says-day t 15 start refl s,
      says-end t 16 start end refl refl s e order,
    ) refl
lpi-back key uprn lang status usrn (Some second) first start end k p u o f s e order =
    let t = lpi_texts (record { key = key; uprn = uprn; lang = lang; status = status; usrn = usrn; secondary = Some second; primary = first; start = start; end = end }) in
    rw (
      says-label t 0 14 key refl k,
      uprn-says t 1 uprn refl p,
      says-lang t 2 lang refl,
      says-status t 3 status refl,
      usrn-says t 4 usrn refl u,
      says-opt_object t 5 second refl refl refl refl refl o,
      says-object t 10 first refl f,
      says-day t 15 start refl s,
      says-end t 16 start end refl refl s e order,
    ) refl

pub lpi_fields : (x : LpiValue) → is_lpi x ≡ true → read_lpi (lpi_texts x) ≡ Ok x
lpi_fields x h =
    let h1 = and-left _ _ h in
    let h2 = and-left _ _ h1 in
    let h3 = and-left _ _ h2 in
    let h4 = and-left _ _ h3 in
    let h5 = and-left _ _ h4 in
    let h6 = and-left _ _ h5 in
    lpi-back x.key x.uprn x.lang x.status x.usrn x.secondary x.primary x.start x.end
    (and-left _ _ h6) (and-right _ _ h6) (and-right _ _ h5) (and-right _ _ h4) (and-right _ _ h3) (and-right _ _ h2) (and-right _ _ h1) (and-right _ _ h)

release-back : (x : Release) → is_uprn x.uprn ≡ true → is_code x.to ≡ true → is_hop x.hop ≡ true → read_release (release_texts x) ≡ Ok x
unfolding read_release field_at
release-back x uprn to hop =
    let f = release_texts x in
    rw (
      uprn-says f 0 x.uprn refl uprn,
      code-says f 1 x.to refl to,
      code-says f 2 x.hop refl hop,
    ) refl

pub release_fields : (x : Release) → is_release x ≡ true → read_release (release_texts x) ≡ Ok x
release_fields x h =
    let h1 = and-left _ _ h in
    release-back x (and-left _ _ h1) (and-right _ _ h1) (and-right _ _ h)

adopt-back : (x : BlpuValue) (from hop : ℕ) → is_uprn x.uprn ≡ true → is_some (of_blpu x.status) ≡ true → nat_le x.easting 700_000 ≡ true → nat_le x.northing 1_300_000 ≡ true
    → is_parent x.parent ≡ true → is_text_or_none 8 x.postcode ≡ true → is_day x.start ≡ true → is_day_or_none x.end ≡ true → ends_by x.start x.end ≡ true
    → is_code from ≡ true → is_hop hop ≡ true
    → read_adopt (adopt_texts (record { blpu = x; from = from; hop = hop })) ≡ Ok (record { blpu = x; from = from; hop = hop })
unfolding read_adopt field_at
adopt-back x from hop uprn status easting northing parent postcode start end order code hops =
    let f = adopt_texts (record { blpu = x; from = from; hop = hop }) in
    rw (
      uprn-says f 0 x.uprn refl uprn,
      code-says f 1 from refl code,
      code-says f 2 hop refl hops,
      says-blpu_status f 3 x.status refl status,
      says-number f 4 6 0 700_000 x.easting refl (lit< tt) (lit< tt) (lit< tt) (from-zero x.easting 700_000 easting),
      says-number f 5 7 0 1_300_000 x.northing refl (lit< tt) (lit< tt) (lit< tt) (from-zero x.northing 1_300_000 northing),
      says-parent f 6 x.parent refl parent,
      says-opt_text f 7 8 x.postcode refl postcode,
      says-day f 8 x.start refl start,
      says-end f 9 x.start x.end refl refl start end order,
    ) refl

pub adopt_fields : (x : Adopt) → is_adopt x ≡ true → read_adopt (adopt_texts x) ≡ Ok x
adopt_fields x h =
    let hop = and-right _ _ h in
    let g = and-left _ _ h in
    let code = and-right _ _ g in
    let h0 = and-left _ _ g in
    let h1 = and-left _ _ h0 in
    let h2 = and-left _ _ h1 in
    let h3 = and-left _ _ h2 in
    let h4 = and-left _ _ h3 in
    let h5 = and-left _ _ h4 in
    let h6 = and-left _ _ h5 in
    let h7 = and-left _ _ h6 in
    adopt-back x.blpu x.from x.hop
    (and-left _ _ h7) (and-right _ _ h7) (and-right _ _ h6) (and-right _ _ h5) (and-right _ _ h4) (and-right _ _ h3) (and-right _ _ h2) (and-right _ _ h1) (and-right _ _ h0)
    code hop
