-- What a field says that was written of a value.
use Rattle.std.proofs.Common.{◌≡◌, ℕ, ◌+◌, ◌-◌, ◌^◌, ◌<◌, ◌≤◌, true, false, List, length, refl, arith, Some, None, Ok, inl, inr, []}
use Rattle.std.specs.Prelude.{◌==◌, ◌&&◌, nat_le, decimal, is_some, Option}
use Rattle.std.specs.Option.{unwrap_or}
use Rattle.std.proofs.lemmas.Bool.{cases_Bool}
use Rattle.std.proofs.lemmas.Bool.Decides.{nat_tests}
use Rattle.gaz_ids.specs.Codes.{lang_text, status_text}
use Rattle.gaz_ids.specs.declared.lang.Lang.{Lang}
use Rattle.gaz_ids.specs.declared.status.Status.{Status}
use Rattle.gaz_ids.specs.declared.status.Status.TheVariants.{Approved, Alternative, Provisional, Historical}
use Rattle.gaz_ids.proofs.CodeTexts.{lang-back, status-back}
use Rattle.gaz_ids.proofs.Numerals.{read_decimal}
use Rattle.gaz_addressable.specs.Texts.{char_count, is_plain, is_text, text_of}
use Rattle.gaz_addressable.specs.Objects.{ObjectValue, digits_text, from_of, is_object, is_text_or_none, letter_text, object_of, object_of_fields, texts_of, to_of}
use Rattle.gaz_addressable.proofs.Characters.{plain_some}
use Rattle.gaz_addressable.proofs.Rounds.{object_back}
use Rattle.gaz_fields.specs.Days.{CivilDay, is_day_or_none, date_text, end_text, ends_by, is_day}
use Rattle.gaz_fields.specs.Fields.{field}
use Rattle.gaz_fields.specs.Forms.{AddressableObject, BlpuStatus, Date, Digits, EndDate, LabelTo, Language, LpiStatus, Opt, TextTo, is_blank, object_at, of_blpu, says}
use Rattle.gaz_fields.specs.Labels.{is_label}
use Rattle.gaz_fields.proofs.DatesBack.{date-back}
use Rattle.gaz_fields.proofs.Both.{and-left, and-right}

-- a number of a range, which so many digits write
pub says-number : (f : List (List ℕ)) (i digits low high n : ℕ) → field f i ≡ decimal n → 0 < digits → high < 10 ^ digits → high < 2 ^ 64
    → (nat_le low n && nat_le n high) ≡ true → says (Digits digits low high) f i ≡ Some n
unfolding says
says-number f i digits low high n at some short fits range =
    let from : low ≤ n = grind (arith, nat_tests, range) in
    let to : n ≤ high = grind (arith, nat_tests, range) in
    rw (at, read_decimal digits low high n some (omega arith) (omega arith) from to) refl

pub says-lang : (f : List (List ℕ)) (i : ℕ) (l : Lang) → field f i ≡ lang_text l → says Language f i ≡ Some l
unfolding says
says-lang f i l at = rw (at, lang-back l) refl

pub says-status : (f : List (List ℕ)) (i : ℕ) (s : Status) → field f i ≡ status_text s → says LpiStatus f i ≡ Some s
unfolding says
says-status f i s at = rw (at, status-back s) refl

pub says-label : (f : List (List ℕ)) (i most : ℕ) (t : List ℕ) → field f i ≡ t → is_label most t ≡ true → says (LabelTo most) f i ≡ Some t
unfolding says
says-label f i most t at h = rw (at, h) refl

text-back : (most : ℕ) (t : List ℕ) → is_text most t ≡ true → text_of most t ≡ Ok t
text-back most t h =
    let plain : is_plain t ≡ true = and-left (is_plain t) (nat_le (char_count t) most) h in
    let short : nat_le (char_count t) most ≡ true = and-right (is_plain t) (nat_le (char_count t) most) h in
    grind (arith, nat_tests, plain, short)

pub says-text : (f : List (List ℕ)) (i most : ℕ) (t : List ℕ) → field f i ≡ t → is_text most t ≡ true → says (TextTo most) f i ≡ Some t
unfolding says
says-text f i most t at h = rw (at, text-back most t h) refl

pub filled : (t : List ℕ) → 0 < length t → (length t == 0) ≡ false
filled t h = grind (arith, nat_tests, h)

pub says-opt_text : (f : List (List ℕ)) (i most : ℕ) (t : Option (List ℕ)) → field f i ≡ unwrap_or t [] → is_text_or_none most t ≡ true → says (Opt (TextTo most)) f i ≡ Some t
unfolding says
says-opt_text f i most None at h = rw at refl
says-opt_text f i most (Some t) at h =
    let plain : is_plain t ≡ true = and-left (is_plain t) (nat_le (char_count t) most) h in
    rw (at, filled t (plain_some t plain), text-back most t h) refl

pub says-day : (f : List (List ℕ)) (i : ℕ) (d : CivilDay) → field f i ≡ date_text d → is_day d ≡ true → says Date f i ≡ Some d
unfolding says
says-day f i d at h = rw (at, date-back d h) refl

pub says-end : (f : List (List ℕ)) (i : ℕ) (start : CivilDay) (end : Option CivilDay) → field f (i - 1) ≡ date_text start → field f i ≡ end_text end
    → is_day start ≡ true → is_day_or_none end ≡ true → ends_by start end ≡ true → says (Opt EndDate) f i ≡ Some end
unfolding says
says-end f i start None before at h k order = rw at refl
says-end f i start (Some d) before at h k order = rw (at, before, date-back start h, date-back d k, order) refl

pub says-object : (f : List (List ℕ)) (i : ℕ) (o : ObjectValue) → object_at f i ≡ object_of_fields (texts_of o) → is_object o ≡ true → says AddressableObject f i ≡ Some o
unfolding says
says-object f i o at h = rw (at, object_back o h) refl

pub says-blpu_status : (f : List (List ℕ)) (i : ℕ) (s : Status) → field f i ≡ status_text s → is_some (of_blpu s) ≡ true → says BlpuStatus f i ≡ Some s
unfolding says
says-blpu_status f i Approved at h = rw at refl
says-blpu_status f i Alternative at h = cc h
says-blpu_status f i Provisional at h = rw at refl
says-blpu_status f i Historical at h = rw at refl

pub says-blank_object : (f : List (List ℕ)) (i : ℕ) → is_blank AddressableObject f i ≡ true → says (Opt AddressableObject) f i ≡ Some None
unfolding says
says-blank_object f i h = rw h refl

-- an object that is there has a field that isn't empty
not_blank : (a b c d e : List ℕ) (o : ObjectValue) → object_of a b c d e ≡ Ok o
    → ((length a == 0) && (length b == 0) && (length c == 0) && (length d == 0) && (length e == 0)) ≡ false
unfolding object_of
not_blank a b c d e o h = elim (cases_Bool ((length a == 0) && (length b == 0) && (length c == 0) && (length d == 0) && (length e == 0))) [
  | inl blank ↦ cc (rw blank at h)
  | inr other ↦ other
]

pub says-opt_object : (f : List (List ℕ)) (i : ℕ) (o : ObjectValue) → field f i ≡ digits_text (from_of o.range) → field f (i + 1) ≡ letter_text (from_of o.range)
    → field f (i + 2) ≡ digits_text (to_of o.range) → field f (i + 3) ≡ letter_text (to_of o.range) → field f (i + 4) ≡ unwrap_or o.text []
    → is_object o ≡ true → says (Opt AddressableObject) f i ≡ Some (Some o)
unfolding says
says-opt_object f i o a b c d e h = rw (a, b, c, d, e, not_blank _ _ _ _ _ o (object_back o h), object_back o h) refl
