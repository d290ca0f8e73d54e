-- What a field that has its form says is such as the table allows.
use Rattle.std.proofs.Common.{◌≡◌, ℕ, ◌-◌, Bool, true, false, List, [], refl, arith, subst, Some, None, Ok, Err}
use Rattle.std.specs.Prelude.{◌==◌, ◌&&◌, nat_le, length, slice_index, slice_range, is_some, Option, option_and_then, option_map, Result, if◌then◌else◌}
use Rattle.std.specs.Option.{unwrap_or}
use Rattle.std.specs.Result.{result_ok}
use Rattle.std.specs.Str.{all_ascii_digits}
use Rattle.std.specs.Str.Parse.{digits_value}
use Rattle.std.proofs.lemmas.Bool.Decides.{nat_tests}
use Rattle.gaz_ids.specs.Numbers.{read_id}
use Rattle.gaz_ids.specs.declared.status.Status.{Status}
use Rattle.gaz_ids.specs.declared.status.Status.TheVariants.{Approved, Alternative, Provisional, Historical}
use Rattle.gaz_ids.specs.Codes.{status_of}
use Rattle.gaz_addressable.specs.Texts.{is_text, text_of}
use Rattle.gaz_addressable.specs.Objects.{is_text_or_none}
use Rattle.gaz_addressable.specs.declared.text.TextFault.{TextFault}
use Rattle.gaz_fields.specs.Days.{CivilDay, is_day_or_none, date_of, day_le, day_of, ends_by, is_day, no_day}
use Rattle.gaz_fields.specs.Fields.{field}
use Rattle.gaz_fields.specs.Forms.{BlpuStatus, Date, Digits, EndDate, LabelTo, Opt, TextTo, is_blank, not_before, of_blpu, says}
use Rattle.gaz_fields.specs.Labels.{is_label}

-- a number that was read is in its range
pub id-fits : (digits low high : ℕ) (t : List ℕ) (o : Option ℕ) → result_ok (read_id digits low high t) ≡ o → is_some o ≡ true
    → (nat_le low (unwrap_or o 0) && nat_le (unwrap_or o 0) high) ≡ true
unfolding read_id
id-fits digits low high t o e h = grind (arith, nat_tests, e, h)

pub number-fits : (f : List (List ℕ)) (i digits low high : ℕ) → is_some (says (Digits digits low high) f i) ≡ true
    → (nat_le low (unwrap_or (says (Digits digits low high) f i) 0) && nat_le (unwrap_or (says (Digits digits low high) f i) 0) high) ≡ true
unfolding says
number-fits f i digits low high h = id-fits digits low high (field f i) _ refl h

status-fits : (o : Option Status) → is_some (option_and_then of_blpu o) ≡ true → is_some (of_blpu (unwrap_or (option_and_then of_blpu o) Approved)) ≡ true
status-fits None h = cc
status-fits (Some Approved) h = refl
status-fits (Some Alternative) h = cc
status-fits (Some Provisional) h = refl
status-fits (Some Historical) h = refl

pub blpu_status-fits : (f : List (List ℕ)) (i : ℕ) → is_some (says BlpuStatus f i) ≡ true → is_some (of_blpu (unwrap_or (says BlpuStatus f i) Approved)) ≡ true
unfolding says
blpu_status-fits f i h = status-fits (status_of (field f i)) h

pub label-fits : (f : List (List ℕ)) (i most : ℕ) → is_some (says (LabelTo most) f i) ≡ true → is_label most (unwrap_or (says (LabelTo most) f i) []) ≡ true
unfolding says
label-fits f i most h = by_test (is_label most (field f i)) refl h
  where
    by_test : (b : Bool) → is_label most (field f i) ≡ b → is_some (if b then Some (field f i) else None) ≡ true → is_label most (unwrap_or (if b then Some (field f i) else None) []) ≡ true
    by_test true e h = e
    by_test false e h = cc h

text-read : (most : ℕ) (t v : List ℕ) → text_of most t ≡ Ok v → is_text most v ≡ true
text-read most t v h = grind (arith, nat_tests, h)

text-known : (most : ℕ) (t : List ℕ) (r : Result (List ℕ) TextFault) → text_of most t ≡ r → is_some (result_ok r) ≡ true → is_text most (unwrap_or (result_ok r) []) ≡ true
text-known most t (Ok v) e h = text-read most t v e
text-known most t (Err x) e h = cc h

pub text-fits : (f : List (List ℕ)) (i most : ℕ) → is_some (says (TextTo most) f i) ≡ true → is_text most (unwrap_or (says (TextTo most) f i) []) ≡ true
unfolding says
text-fits f i most h = text-known most (field f i) _ refl h

-- a form that may be left empty, where what its field says is such as the table allows
pub opt-fits : {A : Type 0} (blank : Bool) (o : Option A) (P : Option A → Bool) → P None ≡ true → ((x : A) → o ≡ Some x → P (Some x) ≡ true)
    → is_some (if blank then Some None else option_map Some o) ≡ true → P (unwrap_or (if blank then Some None else option_map Some o) None) ≡ true
opt-fits true o P none some h = none
opt-fits false None P none some h = none
opt-fits false (Some x) P none some h = some x refl

pub opt_text-fits : (f : List (List ℕ)) (i most : ℕ) → is_some (says (Opt (TextTo most)) f i) ≡ true → is_text_or_none most (unwrap_or (says (Opt (TextTo most)) f i) None) ≡ true
unfolding says
opt_text-fits f i most h =
    opt-fits (is_blank (TextTo most) f i) (result_ok (text_of most (field f i))) (is_text_or_none most) refl (λ x e. known (text_of most (field f i)) refl x e) h
  where
    known : (r : Result (List ℕ) TextFault) → text_of most (field f i) ≡ r → (x : List ℕ) → result_ok r ≡ Some x → is_text most x ≡ true
    known (Ok v) e x same = let is : v ≡ x = cc same in subst (λ (t : List ℕ). is_text most t ≡ true) is (text-read most (field f i) v e)
    known (Err fault) e x same = cc same

-- a date that was read is in the calendar
tested-day : (b : Bool) (d e : CivilDay) → is_day d ≡ b → (if b then Some d else None) ≡ Some e → is_day e ≡ true
tested-day true d e is h = let same : d ≡ e = cc h in subst (λ (x : CivilDay). is_day x ≡ true) same is
tested-day false d e is h = cc h

inside : (b : Bool) (o : Option CivilDay) (e : CivilDay) → (if b then o else None) ≡ Some e → o ≡ Some e
inside true o e h = h
inside false o e h = cc h

day-read : (year month day : ℕ) (e : CivilDay) → day_of year month day ≡ Some e → is_day e ≡ true
day-read year month day e h =
    let d : CivilDay = record { year = year; month = month; day = day } in
    tested-day (is_day d) d e refl h

date-read : (t : List ℕ) (d : CivilDay) → date_of t ≡ Some d → is_day d ≡ true
unfolding date_of
date-read t d h =
    let year = digits_value 10 (slice_range t 0 4) in
    let month = digits_value 10 (slice_range t 5 7) in
    let day = digits_value 10 (slice_range t 8 10) in
    let formed =
    (length t == 10) && (slice_index t 4 == 45) && (slice_index t 7 == 45) && all_ascii_digits (slice_range t 0 4) && all_ascii_digits (slice_range t 5 7)
    && all_ascii_digits (slice_range t 8 10) in
    day-read year month day d (inside formed (day_of year month day) d h)

pub date-known : (t : List ℕ) (o : Option CivilDay) → date_of t ≡ o → is_some o ≡ true → is_day (unwrap_or o no_day) ≡ true
date-known t (Some d) e h = date-read t d e
date-known t None e h = cc h

pub day-fits : (f : List (List ℕ)) (i : ℕ) → is_some (says Date f i) ≡ true → is_day (unwrap_or (says Date f i) no_day) ≡ true
unfolding says
day-fits f i h = date-known (field f i) _ refl h

-- an end date that was read is in the calendar, and isn't before the start
pub record EndFits (start end : Option CivilDay) (said : Option (Option CivilDay)) : Type 0 where
  pub days : is_day_or_none (unwrap_or said None) ≡ true
  pub order : ends_by (unwrap_or start no_day) (unwrap_or said None) ≡ true

ordered : (b : Bool) (s e : CivilDay) → day_le s e ≡ b → is_day e ≡ true → is_some (option_map Some (if b then Some e else None)) ≡ true
    → EndFits (Some s) (Some e) (option_map Some (if b then Some e else None))
ordered true s e is day h = record { days = day; order = is }
ordered false s e is day h = cc h

end-known : (blank : Bool) (start end : Option CivilDay) → ((d : CivilDay) → end ≡ Some d → is_day d ≡ true)
    → is_some (if blank then Some None else option_map Some (option_and_then (λ s. option_and_then (not_before s) end) start)) ≡ true
    → EndFits start end (if blank then Some None else option_map Some (option_and_then (λ s. option_and_then (not_before s) end) start))
end-known true start end day h = record { days = refl; order = refl }
end-known false None end day h = cc h
end-known false (Some s) None day h = cc h
end-known false (Some s) (Some e) day h = ordered (day_le s e) s e refl (day e refl) h

pub end-fits : (f : List (List ℕ)) (i : ℕ) → is_some (says (Opt EndDate) f i) ≡ true → EndFits (says Date f (i - 1)) (says Date f i) (says (Opt EndDate) f i)
unfolding says
end-fits f i h = end-known (is_blank EndDate f i) (date_of (field f (i - 1))) (date_of (field f i)) (date-read (field f i)) h
