-- A parent and a secondary object, which may be left out.
use Rattle.std.proofs.Common.{◌≡◌, ℕ, ◌^◌, ◌<◌, ◌≤◌, true, List, refl, arith, Some, None}
use Rattle.std.specs.Prelude.{decimal, is_some, Option}
use Rattle.std.specs.Option.{unwrap_or}
use Rattle.std.specs.Result.{result_ok}
use Rattle.std.proofs.lemmas.Bool.Decides.{nat_tests}
use Rattle.std.proofs.lemmas.Fmt.{decimal_nonempty}
use Rattle.gaz_ids.specs.Numbers.{read_id}
use Rattle.gaz_ids.proofs.Numerals.{read_decimal}
use Rattle.gaz_fields.specs.Fields.{field}
use Rattle.gaz_fields.specs.Forms.{AddressableObject, Digits, Opt, is_blank, object_at, says}
use Rattle.gaz_fields.proofs.ReadFields.{id-fits, opt-fits}
use Rattle.gaz_fields.proofs.ReadObjects.{ok-read}
use Rattle.gaz_fields.proofs.Says.{filled}
use Rattle.gaz_records.specs.Blpus.{is_parent, parent_text}
use Rattle.gaz_records.specs.Lpis.{is_secondary}

pub says-parent : (f : List (List ℕ)) (i : ℕ) (n : Option ℕ) → field f i ≡ parent_text n → is_parent n ≡ true → says (Opt (Digits 12 1 999_999_999_999)) f i ≡ Some n
unfolding says
says-parent f i None at h = rw at refl
says-parent f i (Some n) at h =
    let from : 1 ≤ n = grind (arith, nat_tests, h) in
    let to : n ≤ 999_999_999_999 = grind (arith, nat_tests, h) in
    let fits : n < 2 ^ 64 = omega (arith, to) in
    rw (at, filled (decimal n) (decimal_nonempty n fits), read_decimal 12 1 999_999_999_999 n (omega arith) (omega (arith, to)) fits from to) refl

pub parent-fits : (f : List (List ℕ)) (i : ℕ) → is_some (says (Opt (Digits 12 1 999_999_999_999)) f i) ≡ true
    → is_parent (unwrap_or (says (Opt (Digits 12 1 999_999_999_999)) f i) None) ≡ true
unfolding says
parent-fits f i h =
    let digits = Digits 12 1 999_999_999_999 in
    opt-fits (is_blank digits f i) (result_ok (read_id 12 1 999_999_999_999 (field f i))) is_parent refl
    (λ x e. id-fits 12 1 999_999_999_999 (field f i) (Some x) e refl) h

pub opt_object-fits : (f : List (List ℕ)) (i : ℕ) → is_some (says (Opt AddressableObject) f i) ≡ true → is_secondary (unwrap_or (says (Opt AddressableObject) f i) None) ≡ true
unfolding says
opt_object-fits f i h = opt-fits (is_blank AddressableObject f i) (result_ok (object_at f i)) is_secondary refl (ok-read _ _ _ _ _ (object_at f i) refl) h
