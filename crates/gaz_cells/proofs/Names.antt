-- The names of keys are texts.
use Rattle.std.proofs.Common.{◌≡◌, ℕ, zero, suc, ◌+◌, ◌/◌, ◌%◌, ◌<◌, true, arith}
use Rattle.std.specs.Prelude.{IsUtf8}
use Rattle.std.proofs.lemmas.Str.{IsUtf8-append, IsUtf8-from_ascii}
use Rattle.std.proofs.lemmas.Str.Ascii.{IsAscii-nil, IsAscii-push}
use Rattle.std.specs.Str.{IsAscii}
use Rattle.gaz_ids.specs.Codes.{lang_text}
use Rattle.gaz_fields.proofs.LabelBytes.{label_utf8}
use Rattle.gaz_records.specs.declared.key.Key.{Key}
use Rattle.gaz_records.specs.declared.key.Key.TheVariants as key
use Rattle.gaz_records.proofs.Texts.{lang_utf8}
use Rattle.gaz_cells.specs.Digits.{digits_in}
use Rattle.gaz_cells.specs.Ids.{id_of, is_key}

digits_ascii : (w n : ℕ) → IsAscii (digits_in w n)
unfolding digits_in
digits_ascii zero n = IsAscii-nil
digits_ascii (suc w) n =
    let small : 48 + n % 10 < 128 = omega arith in
    IsAscii-push (digits_in w (n / 10)) (48 + n % 10) (digits_ascii w (n / 10)) small

digits_utf8 : (w n : ℕ) → IsUtf8 (digits_in w n)
digits_utf8 w n = IsUtf8-from_ascii (digits_in w n) (digits_ascii w n)

pub id_utf8 : (k : Key) → is_key k ≡ true → IsUtf8 (id_of k)
id_utf8 (key.Street n) h = digits_utf8 8 n
id_utf8 (key.Descriptor n l) h = IsUtf8-append (digits_in 8 n) (lang_text l) (digits_utf8 8 n) (lang_utf8 l)
id_utf8 (key.Blpu n) h = digits_utf8 12 n
id_utf8 (key.Xref t) h = label_utf8 14 t h
id_utf8 (key.Lpi t) h = label_utf8 14 t h
