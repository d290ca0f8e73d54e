-- A text that names a key is UTF-8.
use Rattle.std.proofs.Common.{◌≡◌, ◌<◌, ◌==◌, true≢false, ℕ, Bool, true, false, cond, List, [], ◌∷◌, drop, length, take, refl, sym, subst, arith}
use Rattle.std.proofs.lemmas.Bool.{and_parts}
use Rattle.std.proofs.lemmas.Bool.Decides.{nat_tests}
use Rattle.std.proofs.lemmas.List.{take-append-drop}
use Rattle.std.proofs.lemmas.Str.{IsUtf8-append, IsUtf8-from_ascii}
use Rattle.std.proofs.lemmas.Str.Ascii.{IsAscii-cons, IsAscii-nil}
use Rattle.std.specs.Char.{is_ascii_digit}
use Rattle.std.specs.Prelude.{Option, Some, None, IsUtf8, is_some, option_map}
use Rattle.std.specs.Result.{result_ok}
use Rattle.std.specs.Str.{IsAscii, all_ascii_digits, bytes_eq}
use Rattle.std.proofs.lemmas.Slice.Eq.{bytes_eq-Decides}
use Rattle.sqlite.specs.Order.{Row, column}
use Rattle.gaz_ids.specs.Codes.{lang_of, lang_text}
use Rattle.gaz_ids.specs.Numbers.{read_id}
use Rattle.gaz_ids.specs.declared.lang.Lang.{Lang}
use Rattle.gaz_ids.specs.declared.lang.Lang.TheVariants.{Cym, Eng}
use Rattle.gaz_fields.proofs.LabelBytes.{label_utf8}
use Rattle.gaz_fields.specs.Labels.{is_label, label_of}
use Rattle.gaz_records.proofs.Texts.{lang_utf8}
use Rattle.gaz_records.specs.declared.item.Kind.{Kind}
use Rattle.gaz_records.specs.declared.item.Kind.TheVariants as kind
use Rattle.gaz_records.specs.declared.key.Key.{Key}
use Rattle.gaz_records.specs.declared.key.Key.TheVariants as key
use Rattle.gaz_cells.specs.Ids.{key_named, name_of, number_in_full, uprn_in, usrn_in}
use Rattle.gaz_row_items.specs.Decoding.{NamesKey}
use Rattle.gaz_row_items.specs.Versions.{text_in}
use Rattle.gaz_row_items.proofs.CustodyFollows.{no_answer, reads}
use Rattle.gaz_answers.specs.Streets.{HasId}

-- ---- digits

digits_ascii : (t : List ℕ) → all_ascii_digits t ≡ true → IsAscii t
digits_ascii [] all = IsAscii-nil
digits_ascii (c ∷ t) all =
    let both = and_parts (is_ascii_digit c) (all_ascii_digits t) all in
    let digit = both.0 in
    let small : c < 128 = grind (arith, nat_tests) in
    IsAscii-cons c t small (digits_ascii t both.1)

number_utf8 : (width high : ℕ) (t : List ℕ) (n : ℕ) → number_in_full width high t ≡ Some n → IsUtf8 t
number_utf8 width high t n is = by_size (length t == width) is
  where
    by_size : (b : Bool) → cond b (result_ok (read_id width 1 high t)) None ≡ Some n → IsUtf8 t
    by_size true e = IsUtf8-from_ascii t (digits_ascii t (reads width high t n e).all)
    by_size false e = no_answer e refl

-- ---- a street's name in a language

lang_text_utf8 : (t : List ℕ) (l : Lang) → lang_of t ≡ Some l → IsUtf8 t
lang_text_utf8 t l is = by_eng (bytes_eq t (lang_text Eng)) refl is
  where
    same : (m : Lang) → bytes_eq t (lang_text m) ≡ true → IsUtf8 t
    same m e = subst IsUtf8 (sym ((bytes_eq-Decides t (lang_text m)).0 e)) (lang_utf8 m)

    by_cym : (b : Bool) → bytes_eq t (lang_text Cym) ≡ b → cond b (Some Cym) None ≡ Some l → IsUtf8 t
    by_cym true e h = same Cym e
    by_cym false e h = no_answer h refl

    by_eng : (b : Bool) → bytes_eq t (lang_text Eng) ≡ b → cond b (Some Eng) (cond (bytes_eq t (lang_text Cym)) (Some Cym) None) ≡ Some l → IsUtf8 t
    by_eng true e h = same Eng e
    by_eng false e h = by_cym (bytes_eq t (lang_text Cym)) refl h

name_utf8 : (t : List ℕ) (q : Key) → name_of (usrn_in (take 8 t)) (lang_of (drop 8 t)) ≡ Some q → IsUtf8 t
name_utf8 t q is = by_number (usrn_in (take 8 t)) refl is
  where
    by_number : (n : Option ℕ) → usrn_in (take 8 t) ≡ n → name_of n (lang_of (drop 8 t)) ≡ Some q → IsUtf8 t
    by_number None number e = no_answer e refl
    by_number (Some n) number e = by_lang (lang_of (drop 8 t)) refl e
      where
        by_lang : (l : Option Lang) → lang_of (drop 8 t) ≡ l → name_of (Some n) l ≡ Some q → IsUtf8 t
        by_lang None lang h = no_answer h refl
        by_lang (Some l) lang h =
            subst IsUtf8 (take-append-drop 8 t)
            (IsUtf8-append (take 8 t) (drop 8 t) (number_utf8 8 99_999_999 (take 8 t) n number) (lang_text_utf8 (drop 8 t) l lang))

-- ---- a key of any kind

some_made : {A : Type 0} (f : A → Key) (o : Option A) (P : Type 0) → ((a : A) → o ≡ Some a → P) → is_some (option_map f o) ≡ true → P
some_made f None P all is = absurd (true≢false (sym is))
some_made f (Some a) P all is = all a refl

labelled_utf8 : (t : List ℕ) (u : List ℕ) → label_of 14 t ≡ Some u → IsUtf8 t
labelled_utf8 t u is = by_test (is_label 14 t) refl is
  where
    by_test : (b : Bool) → is_label 14 t ≡ b → cond b (Some t) None ≡ Some u → IsUtf8 t
    by_test true label e = label_utf8 14 t label
    by_test false label e = no_answer e refl

some_name : (t : List ℕ) (o : Option Key) → name_of (usrn_in (take 8 t)) (lang_of (drop 8 t)) ≡ o → is_some o ≡ true → IsUtf8 t
some_name t None is some = absurd (true≢false (sym some))
some_name t (Some q) is some = name_utf8 t q is

named_utf8 : (k : Kind) (t : List ℕ) → is_some (key_named k t) ≡ true → IsUtf8 t
named_utf8 kind.Street t is = some_made key.Street (usrn_in t) (IsUtf8 t) (number_utf8 8 99_999_999 t) is
named_utf8 kind.Descriptor t is = by_length (length t == 11) is
  where
    by_length : (b : Bool) → is_some (cond b (name_of (usrn_in (take 8 t)) (lang_of (drop 8 t))) None) ≡ true → IsUtf8 t
    by_length true e = some_name t (name_of (usrn_in (take 8 t)) (lang_of (drop 8 t))) refl e
    by_length false e = absurd (true≢false (sym e))
named_utf8 kind.Blpu t is = some_made key.Blpu (uprn_in t) (IsUtf8 t) (number_utf8 12 999_999_999_999 t) is
named_utf8 kind.Xref t is = some_made key.Xref (label_of 14 t) (IsUtf8 t) (labelled_utf8 t) is
named_utf8 kind.Lpi t is = some_made key.Lpi (label_of 14 t) (IsUtf8 t) (labelled_utf8 t) is
named_utf8 kind.Release t is = absurd (true≢false (sym is))
named_utf8 kind.Adopt t is = absurd (true≢false (sym is))

-- so the id of a row that names a key is a text of UTF-8
pub has_id : (k : Kind) (r : Row) → NamesKey k r 0 → HasId r
has_id k r names = record { text = names.text; utf8 = named_utf8 k (text_in (column r 0)) names.named }
