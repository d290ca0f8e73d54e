-- What is written of rows whose fields are UTF-8 is UTF-8.
use Rattle.std.proofs.Common.{◌≡◌, ℕ, suc, ◌^◌, ◌<◌, Bool, true, false, List, [], ◌∷◌, ◌++◌, length, get_or, refl, arith, inl, inr, sym, ◌∙◌, lit<}
use Rattle.std.specs.Prelude.{IsUtf8, ◌==◌, if◌then◌else◌, decimal}
use Rattle.std.proofs.Math.Utf8.{encode, encodes, scalar, scalars}
use Rattle.std.proofs.lemmas.Bool.{and_parts, cases_Bool, cases_eq}
use Rattle.std.proofs.lemmas.Bool.Decides.{nat_tests}
use Rattle.std.proofs.lemmas.Fmt.{IsAscii-decimal}
use Rattle.std.proofs.lemmas.List.{append-nil}
use Rattle.std.proofs.lemmas.Str.{IsUtf8-append, IsUtf8-encode, IsUtf8-from_ascii, IsUtf8-nil, encode_ascii, inside_one}
use Rattle.csv.specs.Writing.{default_writer, escaped, field_text, fields_text, is_blank, needs_quotes, row_body, row_text}
use Rattle.gaz_rows.specs.Rows.{AreTextRows, AreTexts, Fields, RowsAreUtf8, lines_of}

-- ---- a field between its quotes

-- a character that is no quote has no byte of one
no-quote : (c : ℕ) → (c ≡ 34 → ⊥) → (k : ℕ) → k < length (encode c) → get_or (encode c) k 0 ≡ 34 → ⊥
no-quote c n k h e = n (inside_one c [] (encode c) k (sym (append-nil (encode c))) h (rw e (lit< tt)) ∙ e)

is-other : (a b : ℕ) → (a ≡ b → ⊥) → (a == b) ≡ false
is-other a b n = grind (arith, nat_tests)

escaped-plain : (a rest : List ℕ) → ((k : ℕ) → k < length a → get_or a k 0 ≡ 34 → ⊥) → escaped default_writer (a ++ rest) ≡ a ++ escaped default_writer rest
unfolding escaped
escaped-plain [] rest h = refl
escaped-plain (b ∷ bs) rest h =
    let no : (b == 34) ≡ false = is-other b 34 (h 0 (omega arith)) in
    rw (no, escaped-plain bs rest (λ k l. h (suc k) (omega arith))) refl

-- a character of one byte, as a quote mark, a comma and a line feed
pub one-byte : (c : ℕ) → c < 128 → scalar c ≡ true → IsUtf8 (c ∷ [])
one-byte c h e = rw (← encode_ascii c h) (IsUtf8-encode c e)

quote-mark : IsUtf8 (34 ∷ [])
quote-mark = one-byte 34 (lit< tt) refl

two-quotes : IsUtf8 (34 ∷ 34 ∷ [])
two-quotes = IsUtf8-append (34 ∷ []) (34 ∷ []) quote-mark quote-mark

escaped-utf8 : (cs : List ℕ) → scalars cs ≡ true → IsUtf8 (escaped default_writer (encodes cs))
unfolding escaped
escaped-utf8 [] h = IsUtf8-nil
escaped-utf8 (c ∷ cs) h =
    let (here, more) = and_parts (scalar c) (scalars cs) h in
    elim (cases_eq c 34) [
      | inl quote ↦ rw (quote, encode_ascii 34 (lit< tt)) (IsUtf8-append (34 ∷ 34 ∷ []) (escaped default_writer (encodes cs)) two-quotes (escaped-utf8 cs more))
      | inr other ↦
          rw (escaped-plain (encode c) (encodes cs) (no-quote c other))
          (IsUtf8-append (encode c) (escaped default_writer (encodes cs)) (IsUtf8-encode c here) (escaped-utf8 cs more))
    ]

quoted-utf8 : (x : List ℕ) → IsUtf8 x → IsUtf8 (34 ∷ (escaped default_writer x ++ (34 ∷ [])))
quoted-utf8 x (cs, (are, spell)) =
    IsUtf8-append (34 ∷ []) (escaped default_writer x ++ (34 ∷ [])) quote-mark
    (IsUtf8-append (escaped default_writer x) (34 ∷ []) (rw (← spell) (escaped-utf8 cs are)) quote-mark)

field-utf8 : (x : List ℕ) → IsUtf8 x → IsUtf8 (field_text default_writer x)
field-utf8 x u = elim (cases_Bool (needs_quotes default_writer x)) [
  | inl needs ↦ rw needs (quoted-utf8 x u)
  | inr plain ↦ rw plain u
]

-- ---- rows

fields-utf8 : (xs : Fields) → AreTexts xs → IsUtf8 (fields_text default_writer xs)
unfolding fields_text
fields-utf8 [] h = IsUtf8-nil
fields-utf8 (x ∷ xs) h =
    IsUtf8-append (44 ∷ []) (field_text default_writer x ++ fields_text default_writer xs) (one-byte 44 (lit< tt) refl)
    (IsUtf8-append (field_text default_writer x) (fields_text default_writer xs) (field-utf8 x h.0) (fields-utf8 xs h.1))

pub body-utf8 : (row : Fields) → AreTexts row → IsUtf8 (row_body default_writer row)
body-utf8 [] h = IsUtf8-nil
body-utf8 (x ∷ xs) h = IsUtf8-append (field_text default_writer x) (fields_text default_writer xs) (field-utf8 x h.0) (fields-utf8 xs h.1)

-- the two quotes that stand for a row with no byte
blank-utf8 : (b : Bool) → IsUtf8 (if b then 34 ∷ 34 ∷ [] else [])
blank-utf8 true = two-quotes
blank-utf8 false = IsUtf8-nil

row-utf8 : (row : Fields) → AreTexts row → IsUtf8 (row_text default_writer row)
row-utf8 row h =
    let blank = is_blank default_writer row in
    IsUtf8-append (row_body default_writer row) ((if blank then 34 ∷ 34 ∷ [] else []) ++ (10 ∷ [])) (body-utf8 row h)
    (IsUtf8-append (if blank then 34 ∷ 34 ∷ [] else []) (10 ∷ []) (blank-utf8 blank) (one-byte 10 (lit< tt) refl))

pub lines-utf8 : RowsAreUtf8
unfolding lines_of
lines-utf8 [] h = IsUtf8-nil
lines-utf8 (row ∷ rows) h = IsUtf8-append (row_text default_writer row) (lines_of rows) (row-utf8 row h.0) (lines-utf8 rows h.1)

-- ---- what fields are made of

pub decimal-utf8 : (n : ℕ) → n < 2 ^ 64 → IsUtf8 (decimal n)
decimal-utf8 n h = IsUtf8-from_ascii (decimal n) (IsAscii-decimal n h)

pub texts-append : (xs ys : Fields) → AreTexts xs → AreTexts ys → AreTexts (xs ++ ys)
texts-append [] ys h k = k
texts-append (x ∷ xs) ys h k = (h.0, texts-append xs ys h.1 k)

pub rows-append : (xs ys : List Fields) → AreTextRows xs → AreTextRows ys → AreTextRows (xs ++ ys)
rows-append [] ys h k = k
rows-append (x ∷ xs) ys h k = (h.0, rows-append xs ys h.1 k)
