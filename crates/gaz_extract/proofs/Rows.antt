-- The text of records.
use Rattle.std.proofs.Common.{◌≡◌, ◌∙◌, ℕ, ◌+◌, ◌<◌, ◌≤◌, ◌^◌, Bool, true, false, List, [], ◌∷◌, ◌++◌, length, length-append, refl, sym, ap, append_assoc, append-nil, arith}
use Rattle.std.specs.Prelude.{codes, decimal, ◌&&◌}
use Rattle.std.specs.List.{list_any}
use Rattle.std.proofs.lemmas.Bool.Decides.{nat_tests}
use Rattle.std.proofs.lemmas.Fmt.{digits_decimal}
use Rattle.std.specs.Char.{is_ascii_digit}
use Rattle.std.specs.Str.{all_ascii_digits}
use Rattle.csv.specs.Writing.{default_writer, field_text, fields_text, is_blank, needs_byte, row_text}
use Rattle.gaz_ids.proofs.Numerals.{own}
use Rattle.gaz_records.specs.Items.{item_text, kind_of}
use Rattle.gaz_records.specs.declared.item.Item.{Item}
use Rattle.gaz_records.specs.declared.item.Item.TheVariants as item
use Rattle.gaz_records.specs.declared.item.Kind.{Kind}
use Rattle.gaz_records.specs.declared.item.Kind.TheVariants as kind
use Rattle.gaz_rows.specs.Rows.{Fields, line_of, lines_of}
use Rattle.gaz_extract.specs.Drafts.{DraftValue, with_items}
use Rattle.gaz_records.specs.Kinds.{identifier}
use Rattle.gaz_extract.specs.Extracts.{record_of, records_from}

and-left : (a b : Bool) → (a && b) ≡ true → a ≡ true
and-left true b e = refl
and-left false b e = cc

and-right : (a b : Bool) → (a && b) ≡ true → b ≡ true
and-right true b e = e
and-right false b e = cc

plain_byte : (b : ℕ) → is_ascii_digit b ≡ true → needs_byte default_writer b ≡ false
plain_byte b e = grind (arith, nat_tests, e)

plain_bytes : (ds : List ℕ) → all_ascii_digits ds ≡ true → list_any (needs_byte default_writer) ds ≡ false
plain_bytes [] e = refl
plain_bytes (d ∷ ds) e = rw (plain_byte d (and-left _ _ e)) (plain_bytes ds (and-right _ _ e))

-- digits are written without quotes
digits_plain : (ds : List ℕ) → all_ascii_digits ds ≡ true → field_text default_writer ds ≡ ds
digits_plain ds e = rw (plain_bytes ds e) refl

pub number_plain : (n : ℕ) → n < 2 ^ 64 → field_text default_writer (decimal n) ≡ decimal n
number_plain n h = digits_plain (decimal n) (digits_decimal own n h)

identifier_plain : (k : Kind) → field_text default_writer (identifier k) ≡ identifier k
identifier_plain kind.Street = refl
identifier_plain kind.Descriptor = refl
identifier_plain kind.Blpu = refl
identifier_plain kind.Xref = refl
identifier_plain kind.Lpi = refl
identifier_plain kind.Release = refl
identifier_plain kind.Adopt = refl

record_row : (o id number t : List ℕ) (ts : Fields) → field_text default_writer id ≡ id → field_text default_writer number ≡ number
    → (((((o ++ id) ++ codes ",I,") ++ number) ++ (44 ∷ [])) ++ line_of (t ∷ ts)) ++ (10 ∷ []) ≡ o ++ row_text default_writer (id ∷ codes "I" ∷ number ∷ t ∷ ts)
unfolding fields_text is_blank
record_row o id number t ts e f = rw (e, f) (simp append_assoc)

pub record_written : (o : List ℕ) (n : ℕ) (i : Item) → n < 2 ^ 64
    → (((((o ++ identifier (kind_of i)) ++ codes ",I,") ++ decimal n) ++ (44 ∷ [])) ++ item_text i) ++ (10 ∷ []) ≡ o ++ row_text default_writer (record_of n i)
record_written o n (item.Street x) h = record_row o _ (decimal n) _ _ (identifier_plain kind.Street) (number_plain n h)
record_written o n (item.Descriptor x) h = record_row o _ (decimal n) _ _ (identifier_plain kind.Descriptor) (number_plain n h)
record_written o n (item.Blpu x) h = record_row o _ (decimal n) _ _ (identifier_plain kind.Blpu) (number_plain n h)
record_written o n (item.Xref x) h = record_row o _ (decimal n) _ _ (identifier_plain kind.Xref) (number_plain n h)
record_written o n (item.Lpi x) h = record_row o _ (decimal n) _ _ (identifier_plain kind.Lpi) (number_plain n h)
record_written o n (item.Release x) h = record_row o _ (decimal n) _ _ (identifier_plain kind.Release) (number_plain n h)
record_written o n (item.Adopt x) h = record_row o _ (decimal n) _ _ (identifier_plain kind.Adopt) (number_plain n h)

-- a row of two fields or more
pub row_written : (o : List ℕ) (xs : Fields) → 2 ≤ length xs → (o ++ line_of xs) ++ (10 ∷ []) ≡ o ++ row_text default_writer xs
unfolding is_blank
row_written o [] h = absurd (omega arith)
row_written o (a ∷ []) h = absurd (omega arith)
row_written o (a ∷ b ∷ xs) h = append_assoc o (line_of (a ∷ b ∷ xs)) (10 ∷ [])

-- ---- records behind records

pub lines-append : (xs ys : List Fields) → lines_of (xs ++ ys) ≡ lines_of xs ++ lines_of ys
unfolding lines_of
lines-append [] ys = refl
lines-append (x ∷ xs) ys = rw (lines-append xs ys) (sym (append_assoc (row_text default_writer x) (lines_of xs) (lines_of ys)))

one_line : (x : Fields) → lines_of (x ∷ []) ≡ row_text default_writer x
unfolding lines_of
one_line x = append-nil (row_text default_writer x)

records-append : (n : ℕ) (xs ys : List Item) → records_from n (xs ++ ys) ≡ records_from n xs ++ records_from (n + length xs) ys
records-append n [] ys = ap (λ m. records_from m ys) (omega arith)
records-append n (x ∷ xs) ys = ap (λ l. record_of n x ∷ l) (records-append (n + 1) xs ys ∙ ap (λ m. records_from (n + 1) xs ++ records_from m ys) (omega arith))

-- a draft with items and then with more
pub with-append : (d : DraftValue) (xs ys : List Item) → with_items (with_items d xs) ys ≡ with_items d (xs ++ ys)
with-append d xs ys =
    let texts : (d.text ++ lines_of (records_from d.next xs)) ++ lines_of (records_from (d.next + length xs) ys) ≡ d.text ++ lines_of (records_from d.next (xs ++ ys)) =
    append_assoc d.text _ _ ∙ ap (λ l. d.text ++ l) (sym (lines-append (records_from d.next xs) (records_from (d.next + length xs) ys)) ∙ ap lines_of (sym (records-append d.next xs ys))) in
    let counts : (d.next + length xs) + length ys ≡ d.next + length (xs ++ ys) = simp length-append (omega arith) in
    λ i. record { text = texts i; next = counts i }

pub with-none : (d : DraftValue) → with_items d [] ≡ d
unfolding lines_of
with-none d =
    let texts : d.text ++ [] ≡ d.text = append-nil d.text in
    let counts : d.next + 0 ≡ d.next = omega arith in
    λ i. record { text = texts i; next = counts i }

pub with-one : (d : DraftValue) (t : List ℕ) (i : Item) → t ≡ d.text ++ row_text default_writer (record_of d.next i) → record { text = t; next = d.next + 1 } ≡ with_items d (i ∷ [])
with-one d t i e =
    let texts : t ≡ d.text ++ lines_of (record_of d.next i ∷ []) = e ∙ ap (λ l. d.text ++ l) (sym (one_line (record_of d.next i))) in
    λ j. record { text = texts j; next = d.next + 1 }
