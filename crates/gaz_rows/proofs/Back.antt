-- A row that was written reads back.
use Rattle.std.specs.Prelude.{length, map, ◌||◌, if◌then◌else◌, take, ◌-◌}
use Rattle.std.proofs.Math.Seq.{take-append_seam}
use Rattle.std.proofs.Common.{◌≡◌, ◌==◌, ◌++◌, ◌∷◌, ◌∙◌, [], ℕ, List, Bool, Some, None, refl, ap, true, false, append_assoc, inl, inr, suc, zero, ◌+◌, ◌≤◌, ◌<◌, arith, add-one, length-append, get_or}
use Rattle.std.specs.List.{list_any}
use Rattle.std.proofs.lemmas.List.{append-nil}
use Rattle.std.proofs.lemmas.Bool.{cases_Bool}
use Rattle.csv.specs.Machine.{next_record}
use Rattle.csv.specs.Reading.{default_config, records, records_from, strip_bom}
use Rattle.csv.specs.Writing.{default_writer, field_text, fields_text, is_blank, needs_byte, read_back, row_body, row_text}
use Rattle.csv.specs.declared.parser.State.TheVariants as st
use Rattle.csv.proofs.RoundTrip.{plain-run, quoted-run, field-run, start-same, record-same, read-write}
use Rattle.gaz_rows.specs.Rows.{AllFilled, Fields, RowsReadBack, line_of, lines_of, one_row, only}

off : (b : List ℕ) (n : ℕ) → n ≡ length b → take n (b ++ (10 ∷ [])) ≡ b
off b n e = rw e (take-append_seam b (10 ∷ []))

-- the end of the text ends a field and the record
at-end : (fields : List (List ℕ)) (x : List ℕ) → next_record default_config st.InField fields x [] ≡ Some (fields ++ (x ∷ []), st.StartRecord, [])
unfolding next_record
at-end fields x = refl

after-quote-end : (fields : List (List ℕ)) (x : List ℕ) → next_record default_config st.AfterQuote fields x [] ≡ Some (fields ++ (x ∷ []), st.StartRecord, [])
unfolding next_record
after-quote-end fields x = refl

or-left : (a b : Bool) → (a || b) ≡ false → a ≡ false
or-left false b e = refl
or-left true b e = cc e

or-right : (a b : Bool) → (a || b) ≡ false → b ≡ false
or-right false b e = e
or-right true b e = cc e

not-true : (x : Bool) → (x ≡ true → ⊥) → x ≡ false
not-true true n = absurd (n refl)
not-true false n = refl

-- a byte that calls for no quotes is no mark of the format
plain-byte : (b : ℕ) → needs_byte default_writer b ≡ false → ((b == 44) ≡ false) × ((b == 34) ≡ false) × ((b == 13) ≡ false) × ((b == 10) ≡ false)
plain-byte b e =
    let a = not-true (b == 44) (λ t. cc (rw t at e)) in
    let q = not-true (b == 34) (λ t. cc (rw (a, t) at e)) in
    let r = not-true (b == 13) (λ t. cc (rw (a, q, t) at e)) in
    let n = not-true (b == 10) (λ t. cc (rw (a, q, r, t) at e)) in
    (a, q, r, n)

-- a field with nothing after it
field-at-end : (fields : List (List ℕ)) (x : List ℕ)
    → next_record default_config st.StartField fields [] (field_text default_writer x) ≡ Some (fields ++ (x ∷ []), st.StartRecord, [])
unfolding next_record
field-at-end fields [] = refl
field-at-end fields (b ∷ rest) = elim (cases_Bool (list_any (needs_byte default_writer) (b ∷ rest))) [
  | inl needs ↦ rw needs (quoted-run fields [] (b ∷ rest) [] ∙ after-quote-end fields (b ∷ rest))
  | inr plain ↦
      let run = plain-run fields [] (b ∷ rest) [] plain in
      let q = plain-byte b (or-left _ _ plain) in
      rw plain (start-same fields [] b rest q.1 ∙ (rw (append-nil rest) at run) ∙ at-end fields (b ∷ rest))
]

end-field : (fields : List (List ℕ)) (x u : List ℕ)
    → next_record default_config st.InField fields x (44 ∷ u) ≡ next_record default_config st.StartField (fields ++ (x ∷ [])) [] u
unfolding next_record
end-field fields x u = refl

-- the rest of a record, up to the end of the text
rest-at-end : (fields : List (List ℕ)) (x : List ℕ) (rest : List (List ℕ))
    → next_record default_config st.InField fields x (fields_text default_writer rest) ≡ Some (fields ++ (x ∷ rest), st.StartRecord, [])
unfolding fields_text
rest-at-end fields x [] = at-end fields x
rest-at-end fields x (y ∷ []) =
    rw (append-nil (field_text default_writer y), end-field fields x (field_text default_writer y))
    (field-at-end (fields ++ (x ∷ [])) y ∙ rw (append_assoc fields (x ∷ []) (y ∷ [])) refl)
rest-at-end fields x (y ∷ z ∷ zs) =
    let run = field-run (fields ++ (x ∷ [])) y 44 (field_text default_writer z ++ fields_text default_writer zs) refl in
    let more = rest-at-end (fields ++ (x ∷ [])) y (z ∷ zs) in
    end-field fields x _ ∙ run ∙ more ∙ rw (append_assoc fields (x ∷ []) (y ∷ z ∷ zs)) refl

row-plain : (x : List ℕ) (tail : List ℕ) → list_any (needs_byte default_writer) x ≡ false
    → next_record default_config st.StartRecord [] [] (x ++ (44 ∷ tail)) ≡ next_record default_config st.StartField [] [] (x ++ (44 ∷ tail))
row-plain [] tail p = record-same [] [] 44 tail refl refl
row-plain (b ∷ rest) tail p =
    let q = plain-byte b (or-left _ _ p) in
    record-same [] [] b (rest ++ (44 ∷ tail)) q.2 q.3

-- a row's text starts as a field's does
row-start : (x : List ℕ) (tail : List ℕ)
    → next_record default_config st.StartRecord [] [] (field_text default_writer x ++ (44 ∷ tail))
    ≡ next_record default_config st.StartField [] [] (field_text default_writer x ++ (44 ∷ tail))
row-start x tail = elim (cases_Bool (list_any (needs_byte default_writer) x)) [
  | inl needs ↦ rw needs (record-same [] [] 34 _ refl refl)
  | inr plain ↦ rw plain (row-plain x tail plain)
]

-- a line of two fields or more, up to the end of the text
pub line-back : (x y : List ℕ) (ys : List (List ℕ))
    → next_record default_config st.StartRecord [] [] (line_of (x ∷ y ∷ ys)) ≡ Some (x ∷ y ∷ ys, st.StartRecord, [])
unfolding fields_text
line-back x y ys =
    row-start x _ ∙ field-run [] x 44 (field_text default_writer y ++ fields_text default_writer ys) refl ∙ rest-at-end [] x (y ∷ ys)

none-left : (n : ℕ) → records_from default_config n st.StartRecord [] ≡ []
unfolding records_from next_record
none-left zero = refl
none-left (suc n) = refl

-- a row of two fields or more, without its line end
pub last-off : (fields : List (List ℕ)) → 2 ≤ length fields → take (length (row_text default_writer fields) - 1) (row_text default_writer fields) ≡ line_of fields
unfolding is_blank
last-off [] h = absurd (omega arith)
last-off (x ∷ []) h = absurd (omega arith)
last-off (x ∷ y ∷ ys) h =
    let b = row_body default_writer (x ∷ y ∷ ys) in
    off b (length (b ++ (10 ∷ [])) - 1) (rw (length-append b (10 ∷ [])) (omega arith))

-- any bound of at least the count gives all rows
many : (n : ℕ) (rows : List (List (List ℕ))) → length rows ≤ n → records_from default_config n st.StartRecord (lines_of rows) ≡ map read_back rows
unfolding records_from next_record lines_of
many zero [] h = refl
many zero (row ∷ rows) h = absurd (omega arith)
many (suc n) [] h = refl
many (suc n) (row ∷ rows) h = rw (read-write row (lines_of rows)) (ap (λ (t : List (List (List ℕ))). read_back row ∷ t) (many n rows (omega arith)))

a-byte : (a b : List ℕ) (c : ℕ) → 1 ≤ length (a ++ (b ++ (c ∷ [])))
a-byte a b c = rw (length-append a (b ++ (c ∷ [])), length-append b (c ∷ [])) (omega arith)

as-many : (rows : List (List (List ℕ))) → length rows ≤ length (lines_of rows)
unfolding lines_of
as-many [] = omega arith
as-many (row ∷ rows) =
    let one = a-byte (row_body default_writer row) (if is_blank default_writer row then 34 ∷ 34 ∷ [] else []) 10 in
    rw (length-append (row_text default_writer row) (lines_of rows)) (omega (arith, as-many rows, one))

-- rows that were written read back, each with a field or more
pub rows-back : (rows : List (List (List ℕ))) → records default_config (lines_of rows) ≡ map read_back rows
rows-back rows = many (length (lines_of rows) + 1) rows (omega (arith, as-many rows))

-- one line reads back as its row, whose first byte isn't that of a mark
pub line-only : (x y : List ℕ) (ys : List (List ℕ)) → strip_bom (line_of (x ∷ y ∷ ys)) ≡ line_of (x ∷ y ∷ ys) → one_row (line_of (x ∷ y ∷ ys)) ≡ Some (x ∷ y ∷ ys)
unfolding records_from next_record
line-only x y ys bom = rw (bom, add-one, line-back x y ys, none-left (length (line_of (x ∷ y ∷ ys)))) refl

pub one-only : (rows : List Fields) (f : Fields) (rest : List Fields) → rows ≡ f ∷ rest → rest ≡ [] → Some f ≡ only rows
one-only rows f rest a b = rw (a, b) refl

pub two-only : (rows : List Fields) (f g : Fields) (rest more : List Fields) → rows ≡ f ∷ rest → rest ≡ g ∷ more → None ≡ only rows
two-only rows f g rest more a b = rw (a, b) refl

strip-first : (b : ℕ) (tail : List ℕ) → (b == 0xEF) ≡ false → strip_bom (b ∷ tail) ≡ b ∷ tail
unfolding strip_bom
strip-first b [] h = refl
strip-first b (c ∷ []) h = refl
strip-first b (c ∷ d ∷ rest) h = rw h refl

-- a line has no mark where its first field starts with none
pub no-mark : (x y : List ℕ) (ys : List (List ℕ)) → 0 < length x → (get_or x 0 0 == 0xEF) ≡ false
    → strip_bom (line_of (x ∷ y ∷ ys)) ≡ line_of (x ∷ y ∷ ys)
no-mark [] y ys h k = absurd (omega arith)
no-mark (b ∷ rest) y ys h k = elim (cases_Bool (list_any (needs_byte default_writer) (b ∷ rest))) [
  | inl needs ↦ rw needs (strip-first 34 _ refl)
  | inr plain ↦ rw plain (strip-first b _ k)
]

filled : (rows : List Fields) → AllFilled rows → map read_back rows ≡ rows
filled [] h = refl
filled ([] ∷ rows) h = absurd (omega (arith, h.0))
filled ((x ∷ xs) ∷ rows) h = ap (λ (t : List Fields). (x ∷ xs) ∷ t) (filled rows h.1)

pub rows-read-back : RowsReadBack
rows-read-back rows h = rows-back rows ∙ filled rows h
