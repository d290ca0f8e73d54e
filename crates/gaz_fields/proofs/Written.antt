-- Fields that are written one behind the other.
use Rattle.std.proofs.Common.{◌≡◌, ℕ, ◌+◌, ◌<◌, ◌≤◌, List, [], ◌∷◌, ◌++◌, length, get_or, drop, refl, sym, ◌∙◌, append_assoc, add-one, arith, drop-cons}
use Rattle.std.proofs.lemmas.List.{append-nil, drop_all}
use Rattle.csv.specs.Writing.{default_writer, escaped, field_text, fields_text}
use Rattle.gaz_rows.specs.Rows.{line_of}

escaped-cons : (b : ℕ) (s : List ℕ) → escaped default_writer (b ∷ []) ++ escaped default_writer s ≡ escaped default_writer (b ∷ s)
unfolding escaped
escaped-cons b s = grind arith

-- a byte between quotes, and those behind it
pub escape_byte : (o s : List ℕ) (i : ℕ) → i < length s
    → (o ++ escaped default_writer (get_or s i 0 ∷ [])) ++ escaped default_writer (drop (i + 1) s) ≡ o ++ escaped default_writer (drop i s)
escape_byte o s i h =
    rw (append_assoc o (escaped default_writer (get_or s i 0 ∷ [])) (escaped default_writer (drop (i + 1) s)), escaped-cons (get_or s i 0) (drop (i + 1) s), drop-cons s i 0 h, add-one) refl

pub escape_end : (o s r : List ℕ) (i : ℕ) → length s ≤ i → o ++ escaped default_writer (drop i s) ≡ r → o ≡ r
unfolding escaped
escape_end o s r i h e = sym (append-nil o) ∙ rw (drop_all i s h) at e

-- a comma and a field
pub one_more : (o a b x : List ℕ) → a ≡ o ++ (44 ∷ []) → b ≡ a ++ field_text default_writer x → b ≡ o ++ fields_text default_writer (x ∷ [])
unfolding fields_text
one_more o a b x h k = rw (k, h, append_assoc o (44 ∷ []) (field_text default_writer x), append-nil (field_text default_writer x)) refl

fields_text-append : (xs ys : List (List ℕ)) → fields_text default_writer (xs ++ ys) ≡ fields_text default_writer xs ++ fields_text default_writer ys
unfolding fields_text
fields_text-append [] ys = refl
fields_text-append (x ∷ xs) ys =
    rw (fields_text-append xs ys, ← append_assoc (field_text default_writer x) (fields_text default_writer xs) (fields_text default_writer ys)) refl

-- fields behind fields
pub more : (o a b : List ℕ) (xs ys : List (List ℕ)) → a ≡ o ++ fields_text default_writer xs → b ≡ a ++ fields_text default_writer ys
    → b ≡ o ++ fields_text default_writer (xs ++ ys)
more o a b xs ys h k = rw (k, h, append_assoc o (fields_text default_writer xs) (fields_text default_writer ys), fields_text-append xs ys) refl

-- the first field, and those behind it
pub row_is : (o a b x : List ℕ) (xs : List (List ℕ)) → a ≡ o ++ field_text default_writer x → b ≡ a ++ fields_text default_writer xs → b ≡ o ++ line_of (x ∷ xs)
row_is o a b x xs h k = rw (k, h, append_assoc o (field_text default_writer x) (fields_text default_writer xs)) refl

pub ruleset writing = (one_more)
