-- Records that are written one behind the other.
use Rattle.std.proofs.Common.{◌≡◌, ℕ, ◌+◌, ◌<◌, ◌≤◌, List, [], ◌∷◌, ◌++◌, length, map, take, get_or, refl, arith, append_assoc, ap, sym, ◌∙◌}
use Rattle.std.specs.List.{enumerate_from}
use Rattle.std.proofs.lemmas.List.{append-nil, length-take-le, map_push, take_more}
use Rattle.csv.specs.Writing.{fields_text, is_blank}
use Rattle.gaz_rows.specs.Rows.{Fields, line_of, lines_of}
use Rattle.gaz_records.specs.Items.{item_text, item_texts}
use Rattle.gaz_records.specs.declared.item.Item.{Item}
use Rattle.gaz_records.specs.declared.item.Item.TheVariants as item
use Rattle.gaz_changefile.specs.Contents.{Contents}
use Rattle.gaz_changefile.specs.Writing.{basis_row, change_row, change_rows, file_text, header_row, line_text, profile_for, trailer_row}
use Rattle.gaz_changefile.specs.declared.change.Basis.{Basis}
use Rattle.gaz_changefile.specs.declared.change.Change.{Change}
use Rattle.gaz_changefile.proofs.Runs.{enumerate_push}

pub lines_push : (rows : List Fields) (row : Fields) → 2 ≤ length row → lines_of (rows ++ (row ∷ [])) ≡ lines_of rows ++ line_text row
unfolding lines_of is_blank
lines_push rows [] h = absurd (omega arith)
lines_push rows (x ∷ []) h = absurd (omega arith)
lines_push [] (x ∷ y ∷ ys) h = append-nil _
lines_push (row ∷ rows) (x ∷ y ∷ ys) h = rw (lines_push rows (x ∷ y ∷ ys) h) (simp append_assoc)

-- one more basis
pub bases_more : (bs : List Basis) (i : ℕ) (d : Basis) → i < length bs
    → lines_of (map basis_row (take (i + 1) bs)) ≡ lines_of (map basis_row (take i bs)) ++ line_text (basis_row (get_or bs i d))
bases_more bs i d h =
    rw (take_more bs i d h, map_push basis_row (take i bs) (get_or bs i d)) (lines_push (map basis_row (take i bs)) (basis_row (get_or bs i d)) (omega arith))

-- one more change
pub changes_more : (xs : List Change) (i : ℕ) (d : Change) → i < length xs
    → lines_of (change_rows 1 (take (i + 1) xs)) ≡ lines_of (change_rows 1 (take i xs)) ++ line_text (change_row (i + 1, get_or xs i d))
changes_more xs i d h =
    let n : 1 + length (take i xs) ≡ i + 1 = rw (length-take-le i xs (omega arith)) (omega arith) in
    rw (take_more xs i d h, enumerate_push 1 (take i xs) (get_or xs i d), n, map_push change_row (enumerate_from 1 (take i xs)) (i + 1, get_or xs i d))
    (lines_push (change_rows 1 (take i xs)) (change_row (i + 1, get_or xs i d)) (omega arith))

-- an item's row behind three fields
behind_three : (a b c x : List ℕ) (xs : Fields) → line_of (a ∷ b ∷ c ∷ []) ++ (44 ∷ line_of (x ∷ xs)) ≡ line_of (a ∷ b ∷ c ∷ x ∷ xs)
unfolding fields_text
behind_three a b c x xs = simp (append_assoc, append-nil)

pub item_behind : (a b c : List ℕ) (x : Item) → line_of (a ∷ b ∷ c ∷ []) ++ (44 ∷ item_text x) ≡ line_of (a ∷ b ∷ c ∷ item_texts x)
item_behind a b c (item.Street x) = behind_three a b c _ _
item_behind a b c (item.Descriptor x) = behind_three a b c _ _
item_behind a b c (item.Blpu x) = behind_three a b c _ _
item_behind a b c (item.Xref x) = behind_three a b c _ _
item_behind a b c (item.Lpi x) = behind_three a b c _ _
item_behind a b c (item.Release x) = behind_three a b c _ _
item_behind a b c (item.Adopt x) = behind_three a b c _ _

-- a row that is written by its parts
pub by_parts : (o start text o1 o2 o3 o4 whole : List ℕ) → o1 ≡ o ++ start → o2 ≡ o1 ++ (44 ∷ []) → o3 ≡ o2 ++ text → o4 ≡ o3 ++ (10 ∷ []) → start ++ (44 ∷ text) ≡ whole
    → o4 ≡ o ++ (whole ++ (10 ∷ []))
by_parts o start text o1 o2 o3 o4 whole a b c d e = rw (d, c, b, a, ← e) (simp append_assoc)

-- a row behind others
pub behind : (o a b x y : List ℕ) → a ≡ o ++ x → b ≡ a ++ y → b ≡ o ++ (x ++ y)
behind o a b x y h k = rw (k, h) (append_assoc o x y)

pub no_lines : (o : List ℕ) → o ≡ o ++ lines_of []
unfolding lines_of
no_lines o = sym (append-nil o)

lines_append : (xs ys : List Fields) → lines_of (xs ++ ys) ≡ lines_of xs ++ lines_of ys
unfolding lines_of
lines_append [] ys = refl
lines_append (x ∷ xs) ys = rw (lines_append xs ys) (simp append_assoc)

no_first : (t : List ℕ) → lines_of [] ++ t ≡ t
unfolding lines_of
no_first t = refl

one_line : (x y : List ℕ) (ys : Fields) → lines_of ((x ∷ y ∷ ys) ∷ []) ≡ line_text (x ∷ y ∷ ys)
one_line x y ys = lines_push [] (x ∷ y ∷ ys) (omega arith) ∙ no_first _

first_line : (x y : List ℕ) (ys : Fields) (rows : List Fields) → lines_of ((x ∷ y ∷ ys) ∷ rows) ≡ line_text (x ∷ y ∷ ys) ++ lines_of rows
first_line x y ys rows = lines_append ((x ∷ y ∷ ys) ∷ []) rows ∙ rw (one_line x y ys) refl

-- a file's parts, one behind the other
file_parts : (c v : ℕ) (f : Contents)
    → file_text c v f ≡ line_text (header_row (profile_for f.changes) c v f.date) ++ (lines_of (map basis_row f.bases) ++ (lines_of (change_rows 1 f.changes) ++ line_text (trailer_row (length f.changes))))
file_parts c v f =
    let trailer = trailer_row (length f.changes) ∷ [] in
    let changes = change_rows 1 f.changes in
    let bases = map basis_row f.bases in
    first_line _ _ _ (bases ++ (changes ++ trailer))
    ∙ ap (λ (t : List ℕ). line_text (header_row (profile_for f.changes) c v f.date) ++ t) (lines_append bases (changes ++ trailer)
    ∙ ap (λ (t : List ℕ). lines_of bases ++ t) (lines_append changes trailer
    ∙ ap (λ (t : List ℕ). lines_of changes ++ t) (one_line _ _ [])))

four_parts : (h b x t o0 o1 o2 o3 o4 : List ℕ) → o0 ≡ [] → o1 ≡ o0 ++ h → o2 ≡ o1 ++ b → o3 ≡ o2 ++ x → o4 ≡ o3 ++ t → o4 ≡ h ++ (b ++ (x ++ t))
four_parts h b x t o0 o1 o2 o3 o4 z e1 e2 e3 e4 = rw (e4, e3, e2, e1, z) (simp append_assoc)

pub file_is : (c v : ℕ) (f : Contents) (o0 o1 o2 o3 o4 : List ℕ) → o0 ≡ [] → o1 ≡ o0 ++ line_text (header_row (profile_for f.changes) c v f.date) → o2 ≡ o1 ++ lines_of (map basis_row f.bases)
    → o3 ≡ o2 ++ lines_of (change_rows 1 f.changes) → o4 ≡ o3 ++ line_text (trailer_row (length f.changes)) → o4 ≡ file_text c v f
file_is c v f o0 o1 o2 o3 o4 z h b x t = four_parts _ _ _ _ o0 o1 o2 o3 o4 z h b x t ∙ sym (file_parts c v f)
