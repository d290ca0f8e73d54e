-- The records of a file that was written say its contents.
use Rattle.std.proofs.Common.{◌≡◌, ℕ, suc, ◌+◌, true, List, [], ◌∷◌, ◌++◌, length, map, refl, arith, ap, ◌∙◌, sym}
use Rattle.std.specs.Prelude.{not}
use Rattle.std.specs.List.{All, enumerate_from, filter_map, list_any, range_with_len}
use Rattle.std.proofs.lemmas.List.{append-nil}
use Rattle.csv.specs.Records.{field_at}
use Rattle.gaz_rows.specs.Rows.{Fields}
use Rattle.gaz_fields.specs.Days.{is_day}
use Rattle.gaz_fields.proofs.DatesBack.{date-back}
use Rattle.gaz_records.specs.Items.{is_entry, is_item}
use Rattle.gaz_changefile.specs.Allowed.{AreAllowed}
use Rattle.gaz_changefile.specs.Contents.{Contents, bases_in, basis_at, change_at, changes_in, contents_of, date_in}
use Rattle.gaz_changefile.specs.Files.{ArePlaced, IsBasis, IsTyped}
use Rattle.gaz_changefile.specs.Lines.{profile_named}
use Rattle.gaz_changefile.specs.Writing.{basis_row, change_rows, file_rows, header_row, profile_for, trailer_row}
use Rattle.gaz_changefile.specs.declared.change.Basis.{Basis}
use Rattle.gaz_changefile.specs.declared.change.Change.{Change}
use Rattle.gaz_changefile.proofs.RecordsBack.{IsFit, all_have, basis_line, basis_told, change_line, change_told, for_from, for_to, head_all, header_other, tail_all, trailer_line}
use Rattle.gaz_changefile.proofs.RulesKept.{header_names}

-- the records of a file under a header of a profile
abbrev rows_under : ℕ → ℕ → ℕ → Contents → List Fields
rows_under pr c v f = header_row pr c v f.date ∷ (map basis_row f.bases ++ (change_rows 1 f.changes ++ (trailer_row (length f.changes) ∷ [])))

bases_told : (pr : ℕ) (bs : List Basis) (left : List Fields) → All IsBasis bs → filter_map (basis_at pr) (map basis_row bs ++ left) ≡ bs ++ filter_map (basis_at pr) left
bases_told pr [] left t = refl
bases_told pr (b ∷ bs) left t = rw (basis_told pr b (head_all IsBasis b bs t), bases_told pr bs left (tail_all IsBasis b bs t)) refl

no_bases : (pr c n : ℕ) (xs : List Change) (left : List Fields) → All (IsFit pr c) xs → filter_map (basis_at pr) (change_rows n xs ++ left) ≡ filter_map (basis_at pr) left
no_bases pr c n [] left fits = refl
no_bases pr c n (x ∷ xs) left fits =
    let fit = head_all (IsFit pr c) x xs fits in
    rw (change_line pr n x fit.0, no_bases pr c (n + 1) xs left (tail_all (IsFit pr c) x xs fits)) refl

file_bases : (pr c v : ℕ) (f : Contents) → All IsBasis f.bases → All (IsFit pr c) f.changes → bases_in pr (rows_under pr c v f) ≡ f.bases
file_bases pr c v f t fits =
    let trailer = trailer_row (length f.changes) ∷ [] in
    rw (
      header_other pr c v f.date,
      bases_told pr f.bases (change_rows 1 f.changes ++ trailer) t,
      no_bases pr c 1 f.changes trailer fits,
      trailer_line pr (length f.changes),
    ) (append-nil f.bases)

changes_told : (pr c place n : ℕ) (xs : List Change) (left : List Fields) → map (λ x. x.place) xs ≡ range_with_len place (length xs) → All (λ x. is_item x.item ≡ true) xs
    → All (IsFit pr c) xs
    → filter_map (change_at pr) (enumerate_from place (change_rows n xs ++ left)) ≡ xs ++ filter_map (change_at pr) (enumerate_from (place + length xs) left)
changes_told pr c place n [] left e t fits = let q : place + 0 ≡ place = omega arith in rw q refl
changes_told pr c place n (x ∷ xs) left e t fits =
    let fit = head_all (IsFit pr c) x xs fits in
    let here : place ≡ x.place = sym (cc e) in
    let rest : map (λ x. x.place) xs ≡ range_with_len (place + 1) (length xs) = cc e in
    let q : place + suc (length xs) ≡ (place + 1) + length xs = omega arith in
    rw (
      change_told pr place n x fit.0 (head_all (λ x. is_item x.item ≡ true) x xs t) here,
      changes_told pr c (place + 1) (n + 1) xs left rest (tail_all (λ x. is_item x.item ≡ true) x xs t) (tail_all (IsFit pr c) x xs fits),
      q,
    ) refl

no_changes : (pr place : ℕ) (bs : List Basis) (left : List Fields)
    → filter_map (change_at pr) (enumerate_from place (map basis_row bs ++ left)) ≡ filter_map (change_at pr) (enumerate_from (place + length bs) left)
no_changes pr place [] left = let q : place + 0 ≡ place = omega arith in rw q refl
no_changes pr place (b ∷ bs) left = let q : place + suc (length bs) ≡ (place + 1) + length bs = omega arith in rw (basis_line pr b, no_changes pr (place + 1) bs left, q) refl

file_changes : (pr c v : ℕ) (f : Contents) → All (λ x. is_item x.item ≡ true) f.changes → ArePlaced f.bases f.changes → All (IsFit pr c) f.changes
    → changes_in pr (rows_under pr c v f) ≡ f.changes
file_changes pr c v f t p fits =
    let trailer = trailer_row (length f.changes) ∷ [] in
    let q : 2 + length f.bases ≡ length f.bases + 2 = omega arith in
    rw (
      header_other pr c v f.date,
      no_changes pr 2 f.bases (change_rows 1 f.changes ++ trailer),
      q,
      changes_told pr c (length f.bases + 2) 1 f.changes trailer p.places t fits,
      trailer_line pr (length f.changes),
    ) (append-nil f.changes)

file_date : (c v : ℕ) (f : Contents) → is_day f.date ≡ true → date_in (file_rows c v f) ≡ f.date
unfolding field_at
file_date c v f h = rw (date-back f.date h) refl

abbrev contents_under : List Fields → ℕ → Contents
contents_under rows pr = record { date = date_in rows; bases = bases_in pr rows; changes = changes_in pr rows }

pub file_contents : (c v : ℕ) (f : Contents) → IsTyped f → ArePlaced f.bases f.changes → AreAllowed c f.changes → contents_of (file_rows c v f) ≡ f
unfolding contents_of
file_contents c v f t p allowed =
    let any = list_any (λ x. not (is_entry x.item)) f.changes in
    let pr = profile_for f.changes in
    let fits = all_have c any f.changes refl allowed in
    let named : profile_named (file_rows c v f) ≡ pr =
    header_names pr c v f.date (map basis_row f.bases ++ (change_rows 1 f.changes ++ (trailer_row (length f.changes) ∷ []))) (for_from any) (for_to any) in
    ap (contents_under (file_rows c v f)) named ∙ rw (file_date c v f t.date, file_bases pr c v f t.bases fits, file_changes pr c v f t.items p fits) refl
