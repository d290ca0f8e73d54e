-- A file that was written reads back.
use Rattle.std.proofs.Common.{◌≡◌, ℕ, ◌+◌, ◌≤◌, true, List, [], ◌∷◌, ◌++◌, length, map, refl, arith, ap, ◌∙◌}
use Rattle.std.specs.Prelude.{not, IsUtf8, codes}
use Rattle.std.specs.List.{All, list_any}
use Rattle.std.specs.Str.{chars, is_utf8}
use Rattle.std.proofs.lemmas.Str.{IsUtf8-from_is_utf8}
use Rattle.csv.specs.Reading.{default_config, records, strip_bom}
use Rattle.csv.specs.Writing.{fields_text, is_blank}
use Rattle.gaz_ids.specs.Limits.{last_volume}
use Rattle.gaz_rows.specs.Rows.{AllFilled, AreTextRows, AreTexts, Fields, lines_of, rows_of}
use Rattle.gaz_rows.proofs.Back.{rows-read-back}
use Rattle.gaz_rows.proofs.Utf8.{decimal-utf8, lines-utf8, rows-append}
use Rattle.gaz_fields.specs.Days.{CivilDay}
use Rattle.gaz_records.specs.Items.{is_entry, is_item, kind_of}
use Rattle.gaz_records.specs.declared.item.Kind.{Kind}
use Rattle.gaz_records.specs.declared.item.Kind.TheVariants as kind
use Rattle.gaz_records.specs.Kinds.{identifier}
use Rattle.gaz_changefile.specs.Contents.{Contents, contents_of}
use Rattle.gaz_changefile.specs.Files.{ArePlaced, IsBasis, IsTyped}
use Rattle.gaz_changefile.specs.Laws.{FilesReadBack}
use Rattle.gaz_changefile.specs.Reading.{Good, by_faults, faults}
use Rattle.gaz_changefile.specs.Writing.{action_text, basis_row, change_rows, file_rows, file_text, header_row, profile_for, trailer_row}
use Rattle.gaz_changefile.specs.declared.action.Action.{Action}
use Rattle.gaz_changefile.specs.declared.action.Action.TheVariants.{Insert, Update, Delete}
use Rattle.gaz_changefile.specs.declared.change.Basis.{Basis}
use Rattle.gaz_changefile.specs.declared.change.Change.{Change}
use Rattle.gaz_changefile.proofs.Runs.{read_text}
use Rattle.gaz_records.proofs.Texts.{date_utf8, item_are}
use Rattle.gaz_changefile.proofs.RecordsBack.{for_to, head_all, tail_all}
use Rattle.gaz_changefile.proofs.RulesKept.{file_faults}
use Rattle.gaz_changefile.proofs.ContentsBack.{file_contents}

-- ---- the bytes

bases_filled : (bs : List Basis) (left : List Fields) → AllFilled left → AllFilled (map basis_row bs ++ left)
bases_filled [] left h = h
bases_filled (b ∷ bs) left h = (omega arith, bases_filled bs left h)

changes_filled : (n : ℕ) (xs : List Change) (left : List Fields) → AllFilled left → AllFilled (change_rows n xs ++ left)
changes_filled n [] left h = h
changes_filled n (x ∷ xs) left h = (omega arith, changes_filled (n + 1) xs left h)

file_filled : (c v : ℕ) (f : Contents) → AllFilled (file_rows c v f)
file_filled c v f = (omega arith, bases_filled f.bases _ (changes_filled 1 f.changes _ (omega arith, tt)))

no_mark : (pr c v : ℕ) (d : CivilDay) (rows : List Fields) → strip_bom (lines_of (header_row pr c v d ∷ rows)) ≡ lines_of (header_row pr c v d ∷ rows)
unfolding strip_bom lines_of fields_text is_blank
no_mark pr c v d rows = refl

file_records : (c v : ℕ) (f : Contents) → rows_of (file_text c v f) ≡ file_rows c v f
file_records c v f = ap (records default_config) (no_mark (profile_for f.changes) c v f.date _) ∙ rows-read-back (file_rows c v f) (file_filled c v f)

bases_are : (bs : List Basis) → All IsBasis bs → AreTextRows (map basis_row bs)
unfolding is_utf8 chars lib.Utf8.encode
bases_are [] t = tt
bases_are (b ∷ bs) t =
    let h = head_all IsBasis b bs t in
    ((IsUtf8-from_is_utf8 (codes "90") refl, (decimal-utf8 b.custodian (omega (arith, h.code_to)), (decimal-utf8 b.volume (omega (arith, h.volume_to)), tt))), bases_are bs (tail_all IsBasis b bs t))

identifier_utf8 : (k : Kind) → IsUtf8 (identifier k)
unfolding is_utf8 chars lib.Utf8.encode
identifier_utf8 kind.Street = IsUtf8-from_is_utf8 (identifier kind.Street) refl
identifier_utf8 kind.Descriptor = IsUtf8-from_is_utf8 (identifier kind.Descriptor) refl
identifier_utf8 kind.Blpu = IsUtf8-from_is_utf8 (identifier kind.Blpu) refl
identifier_utf8 kind.Xref = IsUtf8-from_is_utf8 (identifier kind.Xref) refl
identifier_utf8 kind.Lpi = IsUtf8-from_is_utf8 (identifier kind.Lpi) refl
identifier_utf8 kind.Release = IsUtf8-from_is_utf8 (identifier kind.Release) refl
identifier_utf8 kind.Adopt = IsUtf8-from_is_utf8 (identifier kind.Adopt) refl

action_utf8 : (a : Action) → IsUtf8 (action_text a)
unfolding is_utf8 chars lib.Utf8.encode
action_utf8 Insert = IsUtf8-from_is_utf8 (action_text Insert) refl
action_utf8 Update = IsUtf8-from_is_utf8 (action_text Update) refl
action_utf8 Delete = IsUtf8-from_is_utf8 (action_text Delete) refl

changes_are : (n : ℕ) (xs : List Change) → n + length xs ≤ 5001 → All (λ x. is_item x.item ≡ true) xs → AreTextRows (change_rows n xs)
changes_are n [] few t = tt
changes_are n (x ∷ xs) few t = (
  (identifier_utf8 (kind_of x.item), (action_utf8 x.action, (decimal-utf8 n (omega arith), item_are x.item (head_all (λ x. is_item x.item ≡ true) x xs t)))),
  changes_are (n + 1) xs (omega arith) (tail_all (λ x. is_item x.item ≡ true) x xs t),
)

file_utf8 : (c v : ℕ) (f : Contents) → c ≤ 9999 → v ≤ last_volume → IsTyped f → ArePlaced f.bases f.changes → IsUtf8 (file_text c v f)
unfolding is_utf8 chars lib.Utf8.encode
file_utf8 c v f c2 v2 t p =
    let few : length f.changes ≤ 5000 = p.few in
    let to : profile_for f.changes ≤ 2 = for_to (list_any (λ x. not (is_entry x.item)) f.changes) in
    let header : AreTexts (header_row (profile_for f.changes) c v f.date) = (IsUtf8-from_is_utf8 (codes "10") refl, (decimal-utf8 (profile_for f.changes) (omega (arith, to)), (decimal-utf8 c (omega arith), (decimal-utf8 v (omega arith), (date_utf8 f.date t.date, tt))))) in
    let trailer : AreTextRows (trailer_row (length f.changes) ∷ []) = ((IsUtf8-from_is_utf8 (codes "99") refl, (decimal-utf8 (length f.changes) (omega arith), tt)), tt) in
    lines-utf8 (file_rows c v f)
    (header, rows-append (map basis_row f.bases) _ (bases_are f.bases t.bases) (rows-append (change_rows 1 f.changes) _ (changes_are 1 f.changes (omega arith) t.items) trailer))

-- a file reads back from its bytes
pub file-back : FilesReadBack
file-back c v f c1 c2 v1 v2 t b p allowed =
    let by_rows = λ (rows : List Fields). by_faults (contents_of rows) (faults c v rows) in
    read_text (file_text c v f) c v (file_utf8 c v f c2 v2 t p)
    ∙ ap by_rows (file_records c v f)
    ∙ ap (by_faults (contents_of (file_rows c v f))) (file_faults c v f c1 c2 v1 v2 t b p allowed)
    ∙ ap Good (file_contents c v f t p allowed)
