-- A draft with its trailer is the extract.
use Rattle.std.proofs.Common.{◌≡◌, ◌∙◌, ◌≤◌, ◌-◌, ◌+◌, ℕ, true, cond, List, [], ◌∷◌, ◌++◌, length, sym, ap, append_assoc, append-nil, arith}
use Rattle.std.specs.Prelude.{Some, None, nat_le}
use Rattle.std.proofs.lemmas.Bool.Decides.{nat_tests}
use Rattle.csv.specs.Writing.{default_writer, row_text}
use Rattle.gaz_records.specs.declared.item.Item.{Item}
use Rattle.gaz_rows.specs.Rows.{lines_of}
use Rattle.gaz_keeper.specs.Board.{Board, reached, view_after}
use Rattle.gaz_extract.specs.Drafts.{DraftValue, begun_draft, by_kind, with_items}
use Rattle.gaz_extract.specs.Extracts.{extract, extract_rows, items_of, header, records_from, trailer}
use Rattle.gaz_extract.proofs.InOrder.{in_key_order}
use Rattle.gaz_extract.proofs.Rows.{lines-append}

pub finished : (c volume : ℕ) (items : List Item) → (with_items (begun_draft c volume) items).text ++ row_text default_writer (trailer ((with_items (begun_draft c volume) items).next - 1)) ≡ lines_of (extract_rows c volume items)
unfolding lines_of
finished c volume items =
    let count : 1 + length items - 1 ≡ length items = omega arith in
    let head = row_text default_writer (header c volume) in
    let body = lines_of (records_from 1 items) in
    let foot = row_text default_writer (trailer (length items)) in
    ap (λ n. (head ++ body) ++ row_text default_writer (trailer n)) count
    ∙ append_assoc head body foot
    ∙ ap (λ l. head ++ l) (ap (λ l. body ++ l) (sym (append-nil foot)) ∙ sym (lines-append (records_from 1 items) (trailer (length items) ∷ [])))

-- what is written of a volume that is reached
pub extract_is : (B : Board) (c volume : ℕ) (d e : DraftValue) (t : List ℕ) → volume ≤ reached B c → d ≡ begun_draft c volume → e ≡ with_items d (by_kind (view_after B c volume))
    → t ≡ e.text ++ row_text default_writer (trailer (e.next - 1)) → Some t ≡ extract B c volume
extract_is B c volume d e t within begins all ends =
    let v = view_after B c volume in
    let test : nat_le volume (reached B c) ≡ true = grind (arith, nat_tests, within) in
    let whole = all ∙ ap (λ (x : DraftValue). with_items x (by_kind v)) begins ∙ ap (with_items (begun_draft c volume)) (in_key_order v) in
    let text = ends ∙ ap (λ (x : DraftValue). x.text ++ row_text default_writer (trailer (x.next - 1))) whole ∙ finished c volume (items_of v) in
    ap Some text ∙ sym (ap (λ b. cond b (Some (lines_of (extract_rows c volume (items_of v)))) None) test)
