-- Views of items and of what became of numbers, by what rows there are.
use Rattle.std.proofs.Common.{◌≡◌, ◌∙◌, ◌||◌, ℕ, List, sym}
use Rattle.std.specs.FinMap as finite
use Rattle.std.specs.FinSet as set
use Rattle.gaz_records.proofs.KeyOrder.{keys_exact, keys_total}
use Rattle.gaz_records.specs.Keys.{key_cmp}
use Rattle.gaz_views.specs.View.{View, empty_view}
use Rattle.gaz_overlay.specs.Passages.{PassageRow}
use Rattle.gaz_overlay.specs.Rows.{HistoryRow, view_of_rows}
use Rattle.gaz_kept.specs.Histories.{AreSame}
use Rattle.gaz_kept.specs.Judging.{AreBornLater, ArePassedLater, StaysNext}
use Rattle.gaz_kept.specs.Kept.{AreInTurn, ArePassages}
use Rattle.gaz_kept.proofs.PassageRows.{custody_next, keys_next, no_keys_passed, nothing_passed, same_custody, same_keys, turn_of}
use Rattle.gaz_kept.proofs.Views.{nothing_born, same_rows, stays_next}

-- the same rows of items and of passages
pub same_views : (n : ℕ) (old new : List HistoryRow) (was are : List PassageRow) → AreInTurn old → AreSame old new → ArePassages n was → AreSame was are
    → (t : ℕ) → view_of_rows new are t ≡ view_of_rows old was t
same_views n old new was are apart same passages alike t =
    let items = same_rows old new apart same t in
    let keys = same_keys was are alike t in
    let custody = same_custody was are (turn_of n was passages) alike t in
    λ i. record { items = (items i).items; used = set.union (items i).used (keys i); custody = custody i }

-- a volume that changes no row
pub views_stay : StaysNext
views_stay n rows passages room through are =
    let items = stays_next n rows room through in
    let keys = keys_next n passages room are in
    let custody = custody_next n passages room are in
    λ i. record { items = (items i).items; used = set.union (items i).used (keys i); custody = custody i }

none_both : set.union (set.empty {R = key_cmp}) set.empty ≡ set.empty
none_both = set.same_set keys_total keys_exact (set.union (set.empty {R = key_cmp}) set.empty) set.empty (λ q.
    let none = set.contains-empty key_cmp q in
    set.contains-union keys_total (set.empty {R = key_cmp}) set.empty q ∙ (λ i. none i || none i) ∙ sym none)

abbrev none_used : View
none_used = record { items = empty_view.items; used = set.union empty_view.used set.empty; custody = finite.empty }

is_empty : none_used ≡ empty_view
unfolding empty_view
is_empty = λ i. record { items = finite.empty; used = none_both i; custody = finite.empty }

-- nothing before the first volume
pub nothing_at_first : (rows : List HistoryRow) (passages : List PassageRow) → AreBornLater rows → ArePassedLater passages → view_of_rows rows passages 0 ≡ empty_view
nothing_at_first rows passages later passed =
    let items = nothing_born rows later in
    let keys = no_keys_passed passages passed in
    let custody = nothing_passed passages passed in
    let first : view_of_rows rows passages 0 ≡ none_used =
    λ i. record { items = (items i).items; used = set.union (items i).used (keys i); custody = custody i } in
    first ∙ is_empty
