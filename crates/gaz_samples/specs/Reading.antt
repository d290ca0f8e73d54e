-- What is read over any keeper, where `seen` is how it is seen.
use Rattle.std.specs.Prelude.{◌≡◌, ◌≤◌, ◌++◌, ℕ, List, Option, None, Result}
use Rattle.std.specs.Global.{Vec}
use Rattle.gaz_records.specs.declared.item.Item.{Item}
use Rattle.gaz_records.specs.declared.item.Kind.{Kind}
use Rattle.gaz_records.specs.declared.key.Key.{Key}
use Rattle.gaz_views.specs.Reading.{left_after}
use Rattle.gaz_views.specs.Words.{rest_of}
use Rattle.gaz_keeper.specs.Board.{Board, reached, view_after}
use Rattle.gaz_keeper.specs.Keeper.{Reads, Seen}
use Rattle.gaz_keeper.specs.declared.fault.ShelfFault.{ShelfFault}

-- all items of a kind
abbrev pub IsAllAt : Board → ℕ → ℕ → Kind → List Item → Type 0
IsAllAt board c volume kind items =
    volume ≤ reached board c → items ≡ rest_of (view_after board c volume) kind None

-- these items and those that are left come to what there was before and what was to be read
abbrev pub IsReadOn : Board → ℕ → ℕ → Kind → Option Key → List Item → List Item → Option Key
    → Type 0
IsReadOn board c volume kind after before items next =
    volume ≤ reached board c
    → items ++ left_after (view_after board c volume) kind next ≡ before
    ++ rest_of (view_after board c volume) kind after

abbrev pub TellsAll : {K : Type 0} → (K → Seen) → K → K → Result (Vec Item) ShelfFault → ℕ → ℕ
    → Kind → Type 0
TellsAll seen old new result c volume kind =
    Reads (seen old) (seen new) result
    (λ items. IsAllAt (seen old).content.board c volume kind items.items)

-- a page is added to these items
abbrev pub AddsPage : {K : Type 0} → (K → Seen) → K → K → Result (Option Key) ShelfFault → ℕ → ℕ
    → Kind → Option Key → Vec Item → Vec Item → Type 0
AddsPage seen old new result c volume kind after before items =
    Reads (seen old) (seen new) result
    (λ next. IsReadOn
    (seen old).content.board c volume kind after before.items items.items next)
