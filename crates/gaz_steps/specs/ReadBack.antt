-- What is read back of the views on a board.
use Rattle.std.specs.Prelude.{◌≡◌, ℕ, List, Some, true}
use Rattle.std.specs.FinMap as map
use Rattle.gaz_records.specs.Items.{is_item}
use Rattle.gaz_records.specs.declared.item.Item.{Item}
use Rattle.gaz_records.specs.declared.key.Key.{Key}
use Rattle.gaz_register.specs.Registers.{IsRegister, Owners, RegisterValue, blocks_of}
use Rattle.gaz_views.specs.View.{View}
use Rattle.gaz_keeper.specs.Board.{Board, view_after}
use Rattle.gaz_keeper.specs.Received.{Received}
use Rattle.gaz_extract.specs.Extracts.{extract}
use Rattle.gaz_extract.specs.Laws.{GivesBack}
use Rattle.gaz_steps.specs.Standing.{IsPartial}

-- each item that stands in a view is such as the table of fields allows
abbrev pub HasAllowed : View → Type 0
HasAllowed v = (k : Key) (i : Item) → map.get v.items k ≡ Some i → is_item i ≡ true

-- each item of each view of a partial board is such as the table of fields allows
abbrev pub AllAllowed : Type 0
AllAllowed = (register : Owners) (files : Received) (board : Board)
    → IsPartial register files board → (c volume : ℕ) → HasAllowed (view_after board c volume)

-- an extract of a partial board of a register gives back the view of which it is
abbrev pub AllGivenBack : Type 0
AllGivenBack = (register : RegisterValue) (files : Received) (board : Board)
    → IsRegister register → IsPartial (blocks_of register) files board
    → (c volume : ℕ) (text : List ℕ) → extract board c volume ≡ Some text
    → GivesBack text (view_after board c volume)

-- the views on a partial board hold nothing that can't be read back, and each extract gives its
-- view back
pub record BoardsReadBack : Type 0 where
  pub items : AllAllowed
  pub extracts : AllGivenBack
