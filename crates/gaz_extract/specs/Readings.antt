-- What calls that only read a keeper tell, one after another, where `seen` is how it is seen.
use Rattle.std.specs.Prelude.{◌≤◌, ℕ, Result, IfOk}
use Rattle.gaz_keeper.specs.Board.{Board, last_view, reached, view_after}
use Rattle.gaz_keeper.specs.Keeper.{Counts, Keeps, Seen}
use Rattle.gaz_keeper.specs.declared.fault.ShelfFault.{ShelfFault}
use Rattle.gaz_views.specs.View.{View}

-- calls that read: the answer is right, and the content is as it was
pub record Looks {T : Type 0} (old new : Seen) (result : Result T ShelfFault)
    (IsRight : T → Type 0) : Type 0 where
  pub keeps : Keeps old new
  pub right : old.stands → new.unharmed → IfOk result IsRight
  pub counts : Counts old new result

-- the answer is right of the board before
abbrev pub LooksAtBoard : {K T : Type 0} → (K → Seen) → K → K → Result T ShelfFault
    → (Board → T → Type 0) → Type 0
LooksAtBoard seen old new result IsRight =
    Looks (seen old) (seen new) result (λ x. IsRight (seen old).content.board x)

-- the answer is right of a custodian's last view
abbrev pub LooksAtLast : {K T : Type 0} → (K → Seen) → K → K → Result T ShelfFault
    → ℕ → (View → T → Type 0) → Type 0
LooksAtLast seen old new result c IsRight =
    LooksAtBoard seen old new result (λ board x. IsRight (last_view board c) x)

-- the answer is right of a custodian's view after a volume, where that is reached
abbrev pub LooksAfter : {K T : Type 0} → (K → Seen) → K → K → Result T ShelfFault
    → ℕ → ℕ → (View → T → Type 0) → Type 0
LooksAfter seen old new result c volume IsRight =
    LooksAtBoard seen old new result
    (λ board x. volume ≤ reached board c → IsRight (view_after board c volume) x)
