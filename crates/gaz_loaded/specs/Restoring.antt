-- Lives, and what became of numbers, that are brought to hand.
use Rattle.std.specs.Prelude.{◌≡◌, ◌≢◌, ◌≤◌, ◌⊎◌, ℕ, List, [], ◌∷◌}
use Rattle.sqlite_rules.specs.Lists.{Has}
use Rattle.gaz_views.specs.View.{empty_view}
use Rattle.gaz_keeper.specs.Board.{Board, reached, verdict_on, view_after}
use Rattle.gaz_keeper.specs.Keeper.{Content, Seen}
use Rattle.gaz_overlay.specs.Passages.{PassageRow, with_passages}
use Rattle.gaz_shelf.specs.Restoring.{IsPassageRestored, IsRestored}
use Rattle.gaz_loaded.specs.declared.listed.Life.{Life}
use Rattle.gaz_loaded.specs.declared.listed.Passage.{Passage}

-- these lives are restored on a board, one after another
abbrev pub AreRestored : Board → List Life → Board → Type 0
AreRestored old [] new = new ≡ old
AreRestored old (x ∷ more) new =
    (mid : Board) × IsRestored old mid x.code x.born x.gone x.item × AreRestored mid more new

-- nothing is in any view
abbrev pub IsBare : Board → Type 0
IsBare board = (c volume : ℕ) → view_after board c volume ≡ empty_view

-- ---- what became of numbers

-- this became of a custodian's numbers, put back on a board one after another
abbrev pub ArePutBack : ℕ → Board → List Passage → Board → Type 0
ArePutBack c old [] new = new ≡ old
ArePutBack c old (x ∷ more) new =
    (mid : Board) × IsPassageRestored old mid c x.born x.uprn x.custody × ArePutBack c mid more new

-- a custodian's views have what became of these numbers, and nothing else
abbrev pub HasPassages : List PassageRow → Board → ℕ → Type 0
HasPassages passages board c = (volume : ℕ) → volume ≤ reached board c
    → view_after board c volume ≡ with_passages empty_view passages volume

-- nothing has become of any yet, or all has
abbrev pub HasNoneOrAll : List PassageRow → Board → ℕ → Type 0
HasNoneOrAll passages board c =
    ((volume : ℕ) → view_after board c volume ≡ empty_view) ⊎ HasPassages passages board c

-- what is judged stays, and a custodian's views have what became of its numbers
pub record BringsItsPassages (c : ℕ) (passages : ℕ → List PassageRow) (lower_old lower_new : Seen)
    (old new : Content) : Type 0 where
  pub files : new.files ≡ old.files
  pub as_many : (d : ℕ) → reached new.board d ≡ reached old.board d
  pub verdicts : (d volume : ℕ) → verdict_on new.board d volume ≡ verdict_on old.board d volume
  pub others : (d : ℕ) → d ≢ c → new.board d ≡ old.board d
  pub views : lower_old.stands → lower_new.unharmed
      → reached old.board c ≡ reached lower_old.content.board c
      → HasNoneOrAll (passages c) old.board c → HasPassages (passages c) new.board c

-- what is judged stays, and the views of each of these custodians have what became of its numbers
pub record BringsPassages (codes : List ℕ) (passages : ℕ → List PassageRow)
    (lower_old lower_new : Seen) (old new : Content) : Type 0 where
  pub files : new.files ≡ old.files
  pub as_many : (d : ℕ) → reached new.board d ≡ reached old.board d
  pub verdicts : (d volume : ℕ) → verdict_on new.board d volume ≡ verdict_on old.board d volume
  pub others : (d : ℕ) → ¬ Has codes d → new.board d ≡ old.board d
  pub views : lower_old.stands → lower_new.unharmed
      → ((c : ℕ) → reached old.board c ≡ reached lower_old.content.board c) → IsBare old.board
      → (c : ℕ) → Has codes c → HasPassages (passages c) new.board c

-- ---- lives

-- what is judged stays, and views become those of a keeper, where they have what became of numbers
pub record BringsLives (passages : ℕ → List PassageRow) (lower_old lower_new : Seen)
    (old new : Content) : Type 0 where
  pub files : new.files ≡ old.files
  pub as_many : (c : ℕ) → reached new.board c ≡ reached old.board c
  pub verdicts : (c volume : ℕ) → verdict_on new.board c volume ≡ verdict_on old.board c volume
  pub views : lower_old.stands → lower_new.unharmed
      → ((c : ℕ) → reached old.board c ≡ reached lower_old.content.board c)
      → ((c : ℕ) → HasPassages (passages c) old.board c)
      → (c volume : ℕ) → volume ≤ reached new.board c
      → view_after new.board c volume ≡ view_after lower_old.content.board c volume
