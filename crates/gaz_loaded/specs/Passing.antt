-- What a keeper lists of numbers that pass between custodians.
use Rattle.std.specs.Prelude.{◌≡◌, ◌<◌, ◌⊎◌, ⊤, ℕ, List, [], ◌∷◌, Option, Some, None, Result}
use Rattle.std.specs.Global.{Vec}
use Rattle.sqlite_rules.specs.Lists.{Has}
use Rattle.gaz_keeper.specs.Keeper.{Reads, Seen}
use Rattle.gaz_keeper.specs.declared.fault.ShelfFault.{ShelfFault}
use Rattle.gaz_overlay.specs.Passages.{PassageRow}
use Rattle.gaz_loaded.specs.Telling.{last_of}
use Rattle.gaz_loaded.specs.declared.listed.Passage.{Passage}

-- what is told of a row: not until when it lasts
abbrev pub passage_of : PassageRow → Passage
passage_of p = record { uprn = p.uprn; born = p.born; custody = p.custody }

-- a row comes behind a passage that was told: of a greater number, or of the same one and born
-- later
abbrev pub ComesBehind : Option Passage → PassageRow → Type 0
ComesBehind None p = ⊤
ComesBehind (Some x) p = (x.uprn < p.uprn) ⊎ ((x.uprn ≡ p.uprn) × (x.born < p.born))

-- this one is told of the first row behind another
pub record IsNext (after : Option Passage) (all : List PassageRow) (x : Passage) : Type 0 where
  pub row : PassageRow
  pub there : Has all row
  pub is : x ≡ passage_of row
  pub first : (p : PassageRow) → Has all p → ComesBehind after p
      → (p ≡ row) ⊎ ComesBehind (Some x) p

-- each is told of the first row behind the one before it
abbrev pub AreToldInTurn : Option Passage → List PassageRow → List Passage → Type 0
AreToldInTurn after all [] = ⊤
AreToldInTurn after all (x ∷ more) = IsNext after all x × AreToldInTurn (Some x) all more

-- what comes behind one, or nothing where nothing does
pub record AreToldBehind (after : Option Passage) (all : List PassageRow) (answer : List Passage)
    : Type 0 where
  pub in_turn : AreToldInTurn after all answer
  pub none : last_of answer ≡ None → (p : PassageRow) → Has all p → ¬ ComesBehind after p

-- what is told of a custodian's numbers, and that it stays
pub record TellsPassages {K : Type 0} (seen : K → Seen) (passages : K → ℕ → List PassageRow)
    (old new : K) (result : Result (Vec Passage) ShelfFault) (c : ℕ) (after : Option Passage)
    : Type 0 where
  pub reads : Reads (seen old) (seen new) result
      (λ answer. AreToldBehind after (passages old c) answer.items)
  pub stays : (seen old).stands → (seen new).unharmed → passages new ≡ passages old
