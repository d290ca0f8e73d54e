-- A keeper in memory that is filled with what another keeps.
use Rattle.std.specs.Prelude.{◌≡◌, ◌≤◌, ℕ, List, IsSome}
use Rattle.std.specs.FinMap as map
use Rattle.sqlite_rules.specs.Lists.{Has}
use Rattle.gaz_keeper.specs.Board.{reached}
use Rattle.gaz_keeper.specs.Keeper.{Content, Seen, after_stop}
use Rattle.gaz_shelf.specs.Mem.{content_in}
use Rattle.gaz_shelf.specs.declared.mem_shelf.MemShelf.{MemShelf}

-- all that was received and judged is of these custodians, in volumes from 1 on
pub record IsOfThese (codes : List ℕ) (k : Content) : Type 0 where
  pub known : (c v : ℕ) → IsSome (map.get k.files (c, v)) → Has codes c
  pub volumes : (c v : ℕ) → IsSome (map.get k.files (c, v)) → 1 ≤ v
  pub judged : (c : ℕ) → ¬ Has codes c → reached k.board c ≡ 0

-- where it stood for what is of these, all of it is at hand
abbrev pub IsLoaded : List ℕ → Seen → Seen → MemShelf → Type 0
IsLoaded codes old new shelf = old.stands → new.unharmed → IsOfThese codes old.content
    → content_in shelf ≡ after_stop old.content
