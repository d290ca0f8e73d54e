-- Worked examples on how the program ends at words.
use Rattle.std.specs.Prelude.{◌≡◌, ◌⊎◌, ℕ, codes, List, [], ◌∷◌}
use Rattle.sqlite_disk.specs.declared.Disk as disk
use Rattle.gaz_exchange.specs.Conversing.{Transfer}
use Rattle.gaz_words.specs.WorkedWords.{ArePlaces, making}
use Rattle.gaz_words.specs.declared.command.Places.{Places}
use Rattle.gazhub.specs.Commands.{EndsByMeaning, Finishes}
use Rattle.gazhub.specs.Sites.{Deed}
use Rattle.gazhub.specs.Working.{InitComesTo}
use Rattle.gazhub.specs.declared.ending.Ending.{Ending}
use Rattle.gazhub.specs.declared.ending.Ending.TheVariants.{Memory, Usage}

module _ {S D : Type 0} (done : S → Deed D → S → Type 0) (g : disk.Ghosts D) (text : List ℕ)
    (most : ℕ) (before after : S) (through : Transfer) (ending : Ending) where
  -- where the program ends so at words, it comes to this, unless there was no memory to read them
  abbrev pub ComesTo : List (List ℕ) → Type 0 → Type 0
  ComesTo words This =
      EndsByMeaning done g text most before after through words ending → (ending ≡ Memory) ⊎ This

  pub record WorkedEndings : Type 0 where
    -- a store is made where the words say
    pub made : ComesTo making ((places : Places) × ArePlaces places
        × Finishes (InitComesTo done g places before after) through ending)
    -- a command that isn't there is a fault of usage
    pub unknown : ComesTo (codes "sumbit" ∷ []) (ending ≡ Usage)
