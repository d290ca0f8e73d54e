-- What a fault of a file says.
use Rattle.std.specs.Prelude.{◌≡◌, ℕ, IfErr, IfOk, List, Result}
use Rattle.gaz_changefile.specs.Reading.{Bad, Good, reading}
use Rattle.gaz_changefile.specs.declared.file.ChangeFile.{ChangeFile}
use Rattle.gaz_changefile.specs.declared.file.FileFault.{FileFault}
use Rattle.gaz_changefile.specs.declared.file.FileFault.TheVariants as fault

-- the reading is bad at this place by this rule; of want of memory nothing is said
abbrev pub IsFault : List ℕ → ℕ → ℕ → FileFault → Type 0
IsFault bytes c v (fault.Bad place rule) = reading bytes c v ≡ Bad place rule
IsFault bytes c v fault.Memory = Unit {0}

-- what was read of a text is what the text says
pub record IsReadAs (bytes : List ℕ) (c v : ℕ) (result : Result ChangeFile FileFault) : Type 0 where
  pub good : IfOk result (λ f. reading bytes c v ≡ Good f)
  pub bad : IfErr result (IsFault bytes c v)
