-- What the name of a custodian may be.
use Rattle.std.specs.Prelude.{ℕ, Bool, List}
use Rattle.gaz_addressable.specs.Texts.{is_text}

-- a text of 1 to 60 characters, none of them a control character, with no space at either end
abbrev pub is_name : List ℕ → Bool
is_name text = is_text 60 text
