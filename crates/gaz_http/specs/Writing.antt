-- A text as it is written.
use Rattle.std.specs.Prelude.{◌≡◌, ◌≢◌, ℕ, Bool, true, false, List, [], ◌++◌, Option}
use Rattle.std.specs.Io.KnownBytes.{Appends}

-- the text, or only a front of it that leaves something, was written behind what the writer held
pub record IsPut (held holds : Option (List ℕ)) (text : List ℕ) (whole : Bool) : Type 0 where
  pub sent : List ℕ
  pub lost : List ℕ
  pub cut : text ≡ sent ++ lost
  pub appended : Appends held holds sent
  pub all : whole ≡ true → lost ≡ []
  pub part : whole ≡ false → lost ≢ []
