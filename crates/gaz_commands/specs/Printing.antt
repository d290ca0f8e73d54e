-- How a text is printed.
use Rattle.std.specs.Prelude.{◌≡◌, ℕ, Bool, true, List, Option}
use Rattle.std.specs.Io.KnownBytes.{Appends}

-- the whole text was written behind what the writer held, unless the writer failed, of which std
-- doesn't say what it wrote
abbrev pub IsPrinted : Option (List ℕ) → Option (List ℕ) → List ℕ → Bool → Type 0
IsPrinted held holds text whole = whole ≡ true → Appends held holds text
