-- A line part by part, as it is written.
use Rattle.std.specs.Prelude.{ℕ, List, [], ◌++◌, codes, Some, None}
use Rattle.gaz_extract.specs.Lines.{Part}

-- a part that another follows
abbrev pub before : Part → List ℕ
before None = []
before (Some part) = part ++ codes ", "

-- a part that follows another
abbrev pub after : Part → List ℕ
after None = []
after (Some part) = codes ", " ++ part
