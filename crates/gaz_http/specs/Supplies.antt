-- More bytes of a stream.
use Rattle.std.specs.Prelude.{◌≡◌, ⊤, ℕ, ◌+◌, ◌<◌, ◌≤◌, List, [], ◌++◌, length, Option}
use Rattle.std.specs.Io.KnownBytes.{Consumes, IsAtEnd}
use Rattle.gaz_http.specs.Sparing.{OneForEach}
use Rattle.gaz_http.specs.declared.supply.Cause.{Cause}
use Rattle.gaz_http.specs.declared.supply.Cause.TheVariants.{ReadFault}
use Rattle.gaz_http.specs.declared.supply.Supply.{Supply}
use Rattle.gaz_http.specs.declared.supply.Supply.TheVariants.{Some, End, Failed}

-- the reader gave some bytes, which stand behind those that were pending; they and what it has
-- left are so
abbrev pub Supplies : {R : Type 0} → (R → Option (List ℕ)) → R → R → List ℕ → List ℕ
    → (List ℕ → Option (List ℕ) → Type 0) → Type 0
Supplies remaining old new was pending AreSo =
    (bytes : List ℕ) × Consumes (remaining old) (remaining new) bytes × (pending ≡ was ++ bytes)
    × AreSo bytes (remaining new)

-- the reader gave some bytes; those that were pending with these behind them, and what it has
-- left, are so
abbrev pub Reads : {R : Type 0} → (R → Option (List ℕ)) → R → R → List ℕ
    → (List ℕ → Option (List ℕ) → Type 0) → Type 0
Reads remaining old new was AreSo =
    (bytes : List ℕ) × Consumes (remaining old) (remaining new) bytes
    × AreSo (was ++ bytes) (remaining new)

-- what came of asking for more, by the bytes that came and those that the reader has left
abbrev pub IsSupply : List ℕ → Option (List ℕ) → Supply → Type 0
IsSupply bytes left Some = 0 < length bytes
IsSupply bytes left End = (bytes ≡ []) × IsAtEnd left
IsSupply bytes left (Failed cause) = bytes ≡ []

-- how often the reader was read for more
abbrev pub IsReadForMore : ℕ → ℕ → Supply → Type 0
IsReadForMore before after Some = after ≤ before + 1
IsReadForMore before after End = after ≤ before + 1
IsReadForMore before after (Failed cause) = OneForEach before after [] (cause ≡ ReadFault)

-- where more failed to come, the cause is so
abbrev pub IfSupplyFailed : Supply → (Cause → Type 0) → Type 0
IfSupplyFailed Some IsSo = ⊤
IfSupplyFailed End IsSo = ⊤
IfSupplyFailed (Failed cause) IsSo = IsSo cause
