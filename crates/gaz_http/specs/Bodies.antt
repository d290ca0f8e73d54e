-- The body behind a head.
use Rattle.std.specs.Prelude.{◌≡◌, ⊤, ℕ, ◌<◌, List, ◌++◌, length, drop, Option}
use Rattle.std.specs.Io.KnownBytes.{IsAtEnd}
use Rattle.gaz_http.specs.Sparing.{OneForEach, OneForEachUsed}
use Rattle.gaz_http.specs.declared.body.Body.{Body}
use Rattle.gaz_http.specs.declared.body.Body.TheVariants.{Whole, Short, Memory, Failed}
use Rattle.gaz_http.specs.declared.supply.Cause.{Cause}
use Rattle.gaz_http.specs.declared.supply.Cause.TheVariants.{ReadFault}
use Rattle.gaz_http.specs.declared.supply.Supply.{Supply}
use Rattle.gaz_http.specs.declared.supply.Supply.TheVariants as supply

-- what came of a body of this size: bytes are those behind the head that were pending or read, rest
-- those that aren't used, left those that the reader has left
abbrev pub IsBody : List ℕ → ℕ → List ℕ → Option (List ℕ) → Body → Type 0
IsBody bytes size rest left (Whole body) = (bytes ≡ body.items ++ rest) × (length body.items ≡ size)
IsBody bytes size rest left Short = (length bytes < size) × IsAtEnd left
IsBody bytes size rest left Memory = 0 < size
IsBody bytes size rest left (Failed cause) = length bytes < size

-- how often the reader was read for a body of this size, by the bytes that were pending or read;
-- where there was no memory for it, never for what stands behind it
abbrev pub IsReadForBody : ℕ → ℕ → List ℕ → ℕ → List ℕ → Option (List ℕ) → Body → Type 0
IsReadForBody before after bytes size rest left (Whole body) =
    OneForEachUsed before after bytes rest
IsReadForBody before after bytes size rest left Short =
    OneForEach before after bytes (IsAtEnd left)
IsReadForBody before after bytes size rest left Memory =
    OneForEachUsed before after bytes (drop size bytes)
IsReadForBody before after bytes size rest left (Failed cause) =
    OneForEach before after bytes (cause ≡ ReadFault)

-- what came of asking for more where nothing was pending
abbrev pub IsRefill : List ℕ → Option (List ℕ) → Supply → Type 0
IsRefill pending left supply.Some = 0 < length pending
IsRefill pending left supply.End = (length pending ≡ 0) × IsAtEnd left
IsRefill pending left (supply.Failed cause) = length pending ≡ 0

-- where the reader or the writer failed within a body, the cause is so
abbrev pub IfBodyFailed : Body → (Cause → Type 0) → Type 0
IfBodyFailed (Whole body) IsSo = ⊤
IfBodyFailed Short IsSo = ⊤
IfBodyFailed Memory IsSo = ⊤
IfBodyFailed (Failed cause) IsSo = IsSo cause
