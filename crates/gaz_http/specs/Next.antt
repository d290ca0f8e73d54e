-- What comes next on a stream.
use Rattle.std.specs.Prelude.{◌≡◌, ⊤, ℕ, ◌<◌, ◌≤◌, ◌⊎◌, List, length, drop, Option, false}
use Rattle.std.specs.Io.KnownBytes.{IsAtEnd}
use Rattle.httparse.specs.Grammar.{RequestHead, print_request}
use Rattle.httparse.specs.Spans.{IsRequestAt, IsRequestWithin}
use Rattle.httparse.specs.declared.spans.HeaderSpan.{HeaderSpan}
use Rattle.httparse.specs.declared.spans.RequestSpans.{RequestSpans}
use Rattle.gaz_http.specs.Heads.{IsOver, NeverHead, NoHead, is_blank, most_head}
use Rattle.gaz_http.specs.Heads.{most_headers}
use Rattle.gaz_http.specs.Sparing.{OneForEach, OneForEachUsed}
use Rattle.gaz_http.specs.declared.heads.Look.{Look}
use Rattle.gaz_http.specs.declared.heads.Look.TheVariants as look
use Rattle.gaz_http.specs.declared.heads.Next.{Next}
use Rattle.gaz_http.specs.declared.heads.Next.TheVariants.{Head, Bad, Over, Failed}
use Rattle.gaz_http.specs.declared.supply.Cause.{Cause}
use Rattle.gaz_http.specs.declared.supply.Cause.TheVariants.{ReadFault}

-- the pending bytes begin with a head, which these spans cover
abbrev pub IsHeadAt : List ℕ → List HeaderSpan → RequestSpans → Type 0
IsHeadAt pending headers spans = IsRequestWithin pending headers spans
    × (h : RequestHead) × IsRequestAt pending headers spans h
    × (length (print_request h) ≤ most_head) × (length h.fields ≤ most_headers)

-- the pending bytes aren't CR and LF alone, in no more bytes than a head may have
abbrev pub IsMore : List ℕ → Type 0
IsMore pending = (is_blank pending ≡ false) ⊎ (most_head < length pending)

-- what the pending bytes begin with
abbrev pub IsLook : List ℕ → List HeaderSpan → Look → Type 0
IsLook pending headers (look.Head spans) = IsHeadAt pending headers spans
IsLook pending headers look.Open = NoHead pending × (most_head < length pending → NeverHead pending)
IsLook pending headers look.Never = NeverHead pending × IsMore pending

-- what comes next, by the bytes that were read and not used, and those that the reader has left
abbrev pub IsNext : List ℕ → Option (List ℕ) → List HeaderSpan → Next → Type 0
IsNext pending left headers (Head spans) = IsHeadAt pending headers spans
IsNext pending left headers Bad =
    (NeverHead pending ⊎ (NoHead pending × IsAtEnd left)) × IsMore pending
IsNext pending left headers Over = IsOver pending × IsAtEnd left
IsNext pending left headers (Failed cause) = NoHead pending

-- how often the reader was read for what comes next, by the bytes that are pending then
abbrev pub IsReadForHead : ℕ → ℕ → List ℕ → Option (List ℕ) → Next → Type 0
IsReadForHead before after pending left (Head spans) =
    OneForEachUsed before after pending (drop spans.len pending)
IsReadForHead before after pending left Bad = OneForEach before after pending (IsAtEnd left)
IsReadForHead before after pending left Over = OneForEach before after pending (IsAtEnd left)
IsReadForHead before after pending left (Failed cause) =
    OneForEach before after pending (cause ≡ ReadFault)

-- where the reader or the writer failed before the head's end, the cause is so
abbrev pub IfHeadFailed : Next → (Cause → Type 0) → Type 0
IfHeadFailed (Head spans) IsSo = ⊤
IfHeadFailed Bad IsSo = ⊤
IfHeadFailed Over IsSo = ⊤
IfHeadFailed (Failed cause) IsSo = IsSo cause
