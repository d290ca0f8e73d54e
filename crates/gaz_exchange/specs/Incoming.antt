-- A request as it is read.
use Rattle.std.specs.Prelude.{◌≡◌, ◌⊎◌, ◌<◌, ◌≤◌, ◌++◌, ⊤, ℕ, Bool, true, false, List, length, drop}
use Rattle.std.specs.Prelude.{Option, Result, Err}
use Rattle.std.specs.Io.KnownBytes.{IsAtEnd}
use Rattle.httparse.specs.Grammar.{RequestHead}
use Rattle.gaz_http.specs.Headers.{is_closing}
use Rattle.gaz_http.specs.Heads.{IsOver}
use Rattle.gaz_http.specs.Sparing.{OneForEach, OneForEachUsed}
use Rattle.gaz_http.specs.declared.supply.Cause.{Cause}
use Rattle.gaz_http.specs.declared.supply.Cause.TheVariants.{ReadFault}
use Rattle.gaz_exchange.specs.Asking.{call_at, method_of}
use Rattle.gaz_exchange.specs.Exchanges.{BeginsWithRequest}
use Rattle.gaz_exchange.specs.Framing.{length_of}
use Rattle.gaz_exchange.specs.Refusals.{IsRefused, IsUnfinished, NoneBehindRefused}
use Rattle.gaz_exchange.specs.Targets.{target_of}
use Rattle.gaz_exchange.specs.declared.fault.Fault.{Fault}
use Rattle.gaz_exchange.specs.declared.fault.Fault.TheVariants.{BadRequest, NotReceived}
use Rattle.gaz_exchange.specs.declared.framing.Framing.{Framing}
use Rattle.gaz_exchange.specs.declared.framing.Framing.TheVariants.{Length, Refused}
use Rattle.gaz_exchange.specs.declared.calls.Routed.{Routed}
use Rattle.gaz_exchange.specs.declared.calls.Method.{Method}
use Rattle.gaz_exchange.specs.declared.request.Incoming.{Incoming}
use Rattle.gaz_exchange.specs.declared.request.Incoming.TheVariants as incoming
use Rattle.gaz_exchange.specs.declared.request.Needed.{Needed}

-- what the hub is asked at a target, where the routes were found, and else 51
abbrev pub IsCallAt : Bool → List ℕ → Method → Result Routed Fault → Type 0
IsCallAt true target method call = call ≡ call_at (target_of target) method
IsCallAt false target method call = call ≡ Err NotReceived

-- what the hub is asked by a head
abbrev pub IsCall : Bool → RequestHead → Result Routed Fault → Type 0
IsCall routed h call = IsCallAt routed h.target (method_of h.method) call

-- what the head says
pub record IsNeeded (routed : Bool) (h : RequestHead) (needed : Needed) : Type 0 where
  pub framing_is : needed.framing ≡ length_of h
  pub call_is : IsCall routed h needed.call
  pub closing_is : needed.closing ≡ is_closing h

-- why a body can't be read
abbrev pub CantRead : List ℕ → Framing → Option (List ℕ) → Fault → Type 0
CantRead after (Length size) left fault =
    ((fault ≡ BadRequest) × (length after < size) × IsAtEnd left)
    ⊎ ((fault ≡ NotReceived) × (0 < size))
CantRead after (Refused why) left fault = why ≡ fault

-- what comes next: routed where the routes were found; bytes are those that were pending or read,
-- rest those that aren't used, left those that the reader has left
abbrev pub IsIncoming : Bool → List ℕ → List ℕ → Option (List ℕ) → Incoming → Type 0
IsIncoming routed bytes rest left (incoming.Request q) =
    (h : RequestHead) × BeginsWithRequest bytes h q.body.items rest × IsCall routed h q.call
    × (q.closing ≡ is_closing h)
IsIncoming routed bytes rest left (incoming.Refused fault) = IsRefused bytes left fault
IsIncoming routed bytes rest left incoming.Over = IsOver bytes × IsAtEnd left
IsIncoming routed bytes rest left (incoming.Failed cause) = IsUnfinished bytes

-- how often the reader was read for a request, by the bytes that were pending or read
abbrev pub IsReadForRequest : ℕ → ℕ → List ℕ → List ℕ → Option (List ℕ) → Incoming → Type 0
IsReadForRequest before after bytes rest left (incoming.Request q) =
    OneForEachUsed before after bytes rest
IsReadForRequest before after bytes rest left (incoming.Refused fault) =
    OneForEach before after bytes (IsAtEnd left) × NoneBehindRefused before after bytes bytes
IsReadForRequest before after bytes rest left incoming.Over =
    OneForEach before after bytes (IsAtEnd left)
IsReadForRequest before after bytes rest left (incoming.Failed cause) =
    OneForEach before after bytes (cause ≡ ReadFault) × NoneBehindRefused before after bytes bytes

-- what comes behind a head: after are the bytes that were pending or read
abbrev pub IsBehind : List ℕ → Needed → List ℕ → Option (List ℕ) → Incoming → Type 0
IsBehind after needed rest left (incoming.Request q) =
    (needed.framing ≡ Length (length q.body.items)) × (after ≡ q.body.items ++ rest)
    × (q.call ≡ needed.call) × (q.closing ≡ needed.closing)
IsBehind after needed rest left (incoming.Refused fault) = CantRead after needed.framing left fault
IsBehind after needed rest left incoming.Over = ⊥
IsBehind after needed rest left (incoming.Failed cause) =
    (size : ℕ) × (needed.framing ≡ Length size) × (length after < size)

-- no read behind a head whose length is refused, and none behind a whole body; bytes are those
-- behind the head that were pending or read
abbrev pub IsSpared : ℕ → ℕ → List ℕ → Framing → Type 0
IsSpared before after bytes (Length size) =
    size ≤ length bytes → OneForEachUsed before after bytes (drop size bytes)
IsSpared before after bytes (Refused why) = after ≤ before

-- how often the reader was read for what comes behind a head, by the bytes pending or read there
abbrev pub IsReadBehind : ℕ → ℕ → List ℕ → Needed → List ℕ → Option (List ℕ) → Incoming → Type 0
IsReadBehind before after bytes needed rest left (incoming.Request q) =
    OneForEachUsed before after bytes rest
IsReadBehind before after bytes needed rest left (incoming.Refused fault) =
    OneForEach before after bytes (IsAtEnd left) × IsSpared before after bytes needed.framing
IsReadBehind before after bytes needed rest left incoming.Over = ⊥
IsReadBehind before after bytes needed rest left (incoming.Failed cause) =
    OneForEach before after bytes (cause ≡ ReadFault)

-- where the reader or the writer failed before the request was whole, the cause is so
abbrev pub IfRequestFailed : Incoming → (Cause → Type 0) → Type 0
IfRequestFailed (incoming.Request q) IsSo = ⊤
IfRequestFailed (incoming.Refused fault) IsSo = ⊤
IfRequestFailed incoming.Over IsSo = ⊤
IfRequestFailed (incoming.Failed cause) IsSo = IsSo cause
