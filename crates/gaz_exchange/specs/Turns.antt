-- One turn of a conversation.
use Rattle.std.specs.Prelude.{◌≡◌, ◌≢◌, ◌⊎◌, ◌||◌, ⊤, ℕ, Bool, true, false, List, [], ◌∷◌, ◌++◌}
use Rattle.std.specs.Prelude.{Option, Result, Ok, Err}
use Rattle.std.specs.Io.KnownBytes.{Appends, Consumes, IsAtEnd}
use Rattle.gaz_keeper.specs.Keeper.{Seen}
use Rattle.gaz_steps.specs.Hubs.{IsToldAtDoor, Runs, Steps}
use Rattle.gaz_steps.specs.Step.{Door, Response}
use Rattle.gaz_http.specs.Headers.{is_closing}
use Rattle.gaz_http.specs.Heads.{IsOver}
use Rattle.gaz_http.specs.Sparing.{OneForEach, OneForEachUsed}
use Rattle.gaz_http.specs.declared.supply.Cause.{Cause}
use Rattle.gaz_http.specs.declared.supply.Cause.TheVariants.{ReadFault, WriteFault}
use Rattle.gaz_exchange.specs.Asking.{command_of}
use Rattle.gaz_exchange.specs.Conversing.{Transfer}
use Rattle.gaz_exchange.specs.Exchanges.{Exchange, HearsDoor, IsExchanged, commands_of}
use Rattle.gaz_exchange.specs.Exchanges.{responses_of}
use Rattle.gaz_exchange.specs.Refusals.{IsTurnedAway, IsUnfinished, NoneBehindRefused}
use Rattle.gaz_exchange.specs.Replies.{reply_to}
use Rattle.gaz_exchange.specs.Sending.{IsSent}
use Rattle.gaz_exchange.specs.declared.turn.Turn.{Turn}
use Rattle.gaz_exchange.specs.declared.turn.Turn.TheVariants.{Answered, Closed, Over}
use Rattle.gaz_exchange.specs.declared.turn.Turn.TheVariants.{Stopped}
use Rattle.gaz_exchange.specs.declared.fault.Fault.{Fault}
use Rattle.gaz_exchange.specs.declared.reply.Reply.{Reply}
use Rattle.gaz_exchange.specs.declared.reply.Reply.TheVariants.{Refused}
use Rattle.gaz_exchange.specs.declared.request.Intake.{Intake}
use Rattle.gaz_exchange.specs.declared.request.Request.{Request}
use Rattle.gaz_exchange.specs.declared.calls.Routed.{Routed}

-- the hub isn't asked, and what its keeper stands for stays
abbrev pub Rests : Door → Seen → Seen → Type 0
Rests door old new = Runs door old new [] []

-- the hub is asked by the call, or rests
abbrev pub Asks : Door → Result Routed Fault → List ℕ → Seen → Seen → Reply → Type 0
Asks door (Ok call) body old new reply =
    (response : Response) × Steps door old new (command_of body call) response
    × IsToldAtDoor door (command_of body call) response × (reply ≡ reply_to response)
Asks door (Err fault) body old new reply = Rests door old new × (reply ≡ Refused fault)

-- the hub is asked by a request
abbrev pub IsAsked : Door → Request → Seen → Seen → Reply → Type 0
IsAsked door q old new reply = Asks door q.call q.body.items old new reply

-- the turn after a reply was written, whole or not
abbrev pub turn_of : Bool → Bool → Turn
turn_of ends false = Stopped WriteFault
turn_of true true = Closed
turn_of false true = Answered

-- where the conversation can't go on after a turn, the cause is so
abbrev pub IfStopped : Turn → (Cause → Type 0) → Type 0
IfStopped Answered IsSo = ⊤
IfStopped Closed IsSo = ⊤
IfStopped Over IsSo = ⊤
IfStopped (Stopped cause) IsSo = IsSo cause

-- what the hub said to a request is written
pub record Answers (door : Door) (held holds : Option (List ℕ)) (old new : Seen) (q : Request)
    (is_last : Bool) (turn : Turn) : Type 0 where
  pub reply : Reply
  pub whole : Bool
  pub asked : IsAsked door q old new reply
  pub sent : IsSent held holds reply (q.closing || is_last) whole
  pub turn_is : turn ≡ turn_of (q.closing || is_last) whole

-- a refusal is written
pub record Refuses (held holds : Option (List ℕ)) (fault : Fault) (turn : Turn) : Type 0 where
  pub whole : Bool
  pub sent : IsSent held holds (Refused fault) true whole
  pub turn_is : turn ≡ turn_of true whole

-- the request at the front of the bytes is answered; routed where the routes were found
pub record Exchanges (door : Door) (is_last routed : Bool) (bytes : List ℕ) (e : Exchange)
    (rest : List ℕ) (old new : Seen) : Type 0 where
  pub routed_is : e.routed ≡ routed
  pub ends : Bool
  pub ends_is : ends ≡ (is_closing e.head || is_last)
  pub exchanged : IsExchanged bytes e rest ends
  pub runs : Runs door old new (commands_of (e ∷ [])) (responses_of (e ∷ []))
  pub at_door : HearsDoor door e

-- Below, before and after count the reads.

-- the request isn't whole yet
abbrev pub Waits : Door → ℕ → ℕ → List ℕ → Seen → Seen → List ℕ → Cause → Type 0
Waits door before after bytes old new written cause =
    IsUnfinished bytes × Rests door old new × (written ≡ [])
    × OneForEach before after bytes (cause ≡ ReadFault) × NoneBehindRefused before after bytes bytes

-- the request at the front of the bytes is refused, and the hub isn't asked
abbrev pub TurnsAway : Door → ℕ → ℕ → List ℕ → Option (List ℕ) → Seen → Seen → List ℕ → Type 0
TurnsAway door before after bytes left old new text =
    IsTurnedAway bytes left text × Rests door old new × OneForEach before after bytes (IsAtEnd left)
    × NoneBehindRefused before after bytes bytes

-- the request at the front of the bytes was answered by this text; `ends` says whether no other may
-- follow
abbrev pub AnswersOne : Door → Bool → Bool → ℕ → ℕ → List ℕ → List ℕ → Seen → Seen → List ℕ → Bool
    → Type 0
AnswersOne door is_last routed before after bytes rest old new text ends =
    (e : Exchange) × Exchanges door is_last routed bytes e rest old new × (text ≡ e.reply)
    × ((is_closing e.head || is_last) ≡ ends) × OneForEachUsed before after bytes rest

-- the writer failed in a reply or a refusal, of which something is lost
abbrev pub BreaksOff : Door → Bool → Bool → ℕ → ℕ → List ℕ → List ℕ → Option (List ℕ) → Seen → Seen
    → List ℕ → Type 0
BreaksOff door is_last routed before after bytes rest left old new written =
    (lost : List ℕ) × (lost ≢ [])
    × (((e : Exchange) × Exchanges door is_last routed bytes e rest old new
    × (e.reply ≡ written ++ lost) × OneForEachUsed before after bytes rest)
    ⊎ TurnsAway door before after bytes left old new (written ++ lost))

-- how a turn turned out
abbrev pub TurnsOut : Door → Bool → Bool → ℕ → ℕ → List ℕ → List ℕ → Option (List ℕ) → Seen
    → Seen → List ℕ → Turn → Type 0
TurnsOut door is_last routed before after bytes rest left old new written Answered =
    AnswersOne door is_last routed before after bytes rest old new written false
TurnsOut door is_last routed before after bytes rest left old new written Closed =
    AnswersOne door is_last routed before after bytes rest old new written true
    ⊎ TurnsAway door before after bytes left old new written
TurnsOut door is_last routed before after bytes rest left old new written Over =
    IsOver bytes × IsAtEnd left × Rests door old new × (written ≡ [])
    × OneForEach before after bytes (IsAtEnd left)
TurnsOut door is_last routed before after bytes rest left old new written (Stopped ReadFault) =
    Waits door before after bytes old new written ReadFault
TurnsOut door is_last routed before after bytes rest left old new written (Stopped WriteFault) =
    Waits door before after bytes old new written WriteFault
    ⊎ BreaksOff door is_last routed before after bytes rest left old new written

-- where a conversation stands between two turns: whether the routes were found, how often the
-- reader was read, the bytes that are pending, and the hub as it is seen
pub record Stage : Type 1 where
  pub routed : Bool
  pub reads : ℕ
  pub pending : List ℕ
  pub hub : Seen

-- the same of a reader, an intake and a hub that are seen so
abbrev pub stage : {R : Type 0} → (R → ℕ) → R → Intake → Seen → Stage
stage reads reader intake hub = record {
  routed = intake.routes;
  reads = reads reader;
  pending = intake.inlet;
  hub = hub;
}

-- one turn at a hub with this door
pub record IsTurn (door : Door) (is_last : Bool) (through : Transfer) (old new : Stage)
    (turn : Turn) : Type 0 where
  pub read : List ℕ
  pub written : List ℕ
  pub consumed : Consumes through.had through.left read
  pub appended : Appends through.held through.holds written
  pub stay : old.routed ≡ true → new.routed ≡ true
  pub out : TurnsOut door is_last new.routed old.reads new.reads (old.pending ++ read) new.pending
      through.left old.hub new.hub written turn
