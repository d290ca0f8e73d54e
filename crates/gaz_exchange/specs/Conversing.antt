-- A conversation: the requests of a stream, answered in turn.
use Rattle.std.specs.Prelude.{◌≡◌, ℕ, ◌<◌, ◌⊎◌, false, List}
use Rattle.std.specs.Prelude.{length, Option, Result, Ok, Err, IfErr, IsErrAnd, IsOk}
use Rattle.std.specs.List.{All}
use Rattle.std.specs.Io.KnownBytes.{Appends, Consumes, IsAtEnd}
use Rattle.gaz_keeper.specs.Keeper.{Seen}
use Rattle.gaz_keeper.specs.Received.{Received}
use Rattle.gaz_steps.specs.Answers.{AllAnswered}
use Rattle.gaz_steps.specs.Hubs.{Runs, StandsFor}
use Rattle.gaz_steps.specs.Step.{Command, Door, Response}
use Rattle.gaz_http.specs.Failing.{HasFailed, NeverFails}
use Rattle.gaz_http.specs.Sparing.{OneForEach, OneForEachUsed}
use Rattle.gaz_http.specs.declared.supply.Cause.TheVariants.{ReadFault}
use Rattle.gaz_exchange.specs.Ends.{AnswersAll, ComesTo}
use Rattle.gaz_exchange.specs.Exchanges.{Exchange, Comes, HearsDoor, RoutesStay, goes_on}
use Rattle.gaz_exchange.specs.Exchanges.{commands_of, responses_of}
use Rattle.gaz_exchange.specs.Refusals.{NoneBehindRefused}
use Rattle.gaz_exchange.specs.declared.conversation.Served.{Served}
use Rattle.gaz_exchange.specs.declared.conversation.Stopped.{Stopped}

-- what went through a reader and a writer: what the reader had before and has left, and what the
-- writer held before and holds, each where that is known
pub record Transfer : Type 0 where
  pub had : Option (List ℕ)
  pub left : Option (List ℕ)
  pub held : Option (List ℕ)
  pub holds : Option (List ℕ)

-- what went through a reader and a writer that are seen so
abbrev pub transfer : {R W : Type 0} → (R → Option (List ℕ)) → (W → Option (List ℕ))
    → R → R → W → W → Transfer
transfer remaining contents reader reader_after writer writer_after = record {
  had = remaining reader;
  left = remaining reader_after;
  held = contents writer;
  holds = contents writer_after;
}

-- each answer is read off the standing board of the files that were received by then, which are
-- these and what came first
abbrev pub SomeAnswered : Door → Received → List Command → List Response → Type 0
SomeAnswered door files commands responses =
    (all : Received) × AllAnswered door files commands responses all

-- a conversation of a hub with this door, of at most so many requests; old and new are the hub
-- before and after, as it is seen with what it remembers
pub record Conversation (door : Door) (most : ℕ) (through : Transfer) (old new : Seen)
    (result : Result Served Stopped) : Type 0 where
  pub read : List ℕ
  pub written : List ℕ
  pub exchanges : List Exchange
  pub rest : List ℕ
  pub consumed : Consumes through.had through.left read
  pub appended : Appends through.held through.holds written
  pub comes : Comes most read exchanges rest
  pub routes : RoutesStay exchanges
  pub runs : Runs door old new (commands_of exchanges) (responses_of exchanges)
  -- where the keeper stood for a partial run before, and nobody else wrote on it nor did a failure
  -- shut it: what is received is what was there and what came first, and each answer is read off
  -- the standing board of the files that were received by then
  pub answers : StandsFor door old → new.unharmed →
      AllAnswered door old.content.files (commands_of exchanges) (responses_of exchanges)
      new.content.files
  -- so it is of the files of some hub, whatever a failure shut by then
  pub answers_ever : StandsFor door old → new.trusted →
      SomeAnswered door old.content.files (commands_of exchanges) (responses_of exchanges)
  -- whatever has become of the keeper, each request is told what the door says of it
  pub at_door : All (HearsDoor door) exchanges
  pub comes_to : ComesTo most
      (record { exchanges = exchanges; rest = rest; left = through.left; written = written }) result
  pub answers_all : AnswersAll most
      (record { exchanges = exchanges; rest = rest; left = through.left; written = written }) result

-- the replies that were wholly written
abbrev pub replied : Result Served Stopped → ℕ
replied (Ok served) = served.requests
replied (Err stopped) = stopped.requests

-- no request is read for behind these exchanges: none may follow, or the writer failed in the reply
-- to the last
abbrev pub AreLast : ℕ → List Exchange → Result Served Stopped → Type 0
AreLast most exchanges result =
    (goes_on most exchanges ≡ false) ⊎ (replied result < length exchanges)

-- the reader failed
abbrev pub ReaderFailed : Result Served Stopped → Type 0
ReaderFailed result = IsErrAnd result (λ stopped. stopped.cause ≡ ReadFault)

-- a conversation with at most one read for each byte that was read, and one more, which found the
-- end or failed; before and after count the reads
pub record CountedConversation (door : Door) (most : ℕ) (through : Transfer) (before after : ℕ)
    (old new : Seen) (result : Result Served Stopped) : Type 0 where
  pub conversation : Conversation door most through old new result
  pub one_for_each : OneForEach before after conversation.read
      (IsAtEnd through.left ⊎ ReaderFailed result)
  -- and, where no request may follow, at most one for each byte of the requests
  pub none_behind : AreLast most conversation.exchanges result →
      OneForEachUsed before after conversation.read conversation.rest
  -- nor any for what stands behind a request that is refused
  pub none_behind_refused : NoneBehindRefused before after conversation.read conversation.rest

-- where a conversation stopped, the reader or the writer failed, as the cause tells, and was left
-- in this state
abbrev pub StopsByFault : {R W : Type 0} → (R → R → Type 0) → (W → W → Type 0) → R → W
    → Result Served Stopped → Type 0
StopsByFault read_failed write_failed reader writer result =
    IfErr result (λ stopped. HasFailed read_failed write_failed reader writer stopped.cause)

-- where neither the reader nor the writer can fail, no conversation stops
abbrev pub NeverStops : {R W : Type 0} → (R → R → Type 0) → (W → W → Type 0) → Type 0
NeverStops {R} {W} read_failed write_failed =
    NeverFails read_failed → NeverFails write_failed →
    (reader : R) (writer : W) (result : Result Served Stopped) →
    StopsByFault read_failed write_failed reader writer result → IsOk result
