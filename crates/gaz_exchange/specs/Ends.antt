-- How a conversation ends, or why it couldn't go on.
use Rattle.std.specs.Prelude.{◌≡◌, ◌≢◌, ⊤, ℕ, ◌+◌, ◌⊎◌, ◌==◌, true, false, if◌then◌else◌, List}
use Rattle.std.specs.Prelude.{[], ◌∷◌, ◌++◌, length, Option, Result, Ok, Err}
use Rattle.std.specs.Io.KnownBytes.{IsAtEnd}
use Rattle.gaz_http.specs.Heads.{IsOver}
use Rattle.gaz_http.specs.declared.supply.Cause.{Cause}
use Rattle.gaz_http.specs.declared.supply.Cause.TheVariants.{ReadFault, WriteFault}
use Rattle.gaz_exchange.specs.Exchanges.{Exchange, goes_on, replies}
use Rattle.gaz_exchange.specs.Refusals.{IsRefused, IsTurnedAway, IsUnfinished}
use Rattle.gaz_exchange.specs.Streams.{AreAll}
use Rattle.gaz_exchange.specs.declared.conversation.Ended.{Ended}
use Rattle.gaz_exchange.specs.declared.conversation.Ended.TheVariants.{Most, Closed, InputEnd}
use Rattle.gaz_exchange.specs.declared.fault.Fault.TheVariants.{NotReceived}
use Rattle.gaz_exchange.specs.declared.conversation.Served.{Served}
use Rattle.gaz_exchange.specs.declared.conversation.Stopped.{Stopped}

-- what passed in a conversation up to its end
pub record Passed : Type 0 where
  pub exchanges : List Exchange
  -- the bytes that were read and are none of theirs
  pub rest : List ℕ
  -- what the reader has left, where that is known
  pub left : Option (List ℕ)
  -- all that was written
  pub written : List ℕ

-- Below, most is how many requests were allowed, and count how many replies were wholly written.

-- the input ended where another request might have come
pub record EndsWithInput (most : ℕ) (passed : Passed) (count : ℕ) : Type 0 where
  pub open_yet : goes_on most passed.exchanges ≡ true
  pub over : IsOver passed.rest
  pub at_end : IsAtEnd passed.left
  pub counted : count ≡ length passed.exchanges
  pub told : passed.written ≡ replies passed.exchanges

-- no other request may follow
pub record EndsAnswered (most : ℕ) (passed : Passed) (count : ℕ) : Type 0 where
  pub done : goes_on most passed.exchanges ≡ false
  pub counted : count ≡ length passed.exchanges
  pub told : passed.written ≡ replies passed.exchanges

-- the request that follows was refused, and so the conversation ended
pub record EndsRefused (most : ℕ) (passed : Passed) (count : ℕ) : Type 0 where
  pub open_yet : goes_on most passed.exchanges ≡ true
  pub text : List ℕ
  pub turned_away : IsTurnedAway passed.rest passed.left text
  pub counted : count ≡ length passed.exchanges + 1
  pub told : passed.written ≡ replies passed.exchanges ++ text

-- the reader failed, or the writer in a flush, before the next request was whole
pub record StopsWaiting (most : ℕ) (passed : Passed) (count : ℕ) : Type 0 where
  pub open_yet : goes_on most passed.exchanges ≡ true
  pub unfinished : IsUnfinished passed.rest
  pub counted : count ≡ length passed.exchanges
  pub told : passed.written ≡ replies passed.exchanges

-- the writer failed in the reply to the last exchange: a front of it, and not all, stands behind
-- the earlier ones
pub record StopsAnswering (passed : Passed) (count : ℕ) : Type 0 where
  pub earlier : List Exchange
  pub in_hand : Exchange
  pub sent : List ℕ
  pub lost : List ℕ
  pub split : passed.exchanges ≡ earlier ++ in_hand ∷ []
  pub cut : in_hand.reply ≡ sent ++ lost
  pub part : lost ≢ []
  pub counted : count ≡ length earlier
  pub told : passed.written ≡ replies earlier ++ sent

-- the writer failed in the reply that refuses the request that follows
pub record StopsRefusing (most : ℕ) (passed : Passed) (count : ℕ) : Type 0 where
  pub open_yet : goes_on most passed.exchanges ≡ true
  pub sent : List ℕ
  pub lost : List ℕ
  pub turned_away : IsTurnedAway passed.rest passed.left (sent ++ lost)
  pub part : lost ≢ []
  pub counted : count ≡ length passed.exchanges
  pub told : passed.written ≡ replies passed.exchanges ++ sent

-- Most where so many were answered as were allowed
abbrev pub ended_after : ℕ → ℕ → Ended
ended_after count most = if count == most then Most else Closed

-- the conversation ended after the last reply, by a request or by its refusal
abbrev pub EndsByReply : ℕ → Passed → ℕ → Type 0
EndsByReply most passed count = EndsAnswered most passed count ⊎ EndsRefused most passed count

-- the conversation ended so
abbrev pub EndsAs : ℕ → Passed → ℕ → Ended → Type 0
EndsAs most passed count InputEnd = EndsWithInput most passed count
EndsAs most passed count Most = (ended_after count most ≡ Most) × EndsByReply most passed count
EndsAs most passed count Closed = (ended_after count most ≡ Closed) × EndsByReply most passed count

-- the conversation couldn't go on, for this cause; a writer that failed did so in a flush before
-- the next request was whole, in a reply, or in the flush behind the last
abbrev pub StopsAs : ℕ → Passed → ℕ → Cause → Type 0
StopsAs most passed count ReadFault = StopsWaiting most passed count
StopsAs most passed count WriteFault =
    StopsWaiting most passed count ⊎ StopsAnswering passed count
    ⊎ StopsRefusing most passed count ⊎ EndsByReply most passed count

-- what a conversation comes to behind the last of so many replies, where the writer was flushed,
-- and where it failed in that
abbrev pub FinishesAs : ℕ → ℕ → Result Served Stopped → Type 0
FinishesAs most count (Ok served) =
    served ≡ record { requests = count; ended = ended_after count most }
FinishesAs most count (Err stopped) = stopped ≡ record { requests = count; cause = WriteFault }

-- how the conversation ended
abbrev pub ComesTo : ℕ → Passed → Result Served Stopped → Type 0
ComesTo most passed (Ok served) = EndsAs most passed served.requests served.ended
ComesTo most passed (Err stopped) = StopsAs most passed stopped.requests stopped.cause

-- where a conversation ended, the exchanges are all that come in what was read, unless there was
-- no memory for the body of the next request; of one that couldn't go on nothing is said here
abbrev pub AnswersAll : ℕ → Passed → Result Served Stopped → Type 0
AnswersAll most passed (Ok served) =
    AreAll most passed.exchanges passed.rest ⊎ IsRefused passed.rest passed.left NotReceived
AnswersAll most passed (Err stopped) = ⊤
