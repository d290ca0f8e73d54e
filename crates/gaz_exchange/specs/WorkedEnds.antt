-- Worked examples on how a conversation ends.
use Rattle.std.specs.Prelude.{ℕ, List, [], ◌∷◌, Some, None, Option, Ok, Err, codes, take}
use Rattle.std.specs.Prelude.{Result}
use Rattle.gaz_http.specs.declared.supply.Cause.{Cause}
use Rattle.gaz_http.specs.declared.supply.Cause.TheVariants.{ReadFault, WriteFault}
use Rattle.gaz_exchange.specs.Ends.{AnswersAll, ComesTo, Passed}
use Rattle.gaz_exchange.specs.WorkedStreams.{lost, lost_bytes}
use Rattle.gaz_exchange.specs.declared.conversation.Ended.{Ended}
use Rattle.gaz_exchange.specs.declared.conversation.Ended.TheVariants.{Most, Closed, InputEnd}
use Rattle.gaz_exchange.specs.declared.conversation.Served.{Served}
use Rattle.gaz_exchange.specs.declared.conversation.Stopped.{Stopped}

-- what passed where these bytes stand behind one request, and all of its reply was written
abbrev pub answered : List ℕ → Option (List ℕ) → Passed
answered rest left = record {
  exchanges = lost ∷ [];
  rest = rest;
  left = left;
  written = lost.reply;
}

-- what passed where ten bytes of the reply to the only request were written
abbrev pub broken_off : Passed
broken_off = record {
  exchanges = lost ∷ [];
  rest = [];
  left = None;
  written = take 10 lost.reply;
}

-- nothing came
abbrev pub nothing : Passed
nothing = record { exchanges = []; rest = []; left = None; written = [] }

-- after so many replies
abbrev pub served : ℕ → Ended → Result Served Stopped
served count ended = Ok (record { requests = count; ended = ended })

abbrev pub stopped : ℕ → Cause → Result Served Stopped
stopped count cause = Err (record { requests = count; cause = cause })

-- how a conversation ends
pub record WorkedEndings : Type 0 where
  -- one request was allowed and answered
  pub at_most : ComesTo 1 (answered [] None) (served 1 Most)
  pub not_closed : ComesTo 1 (answered [] None) (served 1 Closed) → ⊥
  pub not_uncounted : ComesTo 1 (answered [] None) (served 0 Most) → ⊥
  -- two were allowed, and the input ended
  pub at_end : ComesTo 2 (answered [] (Some [])) (served 1 InputEnd)
  -- but not where the reader has more
  pub not_before_the_end : ComesTo 2 (answered [] (Some (codes "G"))) (served 1 InputEnd) → ⊥

-- how it stops
pub record WorkedStops : Type 0 where
  -- the writer failed within the reply, which doesn't count
  pub in_reply : ComesTo 2 broken_off (stopped 0 WriteFault)
  pub not_counted : ComesTo 2 broken_off (stopped 1 WriteFault) → ⊥
  pub not_by_the_reader : ComesTo 2 broken_off (stopped 0 ReadFault) → ⊥
  -- it failed behind the reply, which counts
  pub behind_reply : ComesTo 1 (answered [] None) (stopped 1 WriteFault)
  pub not_left_out : ComesTo 1 (answered [] None) (stopped 0 WriteFault) → ⊥
  -- the reader failed before a request came: that it did no such clause says
  pub unread : ComesTo 2 nothing (stopped 0 ReadFault)
  pub not_over : ComesTo 2 nothing (stopped 1 ReadFault) → ⊥

-- what a conversation that ended has answered
pub record WorkedAll : Type 0 where
  pub last : AnswersAll 1 (answered lost_bytes None) (served 1 Most)
  -- it doesn't leave a whole request behind one that isn't the last
  pub not_one_left : AnswersAll 2 (answered lost_bytes None) (served 1 InputEnd) → ⊥

pub record WorkedEnds : Type 0 where
  pub endings : WorkedEndings
  pub stops : WorkedStops
  pub all : WorkedAll
