-- What failed.
use Rattle.std.proofs.Common.{◌≡◌, Bool, true, false, Ok, Err, refl}
use Rattle.std.specs.Prelude.{ℕ, Result, OnErr}
use Rattle.gaz_http.specs.Failing.{FailedInto, HasFailed, NeverFails, WriterFailed}
use Rattle.gaz_http.specs.declared.supply.Cause.{Cause}
use Rattle.gaz_http.specs.declared.supply.Cause.TheVariants.{ReadFault, WriteFault}
use Rattle.gaz_exchange.specs.Conversing.{NeverStops, StopsByFault}
use Rattle.gaz_exchange.specs.Ends.{FinishesAs}
use Rattle.gaz_exchange.specs.Turns.{IfStopped, turn_of}
use Rattle.gaz_exchange.specs.declared.conversation.Served.{Served}
use Rattle.gaz_exchange.specs.declared.conversation.Stopped.{Stopped as HowStopped}
use Rattle.gaz_exchange.specs.declared.turn.Turn.{Turn}
use Rattle.gaz_exchange.specs.declared.turn.Turn.TheVariants.{Answered, Closed, Over, Stopped}

-- the turn after a reply that wasn't wholly written
pub stopped_writing : {W : Type 0} (failed : W → W → Type 0) (w : W) (ends whole : Bool) (turn : Turn) → turn ≡ turn_of ends whole → (whole ≡ false → FailedInto failed w)
    → IfStopped turn (WriterFailed failed w)
stopped_writing failed w ends false turn e lost = rw e (lost refl)
stopped_writing failed w true true turn e lost = rw e tt
stopped_writing failed w false true turn e lost = rw e tt

-- where the writer failed, the reader or the writer did
pub stopped_either : {R W : Type 0} (read_failed : R → R → Type 0) (write_failed : W → W → Type 0) (r : R) (w : W) (turn : Turn) → IfStopped turn (WriterFailed write_failed w)
    → IfStopped turn (HasFailed read_failed write_failed r w)
stopped_either read_failed write_failed r w Answered lost = tt
stopped_either read_failed write_failed r w Closed lost = tt
stopped_either read_failed write_failed r w Over lost = tt
stopped_either read_failed write_failed r w (Stopped ReadFault) lost = absurd lost
stopped_either read_failed write_failed r w (Stopped WriteFault) lost = lost

-- a conversation that was finished stopped only where the writer failed in the flush
pub finish_fault : {R W : Type 0} (read_failed : R → R → Type 0) (write_failed : W → W → Type 0) (r : R) (w : W) (count most : ℕ) (result : Result Served HowStopped)
    → FinishesAs most count result → OnErr result (FailedInto write_failed w) → StopsByFault read_failed write_failed r w result
finish_fault read_failed write_failed r w count most (Ok served) is failed = tt
finish_fault read_failed write_failed r w count most (Err stopped) is failed = rw is failed

none_failed : {R W : Type 0} (read_failed : R → R → Type 0) (write_failed : W → W → Type 0) → NeverFails read_failed → NeverFails write_failed → (r : R) (w : W) (cause : Cause)
    → HasFailed read_failed write_failed r w cause → ⊥
none_failed read_failed write_failed reads writes r w ReadFault (before, failed) = reads before r failed
none_failed read_failed write_failed reads writes r w WriteFault (before, failed) = writes before w failed

pub never_stops : {R W : Type 0} (read_failed : R → R → Type 0) (write_failed : W → W → Type 0) → NeverStops read_failed write_failed
never_stops read_failed write_failed reads writes r w (Ok served) stops = refl
never_stops read_failed write_failed reads writes r w (Err stopped) stops = absurd (none_failed read_failed write_failed reads writes r w stopped.cause stops)
