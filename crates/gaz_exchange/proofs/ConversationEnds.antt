-- How a conversation ends, and that its last flush leaves what was told.
use Rattle.std.proofs.Common.{◌≡◌, ℕ, Bool, true, false, List, Option, Result, Ok, Err, inl, inr, refl}
use Rattle.std.specs.Prelude.{◌==◌, if◌then◌else◌}
use Rattle.std.specs.Io.KnownBytes.{Keeps}
use Rattle.std.proofs.KnownBytes.{Appends-kept}
use Rattle.gaz_keeper.specs.Keeper.{Seen}
use Rattle.gaz_steps.specs.Answers.{AllAnswered}
use Rattle.gaz_steps.specs.Hubs.{Runs, StandsFor, state_of}
use Rattle.gaz_steps.specs.Step.{Command, Door, Response}
use Rattle.gaz_steps.proofs.Answers.{every_answer_holds}
use Rattle.gaz_http.specs.declared.supply.Cause.TheVariants.{WriteFault}
use Rattle.gaz_exchange.specs.declared.conversation.Served.{Served}
use Rattle.gaz_exchange.specs.declared.conversation.Stopped.{Stopped}
use Rattle.gaz_exchange.specs.Conversing.{CountedConversation, SomeAnswered, replied}
use Rattle.gaz_exchange.specs.Ends.{AnswersAll, ComesTo, EndsAs, EndsByReply, FinishesAs, Passed, ended_after}
use Rattle.gaz_exchange.specs.Exchanges.{Exchange}
use Rattle.gaz_exchange.specs.declared.conversation.Ended.{Ended}
use Rattle.gaz_exchange.specs.declared.conversation.Ended.TheVariants as ended

no_input_end : (b : Bool) → (if b then ended.Most else ended.Closed) ≡ ended.InputEnd → ⊥
no_input_end true e = cc e
no_input_end false e = cc e

-- begun and ended count the reads
abbrev pub Converses : Door → ℕ → ℕ → ℕ → Option (List ℕ) → Option (List ℕ) → Option (List ℕ) → Option (List ℕ) → Seen → Seen → Result Served Stopped → Type 0
Converses d most begun ended had left held holds old new result = CountedConversation d most (record { had = had; left = left; held = held; holds = holds }) begun ended old new result

abbrev pub passed_in : List Exchange → List ℕ → Option (List ℕ) → List ℕ → Passed
passed_in es rest left written = record { exchanges = es; rest = rest; left = left; written = written }

pub ends_by : (most : ℕ) (passed : Passed) (n : ℕ) (how : Ended) → ended_after n most ≡ how → EndsByReply most passed n → EndsAs most passed n how
ends_by most passed n ended.Most e w = (e, w)
ends_by most passed n ended.Closed e w = (e, w)
ends_by most passed n ended.InputEnd e w = absurd (no_input_end (n == most) e)

-- what the answers of a run are read off
pub answers_off : (d : Door) (old new : Seen) (commands : List Command) (responses : List Response) → Runs d old new commands responses
    → StandsFor d old → new.unharmed → AllAnswered d old.content.files commands responses new.content.files
answers_off d old new commands responses r was fine =
    every_answer_holds d (state_of old.content) (state_of new.content) commands responses was.1.partial (r.run was fine)

-- and whatever a failure shut
pub ever_off : (d : Door) (old new : Seen) (commands : List Command) (responses : List Response) → Runs d old new commands responses
    → StandsFor d old → new.trusted → SomeAnswered d old.content.files commands responses
ever_off d old new commands responses r was t =
    let reached = r.reaches was t in
    (reached.0.received, every_answer_holds d (state_of old.content) reached.0 commands responses was.1.partial reached.1)

module _ (d : Door) where
  -- behind the last reply the writer was flushed, or failed in that
  module _ (most n begun reads : ℕ) (had left held holds after : Option (List ℕ)) (old new : Seen) (kept : Keeps holds after)
      (c : Converses d most begun reads had left held holds old new (Ok (record { requests = n; ended = ended_after n most }))) where
    by_reply : (passed : Passed) (is_most : Bool) → EndsAs most passed n (if is_most then ended.Most else ended.Closed) → EndsByReply most passed n
    by_reply passed true ends = ends.1
    by_reply passed false ends = ends.1

    flushed : (result : Result Served Stopped) → ComesTo most (passed_in c.conversation.exchanges c.conversation.rest left c.conversation.written) result
        → AnswersAll most (passed_in c.conversation.exchanges c.conversation.rest left c.conversation.written) result → replied result ≡ n
        → Converses d most begun reads had left held after old new result
    flushed result comes_to answers_all same = record {
      conversation = record {
        read = c.conversation.read;
        written = c.conversation.written;
        exchanges = c.conversation.exchanges;
        rest = c.conversation.rest;
        consumed = c.conversation.consumed;
        appended = Appends-kept held holds after c.conversation.written c.conversation.appended kept;
        comes = c.conversation.comes;
        routes = c.conversation.routes;
        runs = c.conversation.runs;
        answers = c.conversation.answers;
        answers_ever = c.conversation.answers_ever;
        at_door = c.conversation.at_door;
        comes_to = comes_to;
        answers_all = answers_all;
      };
      one_for_each = elim c.one_for_each [
        | inl each ↦ inl each
        | inr last ↦ elim last.1 [ inl at_end ↦ inr (last.0, inl at_end) | inr failed ↦ absurd failed ]
      ];
      none_behind = λ last. c.none_behind (rw same at last);
      none_behind_refused = c.none_behind_refused;
    }

    pub finishes : (result : Result Served Stopped) → FinishesAs most n result → Converses d most begun reads had left held after old new result
    finishes (Ok served) e = rw e (flushed (Ok (record { requests = n; ended = ended_after n most })) c.conversation.comes_to c.conversation.answers_all refl)
    finishes (Err stopped) e =
        rw e (flushed (Err (record { requests = n; cause = WriteFault })) (inr (inr (inr (by_reply _ (n == most) c.conversation.comes_to)))) tt refl)
