-- One turn of a conversation.
use Rattle.std.proofs.Common.{◌≡◌, ◌≢◌, ℕ, Bool, true, false, List, [], ◌++◌, Option, Some, None, Result, Ok, Err, inl, inr, refl, ap, sym, ◌∙◌, append-nil, subst}
use Rattle.std.specs.Prelude.{◌||◌}
use Rattle.std.specs.Io.KnownBytes.{Consumes, IsAtEnd, Keeps}
use Rattle.httparse.specs.Grammar.{RequestHead}
use Rattle.gaz_keeper.specs.Keeper.{Seen}
use Rattle.gaz_steps.specs.Step.{Command, Door, Response}
use Rattle.gaz_steps.proofs.HubRuns.{runs_none, runs_one}
use Rattle.gaz_http.specs.Headers.{is_closing}
use Rattle.gaz_http.specs.Heads.{IsOver}
use Rattle.gaz_http.specs.Sparing.{OneForEach, OneForEachUsed}
use Rattle.gaz_http.specs.declared.supply.Cause.{Cause}
use Rattle.gaz_http.specs.declared.supply.Cause.TheVariants.{ReadFault, WriteFault}
use Rattle.gaz_exchange.specs.Asking.{asked, call_at, command_of, method_of, with_body}
use Rattle.gaz_exchange.specs.Conversing.{Transfer}
use Rattle.gaz_exchange.specs.Exchanges.{BeginsWithRequest, Exchange, IsAnswered, IsReplyTo}
use Rattle.gaz_exchange.specs.Incoming.{IsCall}
use Rattle.gaz_exchange.specs.Refusals.{IsRefused, IsUnfinished, NoneBehindRefused}
use Rattle.gaz_exchange.specs.Replies.{IsReplyText, reply_text, reply_to}
use Rattle.gaz_exchange.specs.Targets.{target_of}
use Rattle.gaz_exchange.specs.Turns.{Answers, Asks, Exchanges, IsTurn, Refuses, Rests, Stage, TurnsOut, Waits, turn_of}
use Rattle.gaz_exchange.specs.declared.turn.Turn.{Turn}
use Rattle.gaz_exchange.specs.declared.turn.Turn.TheVariants.{Over, Stopped}
use Rattle.gaz_exchange.specs.declared.fault.Fault.{Fault}
use Rattle.gaz_exchange.specs.declared.fault.Fault.TheVariants.{NotReceived}
use Rattle.gaz_exchange.specs.declared.reply.Reply.{Reply}
use Rattle.gaz_exchange.specs.declared.reply.Reply.TheVariants.{Refused}
use Rattle.gaz_exchange.specs.declared.request.Request.{Request}
use Rattle.gaz_exchange.specs.declared.calls.Routed.{Routed}
use Rattle.gaz_exchange.proofs.ExchangeFacts.{door_heard, door_unheard}
use Rattle.gaz_exchange.proofs.StreamFacts.{kept_appends, kept_appends_none}

-- a refusal's text takes no memory
pub refusal_text : (fault : Fault) (is_last : Bool) (text : List ℕ) → IsReplyText (Refused fault) is_last text → text ≡ reply_text (Refused fault) is_last
refusal_text fault is_last text (inl e) = e
refusal_text fault is_last text (inr none) = let wrong : false ≡ true = none.took in cc

-- what isn't for the hub leaves it as it is
pub not_asked : (d : Door) (body : List ℕ) (old : Seen) (called : Result Routed Fault) (fault : Fault) → called ≡ Err fault → Asks d called body old old (Refused fault)
not_asked d body old called fault is = subst (λ (r : Result Routed Fault). Asks d r body old old (Refused fault)) (sym is) (runs_none d old, refl)

-- the exchange where the hub wasn't asked
abbrev unasked_exchange : RequestHead → List ℕ → Bool → List ℕ → Exchange
unasked_exchange h body routed text = record { head = h; body = body; routed = routed; response = None; reply = text }

module _ (h : RequestHead) (body : List ℕ) where
  asked_with : (called : Result Routed Fault) → called ≡ call_at (target_of h.target) (method_of h.method) → asked h body ≡ with_body body called
  unfolding asked
  asked_with called e = ap (with_body body) (sym e)

  unasked_answer : (routed : Bool) (fault : Fault) (is_last : Bool) (text : List ℕ) → IsCall routed h (Err fault) → text ≡ reply_text (Refused fault) is_last
      → IsAnswered routed (unasked_exchange h body routed text) is_last
  unasked_answer true fault is_last text call told =
      subst (λ (r : Result Command Fault). IsReplyTo r None is_last text) (sym (asked_with (Err fault) call)) told
  unasked_answer false fault is_last text call told =
      let same : fault ≡ NotReceived = cc call in
      record { unasked = refl; told = rw same at told }

  -- the exchange where it was
  abbrev asked_exchange : Response → List ℕ → Exchange
  asked_exchange response text = record { head = h; body = body; routed = true; response = Some response; reply = text }

  asked_answer : (command : Command) (response : Response) (is_last : Bool) (text : List ℕ) → asked h body ≡ Ok command → IsReplyText (reply_to response) is_last text
      → IsAnswered true (asked_exchange response text) is_last
  asked_answer command response is_last text e told = subst (λ (r : Result Command Fault). IsReplyTo r (Some response) is_last text) (sym e) told

  -- what asks anything is asked only where the routes were found
  call_found : (routed : Bool) (call : Routed) → IsCall routed h (Ok call) → (routed ≡ true) × (asked h body ≡ Ok (command_of body call))
  call_found true call e = (refl, asked_with (Ok call) e)
  call_found false call e = absurd (cc e)

-- what passed through a reader and a writer
abbrev pub passing : (had left held holds : Option (List ℕ)) → Transfer
passing had left held holds = record { had = had; left = left; held = held; holds = holds }

-- where a conversation stands
abbrev pub standing : Bool → ℕ → List ℕ → Seen → Stage
standing routed reads pending hub = record { routed = routed; reads = reads; pending = pending; hub = hub }

module _ (d : Door) where
  -- what an answered request comes to
  pub record IsOut (h : RequestHead) (bytes rest text : List ℕ) (is_last routed : Bool) (old new : Seen) : Type 0 where
    pub made : Exchange
    pub of_head : made.head ≡ h
    pub of_text : made.reply ≡ text
    pub exchanges : Exchanges d is_last routed bytes made rest old new

  module _ (h : RequestHead) (bytes body rest text : List ℕ) (closing is_last routed : Bool) (old new : Seen) (reply : Reply)
      (begins : BeginsWithRequest bytes h body rest) (same : closing ≡ is_closing h) (told : IsReplyText reply (closing || is_last) text) where
    pub exchange_out : (called : Result Routed Fault) → IsCall routed h called → Asks d called body old new reply → IsOut h bytes rest text is_last routed old new
    exchange_out (Ok call) is a =
        let found = call_found h body routed call is in
        let made : Exchange = record { head = h; body = body; routed = true; response = Some a.0; reply = text } in
        let answer : IsReplyText (reply_to a.0) (closing || is_last) text = rw a.3 at told in
        record {
          made = made;
          of_head = refl;
          of_text = refl;
          exchanges = record {
            routed_is = sym found.0;
            ends = closing || is_last;
            ends_is = ap (λ b. b || is_last) same;
            exchanged = record { request = begins; answered = asked_answer h body (command_of body call) a.0 (closing || is_last) text found.1 answer };
            runs = rw found.1 (runs_one d old new (command_of body call) a.0 a.1);
            at_door = door_heard d made (command_of body call) a.0 found.1 refl a.2;
          };
        }
    exchange_out (Err fault) is a =
        record {
          made = unasked_exchange h body routed text;
          of_head = refl;
          of_text = refl;
          exchanges = record {
            routed_is = refl;
            ends = closing || is_last;
            ends_is = ap (λ b. b || is_last) same;
            exchanged = record { request = begins; answered = unasked_answer h body routed fault (closing || is_last) text is (refusal_text fault (closing || is_last) text (rw a.1 at told)) };
            runs = a.0;
            at_door = door_unheard d (unasked_exchange h body routed text) refl;
          };
        }

  -- the turn after a reply to a request
  module _ (h : RequestHead) (bytes rest text : List ℕ) (is_last routed : Bool) (old new : Seen) (left : Option (List ℕ)) (o : IsOut h bytes rest text is_last routed old new)
      (before after : ℕ) (counted : OneForEachUsed before after bytes rest) where
    pub answer_turn : (sent lost : List ℕ) (ends whole : Bool) → ends ≡ (is_closing h || is_last) → text ≡ sent ++ lost → (whole ≡ true → lost ≡ []) → (whole ≡ false → lost ≢ [])
        → TurnsOut d is_last routed before after bytes rest left old new sent (turn_of ends whole)
    answer_turn sent lost true false e cut all part = inr (lost, part refl, inl (o.made, o.exchanges, o.of_text ∙ cut, counted))
    answer_turn sent lost false false e cut all part = inr (lost, part refl, inl (o.made, o.exchanges, o.of_text ∙ cut, counted))
    answer_turn sent lost true true e cut all part =
        inl (o.made, o.exchanges, sym (o.of_text ∙ cut ∙ ap (λ l. sent ++ l) (all refl) ∙ append-nil sent), ap (λ x. is_closing x || is_last) o.of_head ∙ sym e, counted)
    answer_turn sent lost false true e cut all part =
        (o.made, o.exchanges, sym (o.of_text ∙ cut ∙ ap (λ l. sent ++ l) (all refl) ∙ append-nil sent), ap (λ x. is_closing x || is_last) o.of_head ∙ sym e, counted)

  -- the turn after a refusal
  pub refuse_turn : (is_last routed : Bool) (before after : ℕ) (bytes rest : List ℕ) (left : Option (List ℕ)) (old new : Seen) (fault : Fault) (text sent lost : List ℕ) (whole : Bool)
      → IsRefused bytes left fault → text ≡ reply_text (Refused fault) true → text ≡ sent ++ lost → (whole ≡ true → lost ≡ []) → (whole ≡ false → lost ≢ []) → Rests d old new
      → OneForEach before after bytes (IsAtEnd left) → NoneBehindRefused before after bytes bytes
      → TurnsOut d is_last routed before after bytes rest left old new sent (turn_of true whole)
  refuse_turn is_last routed before after bytes rest left old new fault text sent lost false why told cut all part same counted spared =
      inr (lost, part refl, inr (record { fault = fault; why = why; told = rw cut at told }, same, counted, spared))
  refuse_turn is_last routed before after bytes rest left old new fault text sent lost true why told cut all part same counted spared =
      inr (record { fault = fault; why = why; told = rw (cut ∙ ap (λ l. sent ++ l) (all refl) ∙ append-nil sent) at told }, same, counted, spared)

  -- the turn of a request that came whole
  pub turn_of_answer : (is_last was routed : Bool) (before after : ℕ) (pending read bytes rest : List ℕ) (had left held mid holds : Option (List ℕ)) (old new : Seen) (q : Request) (h : RequestHead) (turn : Turn)
      → (was ≡ true → routed ≡ true) → Consumes had left read → Keeps held mid → bytes ≡ pending ++ read → BeginsWithRequest bytes h q.body.items rest → IsCall routed h q.call → q.closing ≡ is_closing h
      → OneForEachUsed before after bytes rest → Answers d mid holds old new q is_last turn → IsTurn d is_last (passing had left held holds) (standing was before pending old) (standing routed after rest new) turn
  turn_of_answer is_last was routed before after pending read bytes rest had left held mid holds old new q h turn stay eaten kept all begins call closing counted a =
      let put = a.sent.put in
      let o = exchange_out h bytes q.body.items rest a.sent.text q.closing is_last routed old new a.reply begins closing a.sent.told q.call call a.asked in
      let out = answer_turn h bytes rest a.sent.text is_last routed old new left o before after counted put.sent put.lost (q.closing || is_last) a.whole (ap (λ b. b || is_last) closing) put.cut put.all put.part in
      record { read = read; written = put.sent; consumed = eaten; appended = kept_appends held mid holds put.sent kept put.appended; stay = stay; out = rw (a.turn_is, ← all) out }

  -- the turn of what is refused
  pub turn_of_refusal : (is_last was routed : Bool) (before after : ℕ) (pending read bytes rest : List ℕ) (had left held mid holds : Option (List ℕ)) (old : Seen) (fault : Fault) (turn : Turn)
      → (was ≡ true → routed ≡ true) → Consumes had left read → Keeps held mid → bytes ≡ pending ++ read → IsRefused bytes left fault
      → OneForEach before after bytes (IsAtEnd left) × NoneBehindRefused before after bytes bytes → Refuses mid holds fault turn
      → IsTurn d is_last (passing had left held holds) (standing was before pending old) (standing routed after rest old) turn
  turn_of_refusal is_last was routed before after pending read bytes rest had left held mid holds old fault turn stay eaten kept all why counted a =
      let put = a.sent.put in
      let out = refuse_turn is_last routed before after bytes rest left old old fault a.sent.text put.sent put.lost a.whole why (refusal_text fault true a.sent.text a.sent.told) put.cut put.all put.part (runs_none d old) counted.0 counted.1 in
      record { read = read; written = put.sent; consumed = eaten; appended = kept_appends held mid holds put.sent kept put.appended; stay = stay; out = rw (a.turn_is, ← all) out }

  waits_out : (is_last routed : Bool) (before after : ℕ) (bytes rest : List ℕ) (left : Option (List ℕ)) (old new : Seen) (cause : Cause) → Waits d before after bytes old new [] cause
      → TurnsOut d is_last routed before after bytes rest left old new [] (Stopped cause)
  waits_out is_last routed before after bytes rest left old new ReadFault w = w
  waits_out is_last routed before after bytes rest left old new WriteFault w = inl w

  -- the turn where the reader or the writer fails before a request is whole
  pub turn_of_failure : (is_last was routed : Bool) (before after : ℕ) (pending read rest : List ℕ) (had left held mid : Option (List ℕ)) (old : Seen) (cause : Cause)
      → (was ≡ true → routed ≡ true) → Consumes had left read → Keeps held mid → IsUnfinished (pending ++ read)
      → OneForEach before after (pending ++ read) (cause ≡ ReadFault) × NoneBehindRefused before after (pending ++ read) (pending ++ read)
      → IsTurn d is_last (passing had left held mid) (standing was before pending old) (standing routed after rest old) (Stopped cause)
  turn_of_failure is_last was routed before after pending read rest had left held mid old cause stay eaten kept short counted =
      let out = waits_out is_last routed before after (pending ++ read) rest left old old cause (short, runs_none d old, refl, counted.0, counted.1) in
      record { read = read; written = []; consumed = eaten; appended = kept_appends_none held mid kept; stay = stay; out = out }

  -- the turn at the end
  pub turn_of_end : (is_last was routed : Bool) (before after : ℕ) (pending read rest : List ℕ) (had left held mid : Option (List ℕ)) (old : Seen)
      → (was ≡ true → routed ≡ true) → Consumes had left read → Keeps held mid → IsOver (pending ++ read) → IsAtEnd left
      → OneForEach before after (pending ++ read) (IsAtEnd left) → IsTurn d is_last (passing had left held mid) (standing was before pending old) (standing routed after rest old) Over
  turn_of_end is_last was routed before after pending read rest had left held mid old stay eaten kept over at_end counted =
      record { read = read; written = []; consumed = eaten; appended = kept_appends_none held mid kept; stay = stay; out = (over, at_end, runs_none d old, refl, counted) }

-- a turn at one door is a turn at the same door by another name
pub turn_at : (d e : Door) (is_last : Bool) (through : Transfer) (old new : Stage) (turn : Turn) → d ≡ e → IsTurn d is_last through old new turn → IsTurn e is_last through old new turn
turn_at d e is_last through old new turn same t = subst (λ (x : Door). IsTurn x is_last through old new turn) same t
