-- The worked examples on the requests of a stream.
use Rattle.std.proofs.Common.{◌≡◌, ℕ, ◌<◌, true, false, List, [], ◌∷◌, ◌++◌, length, Some, None, Ok, Err, inl, inr, refl, ap, sym, ◌∙◌, arith, codes, length-append}
use Rattle.std.specs.List.{list_all}
use Rattle.std.specs.Fmt.{digits}
use Rattle.std.proofs.lemmas.List.Sums.{AllPass-from_list_all}
use Rattle.std.proofs.lemmas.List.Elements.{All-cons, All-nil}
use Rattle.std.specs.Option.{option_map}
use Rattle.std.specs.Prelude.{All}
use Rattle.httparse.specs.Grammar.{Field, IsField, IsRequestHead, RequestHead, is_token_byte, is_uri_byte, is_value_byte, print_request}
use Rattle.httparse.proofs.GrammarLemmas.{request_unique}
use Rattle.httparse.proofs.OnLiterals.{httparse_on_literals}
use Rattle.json.proofs.Printed.Utf8.{IsUtf8-are_ascii, are_ascii}
use Rattle.gaz_ids.specs.Numbers.{read_id}
use Rattle.gaz_steps.specs.Hubs.{IsToldAtDoor, door_of}
use Rattle.gaz_steps.specs.Step.{Pose, Replied}
use Rattle.gaz_hub.specs.WorkedHubs.{upper_and_lower}
use Rattle.gaz_steps.specs.declared.question.Question.TheVariants.{Ask}
use Rattle.gaz_steps.specs.declared.refusal.DoorRefusal.TheVariants.{UnknownCustodian}
use Rattle.gaz_steps.specs.declared.refusal.Refusal.TheVariants as refusal
use Rattle.gaz_http.specs.Headers.{is_closing}
use Rattle.gaz_http.specs.Heads.{BeginsWith}
use Rattle.gaz_http.specs.WorkedClosings.{head, header}
use Rattle.gaz_exchange.specs.Asking.{asked}
use Rattle.gaz_exchange.specs.Exchanges.{BeginsWithRequest, Comes, Exchange, HearsDoor, IsExchanged, RoutesStay}
use Rattle.gaz_exchange.specs.Framing.{length_of}
use Rattle.gaz_exchange.specs.Refusals.{HasHead, cut_body}
use Rattle.gaz_exchange.specs.Replies.{message, reply_text}
use Rattle.gaz_exchange.specs.Streams.{NoRequest}
use Rattle.gaz_exchange.specs.Targets.{target_of}
use Rattle.gaz_exchange.specs.WorkedStreams.{WorkedClose, WorkedCut, WorkedDoor, WorkedStreams, WorkedThree, asked_for, asking_bytes, closing, closing_bytes, cut_bytes, lost, lost_bytes, posted, posting_bytes, turned_away}
use Rattle.gaz_exchange.specs.declared.framing.Framing.TheVariants.{Length}
use Rattle.gaz_exchange.proofs.ExchangeFacts.{door_heard, door_unheard}
use Rattle.gaz_exchange.proofs.StreamLaws.{one_request}

-- a head of these parts is one
pub is_head : (method target : List ℕ) (fields : List Field) → 0 < length method → list_all is_token_byte method ≡ true → 0 < length target → list_all is_uri_byte target ≡ true
    → are_ascii target ≡ true → All IsField fields → IsRequestHead (head method target fields)
is_head method target fields some letters more visible ascii lines = record {
  method = (some, AllPass-from_list_all is_token_byte method letters);
  target = (more, AllPass-from_list_all is_uri_byte target visible);
  target_text = IsUtf8-are_ascii target ascii;
  minor = omega arith;
  fields = lines;
}

pub is_line : (name value : List ℕ) → 0 < length name → list_all is_token_byte name ≡ true → list_all is_value_byte (32 ∷ value) ≡ true → All IsField (header name value ∷ [])
is_line name value some letters visible =
    let line : IsField (header name value) = record { name = (some, AllPass-from_list_all is_token_byte name letters); raw = AllPass-from_list_all is_value_byte (32 ∷ value) visible } in
    All-cons IsField (header name value) [] line (All-nil IsField)

-- ---- the heads

pub posted_head : (rest : List ℕ) → BeginsWith (posting_bytes ++ rest) posted.head (codes "abc" ++ rest)
unfolding httparse_on_literals
posted_head rest =
    let size : length (print_request posted.head) ≡ 63 = refl in
    let line = is_line (codes "Content-Length") (codes "3") (omega arith) refl refl in
    let is = is_head (codes "POST") (codes "/custodians/1001/volumes/1") (header (codes "Content-Length") (codes "3") ∷ []) (omega arith) refl (omega arith) refl refl line in
    record { reads = (is, refl); short = omega (arith, size); few = omega arith }

cut_head : BeginsWith cut_bytes posted.head (codes "ab")
unfolding httparse_on_literals
cut_head =
    let whole = posted_head [] in
    record { reads = (whole.reads.0, refl); short = whole.short; few = whole.few }

asked_head : (rest : List ℕ) → BeginsWith (asking_bytes ++ rest) asked_for.head rest
unfolding httparse_on_literals
asked_head rest =
    let size : length (print_request asked_for.head) ≡ 43 = refl in
    let is = is_head (codes "GET") (codes "/custodians/1001/volumes/2") [] (omega arith) refl (omega arith) refl refl (All-nil IsField) in
    record { reads = (is, refl); short = omega (arith, size); few = omega arith }

pub lost_head : (rest : List ℕ) → BeginsWith (lost_bytes ++ rest) lost.head rest
unfolding httparse_on_literals
lost_head rest =
    let size : length (print_request lost.head) ≡ 25 = refl in
    let is = is_head (codes "GET") (codes "/nowhere") [] (omega arith) refl (omega arith) refl refl (All-nil IsField) in
    record { reads = (is, refl); short = omega (arith, size); few = omega arith }

closing_head : (rest : List ℕ) → BeginsWith (closing_bytes ++ rest) closing.head rest
unfolding httparse_on_literals
closing_head rest =
    let size : length (print_request closing.head) ≡ 44 = refl in
    let line = is_line (codes "Connection") (codes "close") (omega arith) refl refl in
    let is = is_head (codes "GET") (codes "/nowhere") (header (codes "Connection") (codes "close") ∷ []) (omega arith) refl (omega arith) refl refl line in
    record { reads = (is, refl); short = omega (arith, size); few = omega arith }

-- ---- the requests

pub posted_framed : length_of posted.head ≡ Length 3
unfolding length_of httparse_on_literals
posted_framed = refl

pub posted_request : (rest : List ℕ) → BeginsWithRequest (posting_bytes ++ rest) posted.head posted.body rest
posted_request rest = record { after = codes "abc" ++ rest; head = posted_head rest; framed = posted_framed; whole = refl }

asked_request : (rest : List ℕ) → BeginsWithRequest (asking_bytes ++ rest) asked_for.head [] rest
unfolding length_of httparse_on_literals
asked_request rest = record { after = rest; head = asked_head rest; framed = refl; whole = refl }

pub lost_request : (rest : List ℕ) → BeginsWithRequest (lost_bytes ++ rest) lost.head [] rest
unfolding length_of httparse_on_literals
lost_request rest = record { after = rest; head = lost_head rest; framed = refl; whole = refl }

closing_request : (rest : List ℕ) → BeginsWithRequest (closing_bytes ++ rest) closing.head [] rest
unfolding length_of httparse_on_literals
closing_request rest = record { after = rest; head = closing_head rest; framed = refl; whole = refl }

-- ---- the exchanges

posted_exchanged : (rest : List ℕ) → IsExchanged (posting_bytes ++ rest) posted rest false
unfolding asked target_of read_id reply_text message digits
posted_exchanged rest = record { request = posted_request rest; answered = inl refl }

asked_exchanged : (rest : List ℕ) → IsExchanged (asking_bytes ++ rest) asked_for rest false
unfolding asked target_of read_id reply_text message digits
asked_exchanged rest = record { request = asked_request rest; answered = inl refl }

lost_exchanged : (rest : List ℕ) → IsExchanged (lost_bytes ++ rest) lost rest false
unfolding asked target_of reply_text message digits
lost_exchanged rest = record { request = lost_request rest; answered = refl }

closing_exchanged : (rest : List ℕ) → IsExchanged (closing_bytes ++ rest) closing rest true
unfolding asked target_of reply_text message digits
closing_exchanged rest = record { request = closing_request rest; answered = refl }

closing_ends : is_closing closing.head ≡ true
unfolding is_closing httparse_on_literals
closing_ends = refl

-- ---- the streams

three_come : Comes 4 (posting_bytes ++ (asking_bytes ++ lost_bytes)) (posted ∷ asked_for ∷ lost ∷ []) []
unfolding Comes is_closing httparse_on_literals
three_come =
    let third : Comes 2 lost_bytes (lost ∷ []) [] = (omega arith, [], lost_exchanged [], λ ends. refl, refl) in
    let second : Comes 3 (asking_bytes ++ lost_bytes) (asked_for ∷ lost ∷ []) [] = (omega arith, lost_bytes, asked_exchanged lost_bytes, λ ends. cc ends, third) in
    (omega arith, asking_bytes ++ lost_bytes, posted_exchanged (asking_bytes ++ lost_bytes), λ ends. cc ends, second)

three_stay : RoutesStay (posted ∷ asked_for ∷ lost ∷ [])
three_stay = record { without = []; having = posted ∷ asked_for ∷ lost ∷ []; split = refl; missed = refl; found = refl }

another : (rest : List ℕ) → Comes 4 posting_bytes (asked_for ∷ []) rest → ⊥
unfolding Comes
another rest c =
    let same = one_request posting_bytes asked_for.head posted.head [] posted.body c.1 [] c.2.request (posted_request []) in
    let lengths : 3 ≡ 4 = ap (λ (h : RequestHead). length h.method) same.0 in
    omega (arith, lengths)

out_of_turn : (rest : List ℕ) → Comes 4 (posting_bytes ++ (asking_bytes ++ lost_bytes)) (posted ∷ lost ∷ []) rest → ⊥
unfolding Comes
out_of_turn rest c =
    let behind = asking_bytes ++ lost_bytes in
    let first = one_request (posting_bytes ++ behind) posted.head posted.head posted.body posted.body c.1 behind c.2.request (posted_request behind) in
    let second : BeginsWithRequest behind lost.head [] c.4.1 = rw first.2 at c.4.2.request in
    let same = one_request behind lost.head asked_for.head [] [] c.4.1 lost_bytes second (asked_request lost_bytes) in
    let lengths : 8 ≡ 26 = ap (λ (h : RequestHead). length h.target) same.0 in
    omega (arith, lengths)

on_three : WorkedThree
unfolding is_closing asked target_of read_id httparse_on_literals
on_three = record {
  comes = three_come;
  open_yet = refl;
  routes = three_stay;
  commands = refl;
  responses = refl;
  told = refl;
  never_another = another;
  never_out_of_turn = out_of_turn;
}

pub cut_is : HasHead cut_bytes 3 (codes "ab")
cut_is = record { head = posted.head; begins = cut_head; framed = posted_framed }

cut_never_whole : NoRequest cut_bytes
cut_never_whole h body rest b =
    let same = request_unique cut_bytes posted.head h (codes "ab") b.after cut_head.reads b.head.reads in
    let size : Length 3 ≡ Length (length body) = sym posted_framed ∙ ap length_of same.0 ∙ b.framed in
    let three : 3 ≡ length body = cc size in
    let short : 2 ≡ length (body ++ rest) = ap length (same.1 ∙ b.whole) in
    omega (arith, three, short, length-append body rest)

on_cut : WorkedCut
unfolding Comes is_closing httparse_on_literals
on_cut = record {
  comes = (omega arith, cut_bytes, posted_exchanged cut_bytes, λ ends. refl, refl);
  refused = cut_body 3 (codes "ab") cut_is (omega arith) refl;
  unfinished = inr (3, codes "ab", cut_is, omega arith);
  never_whole = cut_never_whole;
}

more_after_close : (e f : Exchange) (rest : List ℕ) → Comes 4 (closing_bytes ++ posting_bytes) (e ∷ f ∷ []) rest → ⊥
unfolding Comes
more_after_close e f rest c =
    let same = one_request (closing_bytes ++ posting_bytes) e.head closing.head e.body [] c.1 posting_bytes c.2.request (closing_request posting_bytes) in
    let ends : is_closing e.head ≡ true = ap is_closing same.0 ∙ closing_ends in
    let none : f ∷ [] ≡ [] = c.3 (rw ends refl) in
    let lengths : 1 ≡ 0 = ap length none in
    omega (arith, lengths)

open_for_close : Comes 4 (closing_bytes ++ posting_bytes) (lost ∷ []) posting_bytes → ⊥
unfolding Comes
open_for_close c =
    let same = one_request (closing_bytes ++ posting_bytes) lost.head closing.head [] [] c.1 posting_bytes c.2.request (closing_request posting_bytes) in
    let lengths : 0 ≡ 1 = ap (λ (h : RequestHead). length h.fields) same.0 in
    omega (arith, lengths)

on_close : WorkedClose
unfolding Comes is_closing httparse_on_literals
on_close = record {
  comes = (omega arith, posting_bytes, closing_exchanged posting_bytes, λ ends. refl, refl);
  ends = refl;
  never_more = more_after_close;
  never_open = open_for_close;
}

-- ---- at the door

asks_volume : asked asked_for.head asked_for.body ≡ Ok (Pose (Ask 1001 2))
unfolding asked target_of read_id httparse_on_literals
asks_volume = refl

told_known : IsToldAtDoor (door_of upper_and_lower) (Pose (Ask 1001 2)) (Replied (Ask 1001 2) (Ok None))
told_known = record {
  early = λ why e. let no : None ≡ Some why = e in absurd (cc no);
  late = λ why e. let no : None ≡ Some why = e in absurd (cc no);
  only = λ why e. let no : None ≡ Some (refusal.Door why) = e in absurd (cc no);
}

told_unknown : IsToldAtDoor (door_of []) (Pose (Ask 1001 2)) (Replied (Ask 1001 2) (Err (refusal.Door UnknownCustodian)))
told_unknown = record {
  early = λ why e. ap (option_map refusal.Door) e;
  late = λ why e. inl (ap (option_map refusal.Door) e);
  only = λ why e. let same : UnknownCustodian ≡ why = cc e in ap Some same;
}

known_let_in : HearsDoor (door_of []) asked_for → ⊥
known_let_in h =
    let told = h (Pose (Ask 1001 2)) (Replied (Ask 1001 2) (Ok None)) asks_volume refl in
    let no : None ≡ Some (refusal.Door UnknownCustodian) = told.early UnknownCustodian refl in absurd (cc no)

known_refused : HearsDoor (door_of upper_and_lower) turned_away → ⊥
known_refused h =
    let told = h (Pose (Ask 1001 2)) (Replied (Ask 1001 2) (Err (refusal.Door UnknownCustodian))) asks_volume refl in
    let no : None ≡ Some UnknownCustodian = told.only UnknownCustodian refl in absurd (cc no)

on_door : WorkedDoor
on_door = record {
  let_in = door_heard (door_of upper_and_lower) asked_for (Pose (Ask 1001 2)) (Replied (Ask 1001 2) (Ok None)) asks_volume refl told_known;
  refused = door_heard (door_of []) turned_away (Pose (Ask 1001 2)) (Replied (Ask 1001 2) (Err (refusal.Door UnknownCustodian))) asks_volume refl told_unknown;
  never_let_in = known_let_in;
  never_refused = known_refused;
  unasked = λ door. door_unheard door lost refl;
}

pub worked_streams_hold : WorkedStreams
worked_streams_hold = record { on_three = on_three; on_cut = on_cut; on_close = on_close; on_door = on_door }
