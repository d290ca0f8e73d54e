-- Worked examples on the requests of a stream.
use Rattle.std.specs.Prelude.{◌≡◌, ℕ, true, false, List, [], ◌∷◌, ◌++◌, codes, Some, None}
use Rattle.std.specs.Prelude.{Ok, Err}
use Rattle.gaz_steps.specs.Hubs.{door_of}
use Rattle.gaz_steps.specs.Step.{Door, Pose, Replied, Submit, Submitted}
use Rattle.gaz_hub.specs.WorkedHubs.{upper_and_lower}
use Rattle.gaz_steps.specs.declared.answer.Answer.TheVariants.{New}
use Rattle.gaz_steps.specs.declared.outcome.Outcome.TheVariants.{Rejected}
use Rattle.gaz_steps.specs.declared.question.Question.TheVariants.{Ask}
use Rattle.gaz_steps.specs.declared.refusal.DoorRefusal.TheVariants.{UnknownCustodian}
use Rattle.gaz_steps.specs.declared.refusal.Refusal.TheVariants as refusal
use Rattle.gaz_http.specs.WorkedClosings.{head, header}
use Rattle.gaz_exchange.specs.Exchanges.{Comes, Exchange, HearsDoor, RoutesStay, commands_of}
use Rattle.gaz_exchange.specs.Exchanges.{goes_on, replies, responses_of}
use Rattle.gaz_exchange.specs.Refusals.{IsRefused, IsUnfinished}
use Rattle.gaz_exchange.specs.Streams.{NoRequest}
use Rattle.gaz_exchange.specs.declared.fault.Fault.TheVariants.{BadRequest}

-- a file of three bytes is posted, and rejected
abbrev pub posted : Exchange
posted = record {
  head = head (codes "POST") (codes "/custodians/1001/volumes/1")
      (header (codes "Content-Length") (codes "3") ∷ []);
  body = codes "abc";
  routed = true;
  response = Some (Submitted (New (Rejected 1 2)));
  reply =
      codes "HTTP/1.1 201 Created\r\nContent-Type: application/json\r\n"
      ++ codes "Content-Length: 43\r\n\r\n{\"outcome\":\"rejected\",\"record\":1,\"rule\":2}\n";
}

-- a volume is asked for that wasn't received
abbrev pub asked_for : Exchange
asked_for = record {
  head = head (codes "GET") (codes "/custodians/1001/volumes/2") [];
  body = [];
  routed = true;
  response = Some (Replied (Ask 1001 2) (Ok None));
  reply =
      codes "HTTP/1.1 404 Not Found\r\nContent-Type: application/json\r\n"
      ++ codes "Content-Length: 15\r\n\r\n{\"refusal\":17}\n";
}

-- nothing is at the target, and the hub isn't asked
abbrev pub lost : Exchange
lost = record {
  head = head (codes "GET") (codes "/nowhere") [];
  body = [];
  routed = true;
  response = None;
  reply =
      codes "HTTP/1.1 404 Not Found\r\nContent-Type: application/json\r\n"
      ++ codes "Content-Length: 15\r\n\r\n{\"refusal\":41}\n";
}

-- nothing is at the target, the hub isn't asked, and the request asks for the end
abbrev pub closing : Exchange
closing = record {
  head = head (codes "GET") (codes "/nowhere") (header (codes "Connection") (codes "close") ∷ []);
  body = [];
  routed = true;
  response = None;
  reply =
      codes "HTTP/1.1 404 Not Found\r\nContent-Type: application/json\r\n"
      ++ codes "Content-Length: 15\r\nConnection: close\r\n\r\n{\"refusal\":41}\n";
}

abbrev pub posting_bytes : List ℕ
posting_bytes = codes "POST /custodians/1001/volumes/1 HTTP/1.1\r\nContent-Length: 3\r\n\r\nabc"

abbrev pub asking_bytes : List ℕ
asking_bytes = codes "GET /custodians/1001/volumes/2 HTTP/1.1\r\n\r\n"

abbrev pub lost_bytes : List ℕ
lost_bytes = codes "GET /nowhere HTTP/1.1\r\n\r\n"

abbrev pub closing_bytes : List ℕ
closing_bytes = codes "GET /nowhere HTTP/1.1\r\nConnection: close\r\n\r\n"

abbrev pub three_bytes : List ℕ
three_bytes = posting_bytes ++ (asking_bytes ++ lost_bytes)

-- a stream of three requests, the third of which asks nothing
pub record WorkedThree : Type 0 where
  pub comes : Comes 4 three_bytes (posted ∷ asked_for ∷ lost ∷ []) []
  pub open_yet : goes_on 4 (posted ∷ asked_for ∷ lost ∷ []) ≡ true
  pub routes : RoutesStay (posted ∷ asked_for ∷ lost ∷ [])
  pub commands : commands_of (posted ∷ asked_for ∷ lost ∷ [])
      ≡ Submit 1001 1 (codes "abc") ∷ Pose (Ask 1001 2) ∷ []
  pub responses : responses_of (posted ∷ asked_for ∷ lost ∷ [])
      ≡ Submitted (New (Rejected 1 2)) ∷ Replied (Ask 1001 2) (Ok None) ∷ []
  pub told : replies (posted ∷ asked_for ∷ []) ≡ posted.reply ++ asked_for.reply
  -- no other request is read there, and none of the three is left out
  pub never_another : (rest : List ℕ) → Comes 4 posting_bytes (asked_for ∷ []) rest → ⊥
  pub never_out_of_turn : (rest : List ℕ) → Comes 4 three_bytes (posted ∷ lost ∷ []) rest → ⊥

-- the posting, and a second one whose body is cut
abbrev pub cut_bytes : List ℕ
cut_bytes = codes "POST /custodians/1001/volumes/1 HTTP/1.1\r\nContent-Length: 3\r\n\r\nab"

-- a stream that ends within the body of its second request
pub record WorkedCut : Type 0 where
  pub comes : Comes 4 (posting_bytes ++ cut_bytes) (posted ∷ []) cut_bytes
  pub refused : IsRefused cut_bytes (Some []) BadRequest
  -- where more may come, the request isn't whole yet
  pub unfinished : IsUnfinished cut_bytes
  pub never_whole : NoRequest cut_bytes

-- a stream whose first request asks for the end
pub record WorkedClose : Type 0 where
  pub comes : Comes 4 (closing_bytes ++ posting_bytes) (closing ∷ []) posting_bytes
  pub ends : goes_on 4 (closing ∷ []) ≡ false
  pub never_more : (e f : Exchange) (rest : List ℕ)
      → Comes 4 (closing_bytes ++ posting_bytes) (e ∷ f ∷ []) rest → ⊥
  pub never_open : Comes 4 (closing_bytes ++ posting_bytes) (lost ∷ []) posting_bytes → ⊥

-- the volume is asked for of a hub that doesn't know the custodian
abbrev pub turned_away : Exchange
turned_away = record asked_for {
  response = Some (Replied (Ask 1001 2) (Err (refusal.Door UnknownCustodian)));
  reply =
      codes "HTTP/1.1 404 Not Found\r\nContent-Type: application/json\r\n"
      ++ codes "Content-Length: 15\r\n\r\n{\"refusal\":11}\n";
}

-- what is told at the door of a hub that knows the custodian, and of one that knows nobody
pub record WorkedDoor : Type 0 where
  pub let_in : HearsDoor (door_of upper_and_lower) asked_for
  pub refused : HearsDoor (door_of []) turned_away
  pub never_let_in : HearsDoor (door_of []) asked_for → ⊥
  pub never_refused : HearsDoor (door_of upper_and_lower) turned_away → ⊥
  -- where the hub isn't asked, no door is heard
  pub unasked : (door : Door) → HearsDoor door lost

pub record WorkedStreams : Type 0 where
  pub on_three : WorkedThree
  pub on_cut : WorkedCut
  pub on_close : WorkedClose
  pub on_door : WorkedDoor
