-- Worked examples of the texts of replies, computed from the definitions.
use Rattle.std.specs.Prelude.{◌≡◌, List, ℕ, [], ◌∷◌, ◌++◌, true, false, Some, None, codes}
use Rattle.gaz_ids.specs.declared.status.Status.TheVariants.{Approved, Historical}
use Rattle.gaz_steps.specs.declared.outcome.Outcome.TheVariants.{Applied, Held, Rejected}
use Rattle.gaz_steps.specs.declared.question.Told.TheVariants as told
use Rattle.gaz_steps.specs.declared.refusal.DoorRefusal.TheVariants.{BadVolume, TooLarge}
use Rattle.gaz_steps.specs.declared.refusal.DoorRefusal.TheVariants.{UnknownCustodian}
use Rattle.gaz_steps.specs.declared.refusal.DoorRefusal.TheVariants.{UnknownProfile}
use Rattle.gaz_exchange.specs.Replies.{reply_text, told_text}
use Rattle.gaz_exchange.specs.declared.fault.Allowed.TheVariants.{Get, GetAndPost}
use Rattle.gaz_exchange.specs.declared.fault.Fault.{Fault}
use Rattle.gaz_exchange.specs.declared.fault.Fault.TheVariants.{BadMethod, BadRequest, Door}
use Rattle.gaz_exchange.specs.declared.fault.Fault.TheVariants.{LengthRequired, NoRoute}
use Rattle.gaz_exchange.specs.declared.fault.Fault.TheVariants.{NotReceived, NotThere, Unsettled}
use Rattle.gaz_exchange.specs.declared.reply.Reply.TheVariants as reply

-- the text of a refusal, after which the conversation goes on
abbrev pub refusal : Fault → List ℕ
refusal fault = reply_text (reply.Refused fault) false

-- its status, the header that it has besides, and its number of two digits
abbrev pub refused : List ℕ → List ℕ → List ℕ → List ℕ
refused status allow number =
    codes "HTTP/1.1 " ++ (status
    ++ (codes "\r\nContent-Type: application/json\r\nContent-Length: 15\r\n" ++ (allow
    ++ (codes "\r\n{\"refusal\":" ++ (number ++ codes "}\n")))))

pub record WorkedRefusals : Type 0 where
  pub custodian : refusal (Door UnknownCustodian) ≡ refused (codes "404 Not Found") [] (codes "11")
  pub volume : refusal (Door BadVolume) ≡ refused (codes "404 Not Found") [] (codes "12")
  pub too_large : refusal (Door TooLarge)
      ≡ refused (codes "413 Content Too Large") [] (codes "13")
  pub profile : refusal (Door UnknownProfile)
      ≡ refused (codes "415 Unsupported Media Type") [] (codes "16")
  pub not_there : refusal NotThere ≡ refused (codes "404 Not Found") [] (codes "17")
  pub bad_request : refusal BadRequest ≡ refused (codes "400 Bad Request") [] (codes "40")
  pub no_route : refusal NoRoute ≡ refused (codes "404 Not Found") [] (codes "41")
  pub asks_alone : refusal (BadMethod Get)
      ≡ refused (codes "405 Method Not Allowed") (codes "Allow: GET\r\n") (codes "42")
  pub asks_and_posts : refusal (BadMethod GetAndPost)
      ≡ refused (codes "405 Method Not Allowed") (codes "Allow: GET, POST\r\n") (codes "42")
  pub no_length : refusal LengthRequired ≡ refused (codes "411 Length Required") [] (codes "43")
  pub not_received : refusal NotReceived
      ≡ refused (codes "503 Service Unavailable") [] (codes "51")
  pub unsettled : refusal Unsettled ≡ refused (codes "503 Service Unavailable") [] (codes "52")

-- what became of a file, in replies after which the conversation goes on or ends
pub record WorkedOutcomes : Type 0 where
  pub applied : reply_text (reply.New Applied) false
      ≡ codes "HTTP/1.1 201 Created\r\nContent-Type: application/json\r\n"
      ++ codes "Content-Length: 22\r\n\r\n{\"outcome\":\"applied\"}\n"
  pub repeated : reply_text (reply.Repeat (Rejected 3 21)) true
      ≡ codes "HTTP/1.1 200 OK\r\nContent-Type: application/json\r\n"
      ++ (codes "Content-Length: 44\r\nConnection: close\r\n\r\n"
      ++ codes "{\"outcome\":\"rejected\",\"record\":3,\"rule\":21}\n")
  pub held : reply_text (reply.New (Held 1001 2)) false
      ≡ codes "HTTP/1.1 201 Created\r\nContent-Type: application/json\r\n"
      ++ (codes "Content-Length: 57\r\n\r\n"
      ++ codes "{\"outcome\":\"held\",\"wants\":{\"custodian\":1001,\"volume\":2}}\n")
  pub taken : reply_text (reply.Taken (0 ∷ 171 ∷ 255 ∷ [])) false
      ≡ codes "HTTP/1.1 409 Conflict\r\nContent-Type: application/json\r\n"
      ++ codes "Content-Length: 38\r\n\r\n{\"digest\":\"00abff\",\"outcome\":\"taken\"}\n"
  -- an extract is told as it is
  pub extract : reply_text (reply.Told (told.Extract (codes "99,0\n"))) false
      ≡ codes "HTTP/1.1 200 OK\r\nContent-Type: text/csv\r\nContent-Length: 5\r\n\r\n99,0\n"

-- what is told of questions
pub record WorkedTold : Type 0 where
  pub held : told_text (told.Outcome (0 ∷ 171 ∷ 255 ∷ []) (Held 1001 2))
      ≡ codes "{\"digest\":\"00abff\",\"outcome\":\"held\","
      ++ codes "\"wants\":{\"custodian\":1001,\"volume\":2}}\n"
  pub standing : told_text (told.Standing (record {
    custodian = 1001;
    held = 0;
    judged = 1;
    wants = Some (1001, 2);
  }))
      ≡ codes "{\"custodian\":1001,\"held\":0,\"judged\":1,"
      ++ codes "\"wants\":{\"custodian\":1001,\"volume\":2}}\n"
  pub all_judged : told_text (told.Standing (record {
    custodian = 1001;
    held = 0;
    judged = 999_999;
    wants = None;
  }))
      ≡ codes "{\"custodian\":1001,\"held\":0,\"judged\":999999,\"wants\":null}\n"
  pub found : told_text (told.Found (record {
    custodian = 1001;
    uprn = 42;
    status = Approved;
    line = Some (codes "14 High Street, Arden");
  }))
      ≡ codes "{\"custodian\":1001,\"line\":\"14 High Street, Arden\",\"status\":1,\"uprn\":42}\n"
  pub escaped : told_text (told.Found (record {
    custodian = 1001;
    uprn = 42;
    status = Approved;
    line = Some (codes "The \"Mill\"\\");
  }))
      ≡ codes "{\"custodian\":1001,\"line\":\"The \\\"Mill\\\"\\\\\",\"status\":1,\"uprn\":42}\n"
  pub without_line : told_text (told.Found (record {
    custodian = 1001;
    uprn = 42;
    status = Historical;
    line = None;
  }))
      ≡ codes "{\"custodian\":1001,\"line\":null,\"status\":8,\"uprn\":42}\n"
  pub none_closed : told_text (told.Closed []) ≡ codes "{\"closed\":[]}\n"
  pub two_closed : told_text (told.Closed
      (record { custodian = 1002; lpi = codes "K1"; usrn = 150 }
      ∷ record { custodian = 1003; lpi = codes "Q1"; usrn = 7 } ∷ []))
      ≡ codes "{\"closed\":[{\"custodian\":1002,\"lpi\":\"K1\",\"usrn\":150},"
      ++ codes "{\"custodian\":1003,\"lpi\":\"Q1\",\"usrn\":7}]}\n"

pub record WorkedReplies : Type 0 where
  pub refusals : WorkedRefusals
  pub outcomes : WorkedOutcomes
  pub told : WorkedTold
