-- The text of a reply (RFC 9112, section 4; RFC 9110, section 15).
use Rattle.std.specs.Prelude.{◌≡◌, ◌⊎◌, ℕ, Bool, true, false, not, if◌then◌else◌, List, [], ◌++◌}
use Rattle.std.specs.Prelude.{length, codes, Option, Some, None, Result, Ok, Err}
use Rattle.std.specs.List.{join_by}
use Rattle.std.specs.Fmt.{decimal}
use Rattle.hex.specs.Hex.{encode_lower}
use Rattle.serde_json.specs.Data as json
use Rattle.serde_json.specs.Written.{compact_text}
use Rattle.gaz_ids.specs.Codes.{status_number}
use Rattle.gaz_extract.specs.declared.closed.Closed.{Closed}
use Rattle.gaz_steps.specs.ToldOn.{telling}
use Rattle.gaz_steps.specs.Step.{Replied, Response, Submitted}
use Rattle.gaz_steps.specs.declared.answer.Answer.{Answer}
use Rattle.gaz_steps.specs.declared.answer.Answer.TheVariants as answer
use Rattle.gaz_steps.specs.declared.outcome.Outcome.{Outcome}
use Rattle.gaz_steps.specs.declared.outcome.Outcome.TheVariants.{Applied, Rejected, Held}
use Rattle.gaz_steps.specs.declared.refusal.Refusal.{Refusal}
use Rattle.gaz_steps.specs.declared.question.Told.{Told}
use Rattle.gaz_steps.specs.declared.question.Told.TheVariants as told
use Rattle.gaz_exchange.specs.Faults.{allow_of, fault_of, number_of, status_of}
use Rattle.gaz_exchange.specs.declared.fault.Fault.{Fault}
use Rattle.gaz_exchange.specs.declared.fault.Fault.TheVariants.{NotThere, NotReceived, Unsettled}
use Rattle.gaz_exchange.specs.declared.reply.Reply.{Reply}
use Rattle.gaz_exchange.specs.declared.reply.Reply.TheVariants as reply

-- what a reply says of an answer
abbrev pub reply_of : Answer → Reply
reply_of (answer.New outcome) = reply.New outcome
reply_of (answer.Repeat outcome) = reply.Repeat outcome
reply_of (answer.Taken digest) = reply.Taken digest
reply_of (answer.Refused refusal) = reply.Refused (fault_of refusal)

-- what a reply says of what is told of a question, where anything is there
abbrev pub reply_told : Result (Option Told) Refusal → Reply
reply_told (Ok None) = reply.Refused NotThere
reply_told (Ok (Some told)) = reply.Told told
reply_told (Err refusal) = reply.Refused (fault_of refusal)

-- what a reply says of what the hub said
abbrev pub reply_to : Response → Reply
reply_to (Submitted answer) = reply_of answer
reply_to (Replied q answer) = reply_told (telling q answer)

-- the status of a reply and its reason
abbrev pub status_line : Reply → List ℕ
status_line (reply.New outcome) = codes "201 Created"
status_line (reply.Repeat outcome) = codes "200 OK"
status_line (reply.Taken digest) = codes "409 Conflict"
status_line (reply.Told told) = codes "200 OK"
status_line (reply.Refused fault) = status_of fault

abbrev pub is_extract : Told → Bool
is_extract (told.Extract bytes) = true
is_extract _ = false

-- what the body is: an extract's rows of `csv`, else JSON
abbrev pub content_type : Reply → List ℕ
content_type (reply.Told told) =
    if is_extract told then codes "text/csv" else codes "application/json"
content_type _ = codes "application/json"

-- the header that names the allowed methods, where another was used
abbrev pub allow_in : Reply → List ℕ
allow_in (reply.Refused fault) = allow_of fault
allow_in _ = []

-- a volume that is waited for
abbrev pub want_text : ℕ → ℕ → List ℕ
want_text custodian volume =
    codes "{\"custodian\":" ++ (decimal custodian
    ++ (codes ",\"volume\":" ++ (decimal volume ++ codes "}")))

-- a volume that is waited for, where there is one
abbrev pub wants_text : Option (ℕ × ℕ) → List ℕ
wants_text None = codes "null"
wants_text (Some want) = want_text want.0 want.1

-- the members of an outcome
abbrev pub outcome_text : Outcome → List ℕ
outcome_text Applied = codes "\"outcome\":\"applied\""
outcome_text (Rejected place rule) =
    codes "\"outcome\":\"rejected\",\"record\":" ++ (decimal place
    ++ (codes ",\"rule\":" ++ decimal rule))
outcome_text (Held custodian volume) =
    codes "\"outcome\":\"held\",\"wants\":" ++ want_text custodian volume

-- a line as a string of JSON, where there is one
abbrev pub line_text : Option (List ℕ) → List ℕ
line_text None = codes "null"
line_text (Some line) = compact_text (json.string line)

-- an address on a closed street
abbrev pub closed_text : Closed → List ℕ
closed_text closed =
    codes "{\"custodian\":" ++ (decimal closed.custodian
    ++ (codes ",\"lpi\":\"" ++ (closed.lpi
    ++ (codes "\",\"usrn\":" ++ (decimal closed.usrn ++ codes "}")))))

-- what is told of a question: an extract as it is
abbrev pub told_text : Told → List ℕ
told_text (told.Outcome digest outcome) =
    codes "{\"digest\":\"" ++ (encode_lower digest
    ++ (codes "\"," ++ (outcome_text outcome ++ codes "}\n")))
told_text (told.Standing s) =
    codes "{\"custodian\":" ++ (decimal s.custodian
    ++ (codes ",\"held\":" ++ (decimal s.held
    ++ (codes ",\"judged\":" ++ (decimal s.judged
    ++ (codes ",\"wants\":" ++ (wants_text s.wants ++ codes "}\n")))))))
told_text (told.Found f) =
    codes "{\"custodian\":" ++ (decimal f.custodian
    ++ (codes ",\"line\":" ++ (line_text f.line
    ++ (codes ",\"status\":" ++ (decimal (status_number f.status)
    ++ (codes ",\"uprn\":" ++ (decimal f.uprn ++ codes "}\n")))))))
told_text (told.Extract bytes) = bytes
told_text (told.Closed closed) =
    codes "{\"closed\":[" ++ (join_by closed_text (codes ",") closed ++ codes "]}\n")

-- compact JSON, its keys in byte order, and a line feed, but for an extract
abbrev pub body_of : Reply → List ℕ
body_of (reply.New outcome) = codes "{" ++ (outcome_text outcome ++ codes "}\n")
body_of (reply.Repeat outcome) = codes "{" ++ (outcome_text outcome ++ codes "}\n")
body_of (reply.Taken digest) =
    codes "{\"digest\":\"" ++ (encode_lower digest ++ codes "\",\"outcome\":\"taken\"}\n")
body_of (reply.Told told) = told_text told
body_of (reply.Refused fault) = codes "{\"refusal\":" ++ (decimal (number_of fault) ++ codes "}\n")

-- said where the conversation ends after the reply
abbrev pub close_of : Bool → List ℕ
close_of is_last = if is_last then codes "Connection: close\r\n" else []

-- the end of the headers, and an empty line
abbrev pub end_of : Bool → List ℕ
end_of is_last = codes "\r\n" ++ (close_of is_last ++ codes "\r\n")

-- status line, headers, an empty line, body
unfoldable pub message : List ℕ → List ℕ → ℕ → List ℕ → List ℕ → Bool → List ℕ
message status content size headers body is_last =
    codes "HTTP/1.1 " ++ (status
    ++ (codes "\r\nContent-Type: " ++ (content
    ++ (codes "\r\nContent-Length: " ++ (decimal size
    ++ (codes "\r\n" ++ (headers ++ (close_of is_last ++ (codes "\r\n" ++ body)))))))))

-- the whole text of a reply; its length counts bytes
unfoldable pub reply_text : Reply → Bool → List ℕ
reply_text reply is_last =
    message (status_line reply) (content_type reply) (length (body_of reply)) (allow_in reply)
    (body_of reply) is_last

-- the request received its file
abbrev pub is_received : Reply → Bool
is_received (reply.New outcome) = true
is_received (reply.Refused Unsettled) = true
is_received _ = false

-- the refusal for want of memory: 52 where the file was received, else 51
abbrev pub memory_fault : Bool → Fault
memory_fault received = if received then Unsettled else NotReceived

-- the text is made with memory: a refusal's is a constant, and the bytes of an extract are there
-- already
abbrev pub takes_memory : Reply → Bool
takes_memory (reply.Refused fault) = false
takes_memory (reply.Told told) = not (is_extract told)
takes_memory _ = true

-- there was no memory for the reply's text, and that of 52 or 51 stands in its place
pub record FoundNoMemory (r : Reply) (is_last : Bool) (text : List ℕ) : Type 0 where
  pub took : takes_memory r ≡ true
  pub told : text ≡ reply_text (reply.Refused (memory_fault (is_received r))) is_last

-- the reply's text, unless there was no memory for it
abbrev pub IsReplyText : Reply → Bool → List ℕ → Type 0
IsReplyText r is_last text = (text ≡ reply_text r is_last) ⊎ FoundNoMemory r is_last text
