-- Requests and their replies in turn.
use Rattle.std.specs.Prelude.{◌≡◌, ℕ, ◌<◌, ◌-◌, ◌==◌, ◌&&◌, ◌||◌, not, nat_lt, Bool, true, false}
use Rattle.std.specs.Prelude.{List, [], ◌∷◌, ◌++◌, length, IsTrue, Option, Some, None, Result, Ok}
use Rattle.std.specs.Prelude.{Err}
use Rattle.std.specs.Option.{option_and_then}
use Rattle.std.specs.List.{flat_map, filter_map, list_all}
use Rattle.std.specs.Result.{result_ok}
use Rattle.httparse.specs.Grammar.{RequestHead}
use Rattle.gaz_steps.specs.Hubs.{IsToldAtDoor}
use Rattle.gaz_steps.specs.Step.{Command, Door, Response}
use Rattle.gaz_http.specs.Headers.{is_closing}
use Rattle.gaz_http.specs.Heads.{BeginsWith}
use Rattle.gaz_exchange.specs.Asking.{asked}
use Rattle.gaz_exchange.specs.Framing.{length_of}
use Rattle.gaz_exchange.specs.Replies.{IsReplyText, reply_text, reply_to}
use Rattle.gaz_exchange.specs.declared.fault.Fault.{Fault}
use Rattle.gaz_exchange.specs.declared.fault.Fault.TheVariants.{NotReceived}
use Rattle.gaz_exchange.specs.declared.framing.Framing.TheVariants.{Length}
use Rattle.gaz_exchange.specs.declared.reply.Reply.TheVariants.{Refused}

-- a request, whether there was memory to find the routes, what the hub said (none where it wasn't
-- asked), and the reply's text
pub record Exchange : Type 0 where
  pub head : RequestHead
  pub body : List ℕ
  pub routed : Bool
  pub response : Option Response
  pub reply : List ℕ

-- the bytes begin with this request, whole, and rest follows (RFC 9112, section 2.1)
pub record BeginsWithRequest (bytes : List ℕ) (h : RequestHead) (body rest : List ℕ) : Type 0 where
  pub after : List ℕ
  pub head : BeginsWith bytes h after
  pub framed : length_of h ≡ Length (length body)
  pub whole : after ≡ body ++ rest

-- the text is the reply to a request: what asks anything is asked, and the text tells what the hub
-- said; else it tells why nothing was asked
abbrev pub IsReplyTo : Result Command Fault → Option Response → Bool → List ℕ → Type 0
IsReplyTo (Ok command) (Some response) is_last text = IsReplyText (reply_to response) is_last text
IsReplyTo (Ok command) None is_last text = ⊥
IsReplyTo (Err fault) None is_last text = text ≡ reply_text (Refused fault) is_last
IsReplyTo (Err fault) (Some response) is_last text = ⊥

-- there was no memory to find the routes: nothing is asked, and the text tells 51
pub record FoundNoRoutes (e : Exchange) (is_last : Bool) : Type 0 where
  pub unasked : e.response ≡ None
  pub told : e.reply ≡ reply_text (Refused NotReceived) is_last

-- the exchange is answered so, where the routes were found, and where they weren't
abbrev pub IsAnswered : Bool → Exchange → Bool → Type 0
IsAnswered true e is_last = IsReplyTo (asked e.head e.body) e.response is_last e.reply
IsAnswered false e is_last = FoundNoRoutes e is_last

-- the bytes begin with the request of this exchange, which is answered so, and rest follows
pub record IsExchanged (bytes : List ℕ) (e : Exchange) (rest : List ℕ) (is_last : Bool)
    : Type 0 where
  pub request : BeginsWithRequest bytes e.head e.body rest
  pub answered : IsAnswered e.routed e is_last

-- what the hub said to the request, where it was asked, is what is told at its door
abbrev pub HearsDoor : Door → Exchange → Type 0
HearsDoor door e =
    (command : Command) (response : Response) → asked e.head e.body ≡ Ok command
    → e.response ≡ Some response → IsToldAtDoor door command response

-- the conversation ends after this exchange, the first of at most so many
abbrev pub ends_after : ℕ → Exchange → Bool
ends_after most e = is_closing e.head || (most == 1)

-- the bytes begin with these exchanges, at most so many, and rest follows; after one that ends the
-- conversation comes none
unfoldable pub Comes : ℕ → List ℕ → List Exchange → List ℕ → Type 0
Comes most bytes [] rest = bytes ≡ rest
Comes most bytes (e ∷ es) rest =
    (0 < most) × (after : List ℕ) × IsExchanged bytes e after (ends_after most e)
    × (IsTrue (ends_after most e) → es ≡ []) × Comes (most - 1) after es rest

-- once the routes are found they stay: from some exchange on each has them, and none before
pub record RoutesStay (es : List Exchange) : Type 0 where
  pub without : List Exchange
  pub having : List Exchange
  pub split : es ≡ without ++ having
  pub missed : list_all (λ e. not e.routed) without ≡ true
  pub found : list_all (λ e. e.routed) having ≡ true

-- none of the requests ends the conversation by its own word
abbrev pub all_open : List Exchange → Bool
all_open es = list_all (λ e. not (is_closing e.head)) es

-- another may follow these exchanges
abbrev pub goes_on : ℕ → List Exchange → Bool
goes_on most es = nat_lt (length es) most && all_open es

-- the texts of the replies, one after the other
abbrev pub replies : List Exchange → List ℕ
replies es = flat_map (λ e. e.reply) es

-- what the hub was asked in an exchange
abbrev pub command_in : Exchange → Option Command
command_in e = option_and_then (λ response. result_ok (asked e.head e.body)) e.response

-- the commands that the hub was given in these exchanges
abbrev pub commands_of : List Exchange → List Command
commands_of es = filter_map command_in es

-- the hub's responses in these exchanges
abbrev pub responses_of : List Exchange → List Response
responses_of es = filter_map (λ e. e.response) es
