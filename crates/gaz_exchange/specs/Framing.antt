-- How long a request's body is (RFC 9112, section 6).
use Rattle.std.specs.Prelude.{ℕ, ◌==◌, ◌||◌, not, nat_lt, Bool, if◌then◌else◌, List, length, codes}
use Rattle.std.specs.Prelude.{Option, Some, None, bytes_eq}
use Rattle.std.specs.Str.{all_ascii_digits}
use Rattle.std.specs.Str.Parse.{digits_value}
use Rattle.httparse.specs.Grammar.{RequestHead}
use Rattle.gaz_ids.specs.Limits.{most_bytes}
use Rattle.gaz_steps.specs.declared.refusal.DoorRefusal.TheVariants.{TooLarge}
use Rattle.gaz_http.specs.Headers.{Header, count_of, headers_of, value_of}
use Rattle.gaz_exchange.specs.declared.fault.Fault.TheVariants.{BadRequest, Door}
use Rattle.gaz_exchange.specs.declared.fault.Fault.TheVariants.{LengthRequired}
use Rattle.gaz_exchange.specs.declared.framing.Framing.{Framing}
use Rattle.gaz_exchange.specs.declared.framing.Framing.TheVariants.{Length, Refused}

-- the size that the value of a Content-Length tells: one or more digits, at most those of a file
abbrev pub size_in : List ℕ → Framing
size_in value =
    if (length value == 0) || not (all_ascii_digits value) then Refused BadRequest
    else if nat_lt most_bytes (digits_value 10 value) then Refused (Door TooLarge)
    else Length (digits_value 10 value)

-- without a Content-Length: no body, but for a POST, which has to tell
abbrev pub length_by : Bool → Option (List ℕ) → Framing
length_by is_post (Some value) = size_in value
length_by is_post None = if is_post then Refused LengthRequired else Length 0

-- how long the body is by the headers: any transfer coding is refused, and so is a second
-- Content-Length
abbrev pub length_in : Bool → List Header → Framing
length_in is_post headers =
    if nat_lt 0 (count_of (codes "transfer-encoding") headers) then Refused LengthRequired
    else if nat_lt 1 (count_of (codes "content-length") headers) then Refused BadRequest
    else length_by is_post (value_of (codes "content-length") headers)

-- the method is POST
abbrev pub is_post_method : List ℕ → Bool
is_post_method method = bytes_eq method (codes "POST")

-- the head's method is POST
abbrev pub is_post : RequestHead → Bool
is_post h = is_post_method h.method

-- how long the body behind a head is
unfoldable pub length_of : RequestHead → Framing
length_of h = length_in (is_post h) (headers_of h)
