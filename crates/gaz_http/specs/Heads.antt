-- The heads of requests on a stream (RFC 9112, sections 2 to 5).
use Rattle.std.specs.Prelude.{◌≡◌, ℕ, ◌+◌, ◌≤◌, ◌==◌, ◌||◌, List, ◌++◌, length, Bool, true}
use Rattle.std.specs.List.{list_all}
use Rattle.httparse.specs.Grammar.{ReadsRequest, RequestHead, print_request}

-- the most bytes of a head, with the empty lines before it
abbrev pub most_head : ℕ
most_head = 8192

-- the bytes that are held of a stream: as many, and one more, which shows that a head has too many
abbrev pub inlet_size : ℕ
inlet_size = most_head + 1

-- the most headers of a request
abbrev pub most_headers : ℕ
most_headers = 32

-- the bytes begin with this head, of at most so many bytes and headers, and rest follows
pub record BeginsWith (bytes : List ℕ) (h : RequestHead) (rest : List ℕ) : Type 0 where
  pub reads : ReadsRequest bytes h rest
  pub short : length (print_request h) ≤ most_head
  pub few : length h.fields ≤ most_headers

-- the bytes begin with no head
abbrev pub NoHead : List ℕ → Type 0
NoHead bytes = (h : RequestHead) (rest : List ℕ) → BeginsWith bytes h rest → ⊥

-- the bytes begin with no head, whatever bytes follow
abbrev pub NeverHead : List ℕ → Type 0
NeverHead bytes = (more : List ℕ) → NoHead (bytes ++ more)

-- CR or LF
abbrev pub is_line_byte : ℕ → Bool
is_line_byte b = (b == 13) || (b == 10)

-- the bytes are CR and LF alone
abbrev pub is_blank : List ℕ → Bool
is_blank bytes = list_all is_line_byte bytes

-- no further request: nothing but CR and LF, in no more bytes than a head may have
pub record IsOver (bytes : List ℕ) : Type 0 where
  pub short : length bytes ≤ most_head
  pub blank : is_blank bytes ≡ true
