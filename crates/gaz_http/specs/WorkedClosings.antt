-- Worked examples of which request is the last, computed from the definitions.
use Rattle.std.specs.Prelude.{◌≡◌, List, ℕ, [], ◌∷◌, true, false, codes}
use Rattle.httparse.specs.Grammar.{Field, RequestHead, crlf}
use Rattle.gaz_http.specs.Headers.{is_closing}

-- a head of HTTP/1.1, each of whose lines ends in CR and LF
abbrev pub head : List ℕ → List ℕ → List Field → RequestHead
head method target fields = record {
  blank = [];
  method = method;
  target = target;
  minor = 1;
  line_end = crlf;
  fields = fields;
  last = crlf;
}

-- a header of such a head
abbrev pub header : List ℕ → List ℕ → Field
header name value = record { name = name; raw = 32 ∷ value; end = crlf }

-- a head with these headers
abbrev pub asking : List Field → RequestHead
asking fields = head (codes "GET") (codes "/") fields

-- a head of HTTP/1.0
abbrev pub old : RequestHead → RequestHead
old h = record h { minor = 0 }

abbrev pub connection : List ℕ → Field
connection value = header (codes "Connection") value

-- requests that end a conversation, and some that don't
pub record WorkedClosings : Type 0 where
  pub goes_on : is_closing (asking []) ≡ false
  pub of_http_1_0 : is_closing (old (asking [])) ≡ true
  pub kept_alive : is_closing (old (asking (connection (codes "keep-alive") ∷ []))) ≡ true
  pub close : is_closing (asking (connection (codes "close") ∷ [])) ≡ true
  pub among_others : is_closing (asking (connection (codes "x, Close") ∷ [])) ≡ true
  pub in_a_second : is_closing (asking (connection (codes "x") ∷ connection (codes "close") ∷ []))
      ≡ true
  pub longer_word : is_closing (asking (connection (codes "closed") ∷ [])) ≡ false
  pub other_header : is_closing (asking (header (codes "X") (codes "close") ∷ [])) ≡ false
