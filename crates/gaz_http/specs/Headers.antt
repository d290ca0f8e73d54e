-- What the headers of a request say (RFC 9110, sections 5 and 7.6.1), and whether the conversation
-- ends after it (RFC 9112, section 9).
use Rattle.std.specs.Prelude.{ℕ, ◌==◌, ◌&&◌, ◌||◌, Bool, List, codes, find, count_by, map, Option}
use Rattle.std.specs.Option.{option_map}
use Rattle.std.specs.List.{list_any, slice_split}
use Rattle.std.specs.Str.{str_eq_ignore_ascii_case}
use Rattle.httparse.specs.Grammar.{RequestHead, trim_ows}
use Rattle.httparse.specs.Spans.{name_and_value}

-- a header's name, and its value without the white space around it
abbrev pub Header : Type 0
Header = List ℕ × List ℕ

-- the headers of a head, in order
abbrev pub headers_of : RequestHead → List Header
headers_of h = map name_and_value h.fields

-- the header has the name, whatever the case of its letters
abbrev pub is_named : List ℕ → Header → Bool
is_named name header = str_eq_ignore_ascii_case header.0 name

-- how many headers have the name
abbrev pub count_of : List ℕ → List Header → ℕ
count_of name headers = count_by (is_named name) headers

-- the value of the first header of the name
abbrev pub value_of : List ℕ → List Header → Option (List ℕ)
value_of name headers = option_map (λ h. h.1) (find (is_named name) headers)

-- the elements that commas divide
abbrev pub elements : List ℕ → List (List ℕ)
elements value = slice_split (λ b. b == 44) value

-- the element is the option close, whatever its case and the white space around it
abbrev pub is_close_option : List ℕ → Bool
is_close_option element = str_eq_ignore_ascii_case (trim_ows element) (codes "close")

-- one of a value's elements is the option close
abbrev pub has_close : List ℕ → Bool
has_close value = list_any is_close_option (elements value)

-- the header is a Connection with the option close
abbrev pub is_close_header : Header → Bool
is_close_header h = is_named (codes "connection") h && has_close h.1

-- one of the headers is a Connection with the option close
abbrev pub asks_close : List Header → Bool
asks_close headers = list_any is_close_header headers

-- HTTP/1.0, or a Connection header with the option close
abbrev pub closes_in : ℕ → List Header → Bool
closes_in minor headers = (minor == 0) || asks_close headers

-- the request ends the conversation by its own word
unfoldable pub is_closing : RequestHead → Bool
is_closing h = closes_in h.minor (headers_of h)
