-- Worked examples on how often a reader is read for a request that is refused.
use Rattle.std.specs.Prelude.{ℕ, List, ◌++◌, ◌∷◌, [], codes, replicate}
use Rattle.httparse.specs.Grammar.{RequestHead}
use Rattle.gaz_http.specs.WorkedClosings.{head, header}
use Rattle.gaz_steps.specs.declared.refusal.DoorRefusal.TheVariants.{TooLarge}
use Rattle.gaz_exchange.specs.Refusals.{HasBadLength, NoneBehindRefused}
use Rattle.gaz_exchange.specs.WorkedStreams.{asking_bytes, cut_bytes, posting_bytes}
use Rattle.gaz_exchange.specs.declared.fault.Fault.TheVariants.{Door}

-- a head of 69 bytes that tells one byte more than a body may have
abbrev pub large : RequestHead
large = head (codes "POST") (codes "/custodians/1001/volumes/1")
    (header (codes "Content-Length") (codes "1048577") ∷ [])

abbrev pub large_bytes : List ℕ
large_bytes = codes "POST /custodians/1001/volumes/1 HTTP/1.1\r\nContent-Length: 1048577\r\n\r\n"

-- these bytes were read, from the first read on
abbrev pub IsReadFor : ℕ → List ℕ → Type 0
IsReadFor reads bytes = NoneBehindRefused 0 reads bytes bytes

-- a body is too large, of which three bytes came with its head
pub record WorkedLarge : Type 0 where
  pub refused : HasBadLength (large_bytes ++ codes "abc") (Door TooLarge)
  pub each_of_head : IsReadFor 69 (large_bytes ++ codes "abc")
  pub not_behind : IsReadFor 70 (large_bytes ++ codes "abc") → ⊥

-- a request of 66 bytes came whole, and another behind it; it isn't answered
pub record WorkedWhole : Type 0 where
  pub each_of_request : IsReadFor 66 (posting_bytes ++ asking_bytes)
  pub not_behind : IsReadFor 67 (posting_bytes ++ asking_bytes) → ⊥

-- 9,000 bytes of LF, which are no head, and more than are held of one
abbrev pub lines : List ℕ
lines = replicate 9000 10

pub record WorkedLines : Type 0 where
  pub each_of_held : IsReadFor 8193 lines
  pub not_behind : IsReadFor 8194 lines → ⊥

pub record WorkedRefusals : Type 0 where
  pub on_large : WorkedLarge
  pub on_whole : WorkedWhole
  pub on_lines : WorkedLines
  -- nothing stands behind a body that is cut
  pub on_cut : (reads : ℕ) → IsReadFor reads cut_bytes
