-- Requests that are refused before they are whole, after which the conversation ends.
use Rattle.std.specs.Prelude.{◌≡◌, ℕ, ◌<◌, ◌⊎◌, List, length, drop, Option, true}
use Rattle.std.specs.Io.KnownBytes.{IsAtEnd}
use Rattle.httparse.specs.Grammar.{RequestHead}
use Rattle.gaz_http.specs.Heads.{BeginsWith, IsOver, NeverHead, NoHead, inlet_size}
use Rattle.gaz_http.specs.Sparing.{OneForEachUsed}
use Rattle.gaz_exchange.specs.Exchanges.{BeginsWithRequest}
use Rattle.gaz_exchange.specs.Framing.{length_of}
use Rattle.gaz_exchange.specs.Replies.{reply_text}
use Rattle.gaz_exchange.specs.declared.fault.Fault.{Fault}
use Rattle.gaz_exchange.specs.declared.fault.Fault.TheVariants.{BadRequest, NotReceived}
use Rattle.gaz_exchange.specs.declared.framing.Framing.TheVariants.{Length, Refused}
use Rattle.gaz_exchange.specs.declared.reply.Reply.TheVariants as reply

-- the bytes begin with a head whose body has this length, and so far these bytes stand behind it
pub record HasHead (bytes : List ℕ) (size : ℕ) (after : List ℕ) : Type 0 where
  pub head : RequestHead
  pub begins : BeginsWith bytes head after
  pub framed : length_of head ≡ Length size

-- the bytes begin with a head whose length is refused
pub record HasBadLength (bytes : List ℕ) (fault : Fault) : Type 0 where
  pub head : RequestHead
  pub after : List ℕ
  pub begins : BeginsWith bytes head after
  pub framed : length_of head ≡ Refused fault

-- no head stands whole in the bytes, or not the whole body behind it
abbrev pub IsUnfinished : List ℕ → Type 0
IsUnfinished bytes =
    NoHead bytes
    ⊎ ((size : ℕ) × (after : List ℕ) × HasHead bytes size after × (length after < size))

-- why the request at the front of the bytes is refused; left is what the reader has left
pub data IsRefused (bytes : List ℕ) (left : Option (List ℕ)) : Fault → Type 0 where
  -- it is no head, whatever bytes follow
  no_head : NeverHead bytes → (IsOver bytes → ⊥) → IsRefused bytes left BadRequest
  -- the input ended within the head
  cut_head : NoHead bytes → (IsOver bytes → ⊥) → IsAtEnd left
      → IsRefused bytes left BadRequest
  -- the body's length isn't told, or not taken
  bad_length : (fault : Fault) → HasBadLength bytes fault → IsRefused bytes left fault
  -- the input ended within the body
  cut_body : (size : ℕ) (after : List ℕ) → HasHead bytes size after → length after < size
      → IsAtEnd left → IsRefused bytes left BadRequest
  -- there was no memory for the body
  no_memory : (size : ℕ) (after : List ℕ) → HasHead bytes size after → 0 < size
      → IsRefused bytes left NotReceived

-- no read for what stands behind a request that is refused: before and after count the reads, read
-- are the bytes that were read, and rest those of them at whose front the request stands
pub record NoneBehindRefused (before after : ℕ) (read rest : List ℕ) : Type 0 where
  -- behind a head whose length is refused
  pub behind_head : (fault : Fault) (bad : HasBadLength rest fault) →
      OneForEachUsed before after read bad.after
  -- behind a whole request, for whose body there was no memory
  pub behind_body : (head : RequestHead) (body behind : List ℕ) →
      BeginsWithRequest rest head body behind → OneForEachUsed before after read behind
  -- behind as many bytes as are held of what is no head
  pub behind_held : NoHead rest → inlet_size < length rest →
      OneForEachUsed before after read (drop inlet_size rest)

-- the request at the front of the bytes is refused, by a reply with this text
pub record IsTurnedAway (bytes : List ℕ) (left : Option (List ℕ)) (text : List ℕ) : Type 0 where
  pub fault : Fault
  pub why : IsRefused bytes left fault
  pub told : text ≡ reply_text (reply.Refused fault) true
