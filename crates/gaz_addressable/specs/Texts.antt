-- What a text may hold, by its characters.
use Rattle.std.specs.Prelude.{◌≡◌, ◌⊎◌, ℕ, ◌-◌, ◌==◌, ◌&&◌, ◌||◌, not, nat_lt, nat_le, List, length}
use Rattle.std.specs.Prelude.{slice_index, Result, Ok, Err, if◌then◌else◌, Bool}
use Rattle.std.specs.List.{list_any}
use Rattle.std.specs.Str.{chars, is_utf8}
use Rattle.gaz_addressable.specs.declared.text.TextFault.{TextFault}
use Rattle.gaz_addressable.specs.declared.text.TextFault.TheVariants as fault

-- a control character: below U+0020, or U+007F
abbrev pub is_control : ℕ → Bool
is_control c = nat_lt c 32 || (c == 127)

-- one character or more, no space (U+0020) at either end, no control character
abbrev pub are_plain : List ℕ → Bool
are_plain cs =
    not (length cs == 0)
    && not (slice_index cs 0 == 32) && not (slice_index cs (length cs - 1) == 32)
    && not (list_any is_control cs)

-- UTF-8 whose characters are such
unfoldable pub is_plain : List ℕ → Bool
is_plain bytes = is_utf8 bytes && are_plain (chars bytes)

-- how many characters
unfoldable pub char_count : List ℕ → ℕ
char_count bytes = length (chars bytes)

-- a text of at most so many characters
abbrev pub is_text : ℕ → List ℕ → Bool
is_text most bytes = is_plain bytes && nat_le (char_count bytes) most

-- the text, or its first fault
abbrev pub text_of : ℕ → List ℕ → Result (List ℕ) TextFault
text_of most bytes =
    if not (is_plain bytes) then Err fault.BadForm
    else if nat_lt most (char_count bytes) then Err fault.TooLong
    else Ok bytes

-- the answer, or want of memory in its place
abbrev pub OrMemory : {A : Type 0} → Result A TextFault → Result A TextFault → Type 0
OrMemory result answer = (result ≡ answer) ⊎ (result ≡ Err fault.Memory)
