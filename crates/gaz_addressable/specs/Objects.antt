-- Addressable objects: what five fields say, and the five texts of an object.
use Rattle.std.specs.Prelude.{◌≡◌, ◌⊎◌, ℕ, ◌==◌, ◌&&◌, ◌||◌, not, nat_lt, List, [], ◌∷◌, ◌++◌}
use Rattle.std.specs.Prelude.{length, get_or, Option, Some, None, is_some, is_none, Result, Ok, Err}
use Rattle.std.specs.Prelude.{if◌then◌else◌, Bool, true, decimal}
use Rattle.std.specs.Option.{option_flatten, unwrap_or}
use Rattle.gaz_addressable.specs.Texts.{is_plain, char_count, is_text}
use Rattle.gaz_addressable.specs.HouseNumbers.{HouseNumberValue, RangeValue, house_of, is_range}
use Rattle.gaz_addressable.specs.HouseNumbers.{rises, suffix_of, suffix_text}
use Rattle.gaz_addressable.specs.declared.object.ObjFault.{ObjFault}
use Rattle.gaz_addressable.specs.declared.object.ObjFault.TheVariants as fault

-- house numbers, a text, or both
pub record ObjectValue : Type 0 where
  pub range : Option RangeValue
  pub text : Option (List ℕ)

abbrev pub is_there : Option RangeValue → Option (List ℕ) → Bool
is_there range text = is_some range || is_some text

abbrev pub is_range_or_none : Option RangeValue → Bool
is_range_or_none None = true
is_range_or_none (Some r) = is_range r

abbrev pub is_text_or_none : ℕ → Option (List ℕ) → Bool
is_text_or_none most None = true
is_text_or_none most (Some t) = is_text most t

-- one of the two is there, the numbers rise, the text has at most 90 characters
abbrev pub is_object : ObjectValue → Bool
is_object o = is_there o.range o.text && is_range_or_none o.range && is_text_or_none 90 o.text

-- ---- reading

abbrev pub is_empty : List ℕ → Bool
is_empty t = length t == 0

abbrev pub numbered : Option ℕ → Option ℕ → Option HouseNumberValue
numbered None suffix = None
numbered (Some n) suffix = Some (record { n = n; suffix = suffix })

abbrev pub range_from : Option HouseNumberValue → Option HouseNumberValue → Option RangeValue
range_from None to = None
range_from (Some from) to = Some (record { from = from; to = to })

-- the house numbers of four fields that have their forms
abbrev pub range_value : (start suffix end end_suffix : List ℕ) → Option RangeValue
range_value start suffix end end_suffix =
    range_from
    (numbered (option_flatten (house_of start)) (option_flatten (suffix_of suffix)))
    (numbered (option_flatten (house_of end)) (option_flatten (suffix_of end_suffix)))

abbrev pub rises_if_there : Option RangeValue → Bool
rises_if_there None = true
rises_if_there (Some r) = rises r

-- what may be wrong with the fields of the numbers, in the order in which it is told
abbrev pub range_faults : (start suffix end end_suffix : List ℕ) → List (Bool × ObjFault)
range_faults start suffix end end_suffix =
    (is_none (house_of start), fault.BadNumber)
    ∷ (is_none (suffix_of suffix) || (not (is_empty suffix) && is_empty start), fault.BadSuffix)
    ∷ (is_none (house_of end), fault.BadNumber)
    ∷ (not (is_empty end) && is_empty start, fault.EndWithoutStart)
    ∷ (
      is_none (suffix_of end_suffix) || (not (is_empty end_suffix) && is_empty end),
      fault.BadSuffix,
    )
    ∷ (not (rises_if_there (range_value start suffix end end_suffix)), fault.EndNotAfterStart)
    ∷ []

-- what may be wrong with the field of the text, in the order in which it is told
abbrev pub text_faults : List ℕ → List (Bool × ObjFault)
text_faults text =
    (not (is_empty text) && not (is_plain text), fault.BadText)
    ∷ (not (is_empty text) && nat_lt 90 (char_count text), fault.TextTooLong)
    ∷ []

-- what may be wrong with the five fields of an object, in the order in which it is told
abbrev pub object_faults : (start suffix end end_suffix text : List ℕ) → List (Bool × ObjFault)
object_faults start suffix end end_suffix text = (
  is_empty start && is_empty suffix && is_empty end && is_empty end_suffix && is_empty text,
  fault.Empty,
)
    ∷ (range_faults start suffix end end_suffix ++ text_faults text)

-- the first that applies
abbrev pub first_of : List (Bool × ObjFault) → Option ObjFault
first_of [] = None
first_of ((holds, f) ∷ rest) = if holds then Some f else first_of rest

abbrev pub unless : {A : Type 0} → Option ObjFault → A → Result A ObjFault
unless None x = Ok x
unless (Some f) x = Err f

-- the house numbers that four fields say, if any
unfoldable pub range_of :
    (start suffix end end_suffix : List ℕ) → Result (Option RangeValue) ObjFault
range_of start suffix end end_suffix =
    unless (first_of (range_faults start suffix end end_suffix))
    (range_value start suffix end end_suffix)

-- the object that five fields say
unfoldable pub object_of : (start suffix end end_suffix text : List ℕ) → Result ObjectValue ObjFault
object_of start suffix end end_suffix text =
    unless (first_of (object_faults start suffix end end_suffix text))
    (record {
      range = range_value start suffix end end_suffix;
      text = if is_empty text then None else Some text;
    })

-- the object of house numbers that were read, if any, and of a text
abbrev pub with_text : Option RangeValue → List ℕ → Result ObjectValue ObjFault
with_text range text =
    if is_none range && is_empty text then Err fault.Empty
    else unless (first_of (text_faults text))
    (record { range = range; text = if is_empty text then None else Some text })

abbrev pub object_of_fields : List (List ℕ) → Result ObjectValue ObjFault
object_of_fields f =
    object_of (get_or f 0 []) (get_or f 1 []) (get_or f 2 []) (get_or f 3 []) (get_or f 4 [])

-- the answer, or want of memory in its place
abbrev pub OrMemory : {A : Type 0} → Result A ObjFault → Result A ObjFault → Type 0
OrMemory result answer = (result ≡ answer) ⊎ (result ≡ Err fault.Memory)

-- ---- writing

abbrev pub from_of : Option RangeValue → Option HouseNumberValue
from_of None = None
from_of (Some r) = Some r.from

abbrev pub to_of : Option RangeValue → Option HouseNumberValue
to_of None = None
to_of (Some r) = r.to

abbrev pub digits_text : Option HouseNumberValue → List ℕ
digits_text None = []
digits_text (Some x) = decimal x.n

abbrev pub letter_text : Option HouseNumberValue → List ℕ
letter_text None = []
letter_text (Some x) = suffix_text x.suffix

-- start number, start suffix, end number, end suffix, text
abbrev pub texts_of : ObjectValue → List (List ℕ)
texts_of o =
    digits_text (from_of o.range) ∷ letter_text (from_of o.range)
    ∷ digits_text (to_of o.range) ∷ letter_text (to_of o.range)
    ∷ unwrap_or o.text [] ∷ []

-- what an object writes reads back as the same object
abbrev pub ObjectsReadBack : Type 0
ObjectsReadBack = (o : ObjectValue) → is_object o ≡ true → object_of_fields (texts_of o) ≡ Ok o
