-- Keys as two numbers that compare as keys do.
use Rattle.std.specs.Prelude.{◌≡◌, codes, ℕ, zero, suc, ◌+◌, ◌*◌, ◌/◌, ◌%◌, ◌<◌, ◌==◌}
use Rattle.std.specs.Prelude.{if◌then◌else◌, Bool, true, List, [], ◌∷◌, ◌++◌, take}
use Rattle.gaz_ids.specs.declared.lang.Lang.{Lang}
use Rattle.gaz_ids.specs.declared.lang.Lang.TheVariants.{Cym, Eng}
use Rattle.std.specs.Hash as fed
use Rattle.std.specs.Hash.{HashWrites}
use Rattle.gaz_fields.specs.Labels.{before_zero, first_half, is_label, second_half, seven_bytes}
use Rattle.gaz_records.specs.Keys.{kind_number, number_in}
use Rattle.gaz_records.specs.Kinds.{number_of}
use Rattle.gaz_records.specs.declared.item.Kind.TheVariants as kinds
use Rattle.gaz_records.specs.declared.key.Key.{Key}
use Rattle.gaz_records.specs.declared.key.Key.TheVariants as key

-- what stands behind the kind in the first number
abbrev pub behind_kind : Key → ℕ
behind_kind (key.Street n) = n
behind_kind (key.Descriptor n l) = n
behind_kind (key.Blpu n) = n
behind_kind (key.Xref t) = first_half t
behind_kind (key.Lpi t) = first_half t

abbrev pub high_of : Key → ℕ
high_of k = kind_number k * seven_bytes + behind_kind k

-- languages in their order
abbrev pub lang_rank : Lang → ℕ
lang_rank Cym = 0
lang_rank Eng = 1

abbrev pub low_of : Key → ℕ
low_of (key.Street n) = 0
low_of (key.Descriptor n l) = lang_rank l
low_of (key.Blpu n) = 0
low_of (key.Xref t) = second_half t
low_of (key.Lpi t) = second_half t

-- what a hasher of a key takes: its two numbers
abbrev pub written : Key → HashWrites
written k = fed.u64 (high_of k) ++ fed.u64 (low_of k)

-- a text in a key is a label
abbrev pub has_label : Key → Bool
has_label (key.Street n) = true
has_label (key.Descriptor n l) = true
has_label (key.Blpu n) = true
has_label (key.Xref t) = is_label 14 t
has_label (key.Lpi t) = is_label 14 t

-- ---- the key that two numbers are

-- so many bytes of a number, the foremost first
unfoldable pub bytes_of : ℕ → ℕ → List ℕ
bytes_of zero w = []
bytes_of (suc n) w = bytes_of n (w / 256) ++ w % 256 ∷ []

abbrev pub text_of : List ℕ → List ℕ
text_of bytes = take (before_zero bytes) bytes

abbrev pub label_in : ℕ → ℕ → List ℕ
label_in first second = text_of (bytes_of 7 first ++ bytes_of 7 second)

abbrev pub key_from : ℕ → ℕ → ℕ → Key
key_from kind rest low =
    if kind == number_of kinds.Street then key.Street rest else
    if kind == number_of kinds.Descriptor
    then key.Descriptor rest (if low == 0 then Cym else Eng) else
    if kind == number_of kinds.Blpu then key.Blpu rest else
    if kind == number_of kinds.Xref then key.Xref (label_in rest low) else
    key.Lpi (label_in rest low)

abbrev pub key_at : ℕ → ℕ → Key
key_at high low = key_from (high / seven_bytes) (high % seven_bytes) low

-- two numbers that are those of a key
pub record IsSortKey (high low : ℕ) : Type 0 where
  pub first : high_of (key_at high low) ≡ high
  pub second : low_of (key_at high low) ≡ low
  pub number : number_in (key_at high low) < seven_bytes
  pub label : has_label (key_at high low) ≡ true

-- ---- property 42, the English name of street 101, and LPI K1

abbrev pub WorkedSortKeys : Type 0
WorkedSortKeys =
    (high_of (key.Blpu 42) ≡ 1513209474796486698) × (low_of (key.Blpu 42) ≡ 0)
    × (high_of (key.Descriptor 101 Eng) ≡ 1080863910568919141)
    × (low_of (key.Descriptor 101 Eng) ≡ 1)
    × (high_of (key.Lpi (codes "K1")) ≡ 1750546756233330688) × (low_of (key.Lpi (codes "K1")) ≡ 0)
    × (key_at 1513209474796486698 0 ≡ key.Blpu 42)
    × (key_at 1080863910568919141 1 ≡ key.Descriptor 101 Eng)
    × (key_at 1750546756233330688 0 ≡ key.Lpi (codes "K1"))
