-- Labels of letters and digits, as the keys of records.
use Rattle.std.specs.Prelude.{◌≡◌, ℕ, zero, suc, ◌+◌, ◌*◌, ◌-◌, ◌<◌, ◌==◌, not, ◌&&◌, ◌||◌, nat_le}
use Rattle.std.specs.Prelude.{Bool, true, List, [], ◌∷◌, ◌++◌, length, take, drop, replicate}
use Rattle.std.specs.Prelude.{Option, Some, None, if◌then◌else◌, slice_index}
use Rattle.std.specs.List.{prefix_len}
use Rattle.std.specs.declared.cmp.Ordering.{Ordering}
use Rattle.std.specs.Ordering.{nat_cmp, eq_by_cmp}
use Rattle.std.specs.Cmp.Lexicographic.{slice_cmp}

-- A to Z or 0 to 9
abbrev pub is_label_byte : ℕ → Bool
is_label_byte b = (nat_le 65 b && nat_le b 90) || (nat_le 48 b && nat_le b 57)

abbrev pub are_label_bytes : List ℕ → Bool
are_label_bytes [] = true
are_label_bytes (b ∷ bs) = is_label_byte b && are_label_bytes bs

-- 1 to so many of them
abbrev pub is_label : ℕ → List ℕ → Bool
is_label most t = nat_le 1 (length t) && nat_le (length t) most && are_label_bytes t

abbrev pub label_of : ℕ → List ℕ → Option (List ℕ)
label_of most t = if is_label most t then Some t else None

-- labels are in the order of their bytes
abbrev pub label_cmp : List ℕ → List ℕ → Ordering
label_cmp = slice_cmp nat_cmp

abbrev pub label_eq : List ℕ → List ℕ → Bool
label_eq = eq_by_cmp label_cmp

-- the bytes with 0 behind them, so many in all
abbrev pub padded : ℕ → List ℕ → List ℕ
padded most t = t ++ replicate (most - length t) 0

-- how many bytes stand before the first 0
abbrev pub before_zero : List ℕ → ℕ
before_zero = prefix_len (λ b. not (b == 0))

-- the first of these bytes are a label, and the others are 0
pub record IsPadded (most len : ℕ) (bytes : List ℕ) : Type 0 where
  pub taken : length (take len bytes) ≡ len
  pub label : is_label most (take len bytes) ≡ true
  pub rest : padded most (take len bytes) ≡ bytes

-- the first so many bytes as one number, the first byte foremost, with 0 for each byte that is not
-- there
unfoldable pub word : ℕ → List ℕ → ℕ
word zero bytes = 0
word (suc n) bytes = word n bytes * 256 + slice_index bytes n

-- how many numbers seven bytes can write
abbrev pub seven_bytes : ℕ
seven_bytes = 72057594037927936

-- the first seven bytes of a label as one number, and the other seven
abbrev pub first_half : List ℕ → ℕ
first_half t = word 7 (padded 14 t)

abbrev pub second_half : List ℕ → ℕ
second_half t = word 7 (drop 7 (padded 14 t))

-- each is below 256
abbrev pub AreBytes : List ℕ → Type 0
AreBytes bytes = (i : ℕ) → slice_index bytes i < 256
