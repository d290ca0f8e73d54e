-- What a write, and a change of its length, make of the bytes of a file.
use Rattle.std.specs.Prelude.{◌≡◌, ◌+◌, ◌<◌, ◌≤◌, ℕ, max, List, length, slice_index}

-- the bytes were written at the offset: they stand there, zeros fill what lies between the old end
-- and them, and all else is as it was
pub record IsWritten (at : ℕ) (bytes old new : List ℕ) : Type 0 where
  pub length_is : length new ≡ max (length old) (at + length bytes)
  pub there : (i : ℕ) → i < length bytes → slice_index new (at + i) ≡ slice_index bytes i
  pub before : (i : ℕ) → i < length old → i < at → slice_index new i ≡ slice_index old i
  pub gap : (i : ℕ) → length old ≤ i → i < at → slice_index new i ≡ 0
  pub behind : (i : ℕ) → i < length old → at + length bytes ≤ i
      → slice_index new i ≡ slice_index old i

-- the file has this length: what lies below the old end and the new one stays, what is new is zeros
pub record IsResized (size : ℕ) (old new : List ℕ) : Type 0 where
  pub length_is : length new ≡ size
  pub below : (i : ℕ) → i < length old → i < size → slice_index new i ≡ slice_index old i
  pub zeros : (i : ℕ) → length old ≤ i → i < size → slice_index new i ≡ 0
