-- What stood at a key through the volumes of a gazetteer.
use Rattle.std.specs.Prelude.{◌≡◌, ◌≤◌, ℕ, nat_le, nat_lt, Bool, true, false, List, [], ◌∷◌, ◌++◌}
use Rattle.std.specs.Prelude.{filter, map, fold, Option, None, Some}
use Rattle.std.specs.List.{list_any}
use Rattle.std.specs.List.Sorted.{IsStrictlySortedBy}
use Rattle.std.specs.Ordering.{nat_cmp}

-- a volume, and what stands at the key from it on, or nothing any more
abbrev pub Version : Type 0 → Type 0
Version T = ℕ × Option T

-- the versions of a key
abbrev pub Versions : Type 0 → Type 0
Versions T = List (Version T)

abbrev pub is_empty : {T : Type 0} → Versions T → Bool
is_empty [] = true
is_empty (v ∷ vs) = false

-- each begins at a later volume than those before it
abbrev pub Ascends : {T : Type 0} → Versions T → Type 0
Ascends vs = IsStrictlySortedBy nat_cmp (map (λ v. v.0) vs)

-- those that begin at a volume or before it
abbrev pub until : {T : Type 0} → Versions T → ℕ → Versions T
until vs volume = filter (λ v. nat_le v.0 volume) vs

-- those that begin before a volume
abbrev pub before : {T : Type 0} → Versions T → ℕ → Versions T
before vs volume = filter (λ v. nat_lt v.0 volume) vs

-- what stands at the key after a volume: each version until then replaces what stood there
abbrev pub standing_at : {T : Type 0} → Versions T → ℕ → Option T
standing_at vs volume = fold (λ i v. v.1) None (until vs volume)

-- the key was used at a volume or before it
abbrev pub was_used_at : {T : Type 0} → Versions T → ℕ → Bool
was_used_at vs volume = list_any (λ v. nat_le v.0 volume) vs

-- not all of them begin before a volume
abbrev pub BeginsFrom : {T : Type 0} → Versions T → ℕ → Type 0
BeginsFrom vs volume = before vs volume ≡ vs → ⊥

-- nothing stands at the key after a volume, nor after any later one
abbrev pub IsOverBy : {T : Type 0} → Versions T → ℕ → Type 0
IsOverBy vs volume = (later : ℕ) → volume ≤ later → standing_at vs later ≡ None

-- from a volume on this stands at the key, or nothing; what began at the volume or after it is
-- forgotten
abbrev pub with_version : {T : Type 0} → Versions T → ℕ → Option T → Versions T
with_version vs volume standing = before vs volume ++ (volume, standing) ∷ []

-- this stands at the key from a volume on, and until another where one is given
abbrev pub lived : {T : Type 0} → Versions T → ℕ → Option ℕ → T → Versions T
lived vs born None x = with_version vs born (Some x)
lived vs born (Some gone) x = with_version (with_version vs born (Some x)) gone None
