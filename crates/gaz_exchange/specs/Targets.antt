-- What a request's target names, byte by byte as it stands.
use Rattle.std.specs.Prelude.{ℕ, ◌==◌, ◌&&◌, nat_lt, Bool, if◌then◌else◌, List, [], ◌∷◌, length}
use Rattle.std.specs.Prelude.{codes, bytes_eq}
use Rattle.std.specs.List.{slice_split}
use Rattle.std.specs.Result.{result_unwrap_or}
use Rattle.gaz_ids.specs.Limits.{last_code, last_volume}
use Rattle.gaz_ids.specs.Numbers.{read_id}

-- what a target names, by the texts of its numbers
pub data Target : Type 0 where
  -- a custodian's volume
  Volume : List ℕ → List ℕ → Target
  Custodian : List ℕ → Target
  -- the extract of a custodian's volume
  Extract : List ℕ → List ℕ → Target
  Property : List ℕ → Target
  -- the closed streets
  Closed : Target
  Nowhere : Target

-- the segments that slashes divide
abbrev pub segments : List ℕ → List (List ℕ)
segments target = slice_split (λ b. b == 47) target

-- the segment isn't empty
abbrev pub is_filled : List ℕ → Bool
is_filled segment = nat_lt 0 (length segment)

-- /closed
abbrev pub of_one : List ℕ → Target
of_one first = if bytes_eq first (codes "closed") then Closed else Nowhere

-- /custodians/{c} and /uprn/{n}, where the number isn't empty
abbrev pub of_two : List ℕ → List ℕ → Target
of_two first n =
    if bytes_eq first (codes "custodians") && is_filled n then Custodian n
    else (if bytes_eq first (codes "uprn") && is_filled n then Property n else Nowhere)

-- /extract/{c}/{v}, where neither {c} nor {v} is empty
abbrev pub of_three : List ℕ → List ℕ → List ℕ → Target
of_three first c v =
    if bytes_eq first (codes "extract") && is_filled c && is_filled v then Extract c v
    else Nowhere

-- /custodians/{c}/volumes/{v}, where neither {c} nor {v} is empty
abbrev pub of_four : List ℕ → List ℕ → List ℕ → List ℕ → Target
of_four first c second v =
    if bytes_eq first (codes "custodians") && bytes_eq second (codes "volumes")
    && is_filled c && is_filled v
    then Volume c v else Nowhere

-- what the segments name, of which the first is empty, since a target begins with a slash
abbrev pub of_segments : List (List ℕ) → Target
of_segments ([] ∷ first ∷ []) = of_one first
of_segments ([] ∷ first ∷ n ∷ []) = of_two first n
of_segments ([] ∷ first ∷ c ∷ v ∷ []) = of_three first c v
of_segments ([] ∷ first ∷ c ∷ second ∷ v ∷ []) = of_four first c second v
of_segments _ = Nowhere

-- what a target names
unfoldable pub target_of : List ℕ → Target
target_of target = of_segments (segments target)

-- the code that the digits write, or 0, which no custodian has
abbrev pub code_in : List ℕ → ℕ
code_in text = result_unwrap_or (read_id 4 1 last_code text) 0

-- the volume that the digits write, or 0, which is none
abbrev pub volume_in : List ℕ → ℕ
volume_in text = result_unwrap_or (read_id 6 1 last_volume text) 0
