-- The versions that a history keeps.
use Rattle.std.specs.Prelude.{◌&&◌, ℕ, nat_lt, Bool, true, false, ◌∷◌, [], List, map, None, Some}
use Rattle.std.specs.Prelude.{is_some}
use Rattle.gaz_histories.specs.Histories.{Version, Versions}
use Rattle.gaz_histories.specs.declared.kept.Kept.{Kept}
use Rattle.gaz_histories.specs.declared.kept.Kept.TheVariants.{Gone, Never, Several, Standing}
use Rattle.gaz_histories.specs.declared.versions.Version as declared

abbrev pub version_in : {T : Type 0} → declared.Version T → Version T
version_in v = (v.since, v.standing)

abbrev pub versions_of : {T : Type 0} → List (declared.Version T) → Versions T
versions_of vs = map version_in vs

-- the version begins after a volume, and something stands from it on
abbrev pub stands_after : {T : Type 0} → ℕ → Version T → Bool
stands_after volume v = nat_lt volume v.0 && is_some v.1

-- none, one of two kinds, or those of a vector
abbrev pub versions_in : {T : Type 0} → Kept T → Versions T
versions_in Never = []
versions_in (Standing since x) = (since, Some x) ∷ []
versions_in (Gone since) = (since, None) ∷ []
versions_in (Several b) = versions_of b.value.items

-- whether it is one version without a vector
abbrev pub is_one : {T : Type 0} → Kept T → Bool
is_one (Standing since x) = true
is_one (Gone since) = true
is_one _ = false

-- whether it is one version without a vector, and it begins before a volume
abbrev pub is_one_before : {T : Type 0} → Kept T → ℕ → Bool
is_one_before (Standing since x) volume = nat_lt since volume
is_one_before (Gone since) volume = nat_lt since volume
is_one_before _ volume = false
