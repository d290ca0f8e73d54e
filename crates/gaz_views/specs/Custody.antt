-- What became of a number that passes between custodians.
use Rattle.std.specs.Prelude.{ℕ, Bool, true, false, Option, Some, None}
use Rattle.gaz_views.specs.declared.custody.Custody.{Custody}
use Rattle.gaz_views.specs.declared.custody.Custody.TheVariants.{Adopted, Released}

-- how often the number had passed on by then, this time too
abbrev pub hop_in : Custody → ℕ
hop_in (Released to hop) = hop
hop_in (Adopted from hop) = hop

-- a custodian's own hop: 0 where the number never passed through its gazetteer
abbrev pub hop_of : Option Custody → ℕ
hop_of None = 0
hop_of (Some custody) = hop_in custody

-- a custodian holds the number: it adopted it, or nothing became of it and it is of its own blocks
abbrev pub is_holding : Bool → Option Custody → Bool
is_holding own None = own
is_holding own (Some (Released to hop)) = false
is_holding own (Some (Adopted from hop)) = true
