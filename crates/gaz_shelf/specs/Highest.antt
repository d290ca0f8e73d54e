-- The highest volume that was received of each custodian, and the files up to it.
use Rattle.std.specs.Prelude.{◌≡◌, ℕ, ◌==◌, nat_le, not, ◌&&◌, Bool, false, true, List, is_some}
use Rattle.std.specs.BTreeMap.{is_at}
use Rattle.std.specs.BTreeMap.Range.{entries_between}
use Rattle.std.specs.FinMap as map
use Rattle.std.specs.Map.{lookup}
use Rattle.std.specs.Option.{option_map_or}
use Rattle.std.specs.Ordering.{nat_cmp}
use Rattle.std.specs.declared.ops.Bound.TheVariants.{Included}
use Rattle.gaz_keeper.specs.Received.{Received, pair_cmp}

-- a volume is at or below the highest of a custodian
abbrev pub is_below : List (ℕ × ℕ) → ℕ → ℕ → Bool
is_below highest c volume = option_map_or (nat_le volume) (lookup (is_at (nat_cmp c)) highest) false

-- each file of a custodian that was received is at or below the highest of its volumes
abbrev pub AreBelow : List (ℕ × ℕ) → Received → Type 0
AreBelow highest files =
    (c volume : ℕ) → is_some (map.get files (c, volume)) ≡ true → is_below highest c volume ≡ true

-- a pair is of a custodian, above a volume and up to another
abbrev pub is_between : ℕ → ℕ → ℕ → ℕ × ℕ → Bool
is_between c reached highest p = (p.0 == c) && (not (nat_le p.1 reached) && nat_le p.1 highest)

-- the files from a pair to another
abbrev pub files_between : {X : Type 0} → ℕ × ℕ → ℕ × ℕ → List ((ℕ × ℕ) × X) → List ((ℕ × ℕ) × X)
files_between first last files = entries_between pair_cmp (Included first) (Included last) files
