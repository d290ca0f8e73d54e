-- What the queries find of the rows of kind 92, which say what became of a number.
use Rattle.std.specs.Prelude.{◌≡◌, ◌⊎◌, ℕ, ℤ, pos, ◌<ℤ◌, List, [], ◌∷◌, map, take, IsSorted}
use Rattle.std.specs.Ordering.{on, then_cmp}
use Rattle.std.specs.declared.cmp.Ordering.{Ordering}
use Rattle.sqlite.specs.declared.types.Value.TheVariants.{Int, Text}
use Rattle.sqlite.specs.Order.{Row, value_cmp}
use Rattle.gaz_tables.specs.Shows.{Picks, ShowsGreatest}
use Rattle.gaz_tables.specs.Versions.{IsBehind, IsOfKey, IsOfKeyUntil, born_of, born_place, cust_of}
use Rattle.gaz_tables.specs.Versions.{body_of, gone_of, hop_of, id_of, kind_of, lang_of, live_of}
use Rattle.gaz_tables.specs.Versions.{street_of}

-- the kind of such a row
abbrev pub custody_kind : ℕ
custody_kind = 92

-- what is shown of a row
abbrev pub custody_shown : Row → Row
custody_shown r =
    born_of r ∷ gone_of r ∷ live_of r ∷ street_of r ∷ hop_of r ∷ lang_of r ∷ body_of r ∷ []

-- the number's row that was born last, or nothing
abbrev pub FindsCustody : ℕ → List ℕ → List Row → List Row → Type 0
FindsCustody cust id rows answer =
    ShowsGreatest (IsOfKey cust custody_kind id) born_place custody_shown rows answer

-- the number's row that was born last until a volume, or nothing
abbrev pub FindsCustodyUntil : ℕ → List ℕ → ℕ → List Row → List Row → Type 0
FindsCustodyUntil cust id volume rows answer =
    ShowsGreatest (IsOfKeyUntil cust custody_kind id volume) born_place custody_shown rows answer

-- the row was born after a volume
abbrev pub IsBornAfter : ℕ → Row → Type 0
IsBornAfter volume r = (n : ℤ) × (born_of r ≡ Int n) × (pos volume <ℤ n)

-- its id comes behind one, or is that one and it was born after a volume
abbrev pub ComesBehind : List ℕ → ℕ → Row → Type 0
ComesBehind id born r = IsBehind id r ⊎ ((id_of r ≡ Text id) × IsBornAfter born r)

-- the row is a custodian's of kind 92, and comes behind an id and a volume
pub record IsCustodyBehind (cust : ℕ) (id : List ℕ) (born : ℕ) (r : Row) : Type 0 where
  pub of_cust : cust_of r ≡ Int (pos cust)
  pub of_kind : kind_of r ≡ Int (pos custody_kind)
  pub behind : ComesBehind id born r

-- what is shown of a row among others
abbrev pub listed_shown : Row → Row
listed_shown r = id_of r ∷ custody_shown r

-- by id, and for one id by birth
abbrev pub by_id_and_birth : Row → Row → Ordering
by_id_and_birth = then_cmp (on id_of value_cmp) (on born_of value_cmp)

-- a custodian's rows behind an id and a volume, as ids rise and for each as births do: the first so
-- many
pub record FindsCustodyBehind (cust : ℕ) (id : List ℕ) (born most : ℕ) (rows answer : List Row)
    : Type 0 where
  pub chosen : List Row
  pub picks : Picks (IsCustodyBehind cust id born) rows chosen
  pub rising : IsSorted by_id_and_birth chosen
  pub shown : answer ≡ map listed_shown (take most chosen)
