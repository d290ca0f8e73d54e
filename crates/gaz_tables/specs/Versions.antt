-- The rows of `version2`, by their columns, and what its queries find.
use Rattle.std.specs.Prelude.{◌≡◌, ℕ, ℤ, pos, ◌≤ℤ◌, ◌<ℤ◌, Bool, if◌then◌else◌, List, [], ◌∷◌}
use Rattle.std.specs.Ordering.{nat_cmp}
use Rattle.std.specs.Cmp.Lexicographic.{slice_cmp}
use Rattle.std.specs.declared.cmp.Ordering.TheVariants.{Greater}
use Rattle.sqlite.specs.declared.types.Value.{Value}
use Rattle.sqlite.specs.declared.types.Value.TheVariants.{Int, Text}
use Rattle.sqlite.specs.Order.{Row, column}
use Rattle.gaz_sql_facts.specs.Changes.{IsChanged}
use Rattle.gaz_tables.specs.Shows.{ShowsAll, ShowsPage, ShowsGreatest}

-- a row's values: its rowid comes first
abbrev pub cust_of : Row → Value
cust_of r = column r 1

abbrev pub kind_of : Row → Value
kind_of r = column r 2

abbrev pub id_of : Row → Value
id_of r = column r 3

abbrev pub blpu_of : Row → Value
blpu_of r = column r 4

abbrev pub street_of : Row → Value
street_of r = column r 5

abbrev pub lang_of : Row → Value
lang_of r = column r 6

abbrev pub live_of : Row → Value
live_of r = column r 7

abbrev pub born_of : Row → Value
born_of r = column r 8

abbrev pub gone_of : Row → Value
gone_of r = column r 9

abbrev pub body_of : Row → Value
body_of r = column r 10

abbrev pub hop_of : Row → Value
hop_of r = column r 11

-- where `id` and `born` stand
abbrev pub id_place : ℕ
id_place = 3

abbrev pub born_place : ℕ
born_place = 8

-- `gone` of a row that is current
abbrev pub never : ℤ
never = pos 1000000

-- the row is one of a key
pub record IsOfKey (cust kind : ℕ) (id : List ℕ) (r : Row) : Type 0 where
  pub of_cust : cust_of r ≡ Int (pos cust)
  pub of_kind : kind_of r ≡ Int (pos kind)
  pub of_id : id_of r ≡ Text id

-- the row was born in a volume or before
abbrev pub IsBornBy : ℕ → Row → Type 0
IsBornBy volume r = (n : ℤ) × (born_of r ≡ Int n) × (n ≤ℤ pos volume)

-- the row went after a volume, or not yet
abbrev pub IsGoneAfter : ℕ → Row → Type 0
IsGoneAfter volume r = (n : ℤ) × (gone_of r ≡ Int n) × (pos volume <ℤ n)

-- the row's id comes behind a text, byte by byte
abbrev pub IsBehind : List ℕ → Row → Type 0
IsBehind after r = (t : List ℕ) × (id_of r ≡ Text t) × (slice_cmp nat_cmp t after ≡ Greater)

-- the row is one of a key, born until a volume
pub record IsOfKeyUntil (cust kind : ℕ) (id : List ℕ) (volume : ℕ) (r : Row) : Type 0 where
  pub of_key : IsOfKey cust kind id r
  pub early : IsBornBy volume r

-- the row is one of a kind that holds after a volume, and comes behind an id
pub record IsHolding (cust kind : ℕ) (after : List ℕ) (volume : ℕ) (r : Row) : Type 0 where
  pub of_cust : cust_of r ≡ Int (pos cust)
  pub of_kind : kind_of r ≡ Int (pos kind)
  pub behind : IsBehind after r
  pub early : IsBornBy volume r
  pub late : IsGoneAfter volume r

-- the row is live and current, and of kind 24
pub record IsApproved (cust : ℕ) (r : Row) : Type 0 where
  pub of_cust : cust_of r ≡ Int (pos cust)
  pub of_kind : kind_of r ≡ Int (pos 24)
  pub is_live : live_of r ≡ Int (pos 1)
  pub is_current : gone_of r ≡ Int never

pub record IsApprovedOf (cust : ℕ) (blpu : ℤ) (r : Row) : Type 0 where
  pub approved : IsApproved cust r
  pub of_blpu : blpu_of r ≡ Int blpu

pub record IsApprovedOn (cust street : ℕ) (after : List ℕ) (r : Row) : Type 0 where
  pub approved : IsApproved cust r
  pub on_street : street_of r ≡ Int (pos street)
  pub behind : IsBehind after r

-- the row is a current one of a kind with this `blpu`, and comes behind an id
pub record IsPartOf (cust kind : ℕ) (blpu : ℤ) (after : List ℕ) (r : Row) : Type 0 where
  pub of_cust : cust_of r ≡ Int (pos cust)
  pub of_kind : kind_of r ≡ Int (pos kind)
  pub of_blpu : blpu_of r ≡ Int blpu
  pub is_current : gone_of r ≡ Int never
  pub behind : IsBehind after r

-- what is shown of a row
abbrev pub life_shown : Row → Row
life_shown r = born_of r ∷ gone_of r ∷ body_of r ∷ []

abbrev pub body_shown : Row → Row
body_shown r = id_of r ∷ body_of r ∷ []

abbrev pub lang_shown : Row → Row
lang_shown r = id_of r ∷ lang_of r ∷ []

abbrev pub id_shown : Row → Row
id_shown r = id_of r ∷ []

-- the key's row that was born last, or nothing
abbrev pub FindsNewest : ℕ → ℕ → List ℕ → List Row → List Row → Type 0
FindsNewest cust kind id rows answer =
    ShowsGreatest (IsOfKey cust kind id) born_place life_shown rows answer

-- the key's row that was born last until a volume, or nothing
abbrev pub FindsNewestUntil : ℕ → ℕ → List ℕ → ℕ → List Row → List Row → Type 0
FindsNewestUntil cust kind id volume rows answer =
    ShowsGreatest (IsOfKeyUntil cust kind id volume) born_place life_shown rows answer

-- the rows of a kind that hold after a volume, behind an id and as ids rise: the first so many
abbrev pub FindsHolding : ℕ → ℕ → List ℕ → ℕ → ℕ → List Row → List Row → Type 0
FindsHolding cust kind after volume most rows answer =
    ShowsPage (IsHolding cust kind after volume) id_place most body_shown rows answer

-- the approved rows of a BLPU
abbrev pub FindsApprovedOf : ℕ → ℤ → List Row → List Row → Type 0
FindsApprovedOf cust blpu rows answer = ShowsAll (IsApprovedOf cust blpu) body_shown rows answer

-- the approved rows on a street, behind an id and as ids rise: the first so many
abbrev pub FindsApprovedOn : ℕ → ℕ → List ℕ → ℕ → List Row → List Row → Type 0
FindsApprovedOn cust street after most rows answer =
    ShowsPage (IsApprovedOn cust street after) id_place most lang_shown rows answer

-- what of a kind is of a BLPU, behind an id and as ids rise: the first so many
abbrev pub FindsParts : ℕ → ℕ → ℤ → List ℕ → ℕ → List Row → List Row → Type 0
FindsParts cust kind blpu after most rows answer =
    ShowsPage (IsPartOf cust kind blpu after) id_place most id_shown rows answer

-- the values of a row
abbrev pub version_values : ℕ → ℕ → List ℕ → ℤ → ℕ → ℕ → Bool → ℕ → ℕ → List ℕ → ℕ → Row
version_values cust kind id blpu street lang live born gone body hop =
    Int (pos cust) ∷ Int (pos kind) ∷ Text id ∷ Int blpu ∷ Int (pos street) ∷ Int (pos lang)
    ∷ Int (if live then pos 1 else pos 0) ∷ Int (pos born) ∷ Int (pos gone) ∷ Text body
    ∷ Int (pos hop) ∷ []

-- the row of a key that was born in a volume
pub record IsOfBirth (cust kind : ℕ) (id : List ℕ) (born : ℕ) (r : Row) : Type 0 where
  pub of_key : IsOfKey cust kind id r
  pub of_born : born_of r ≡ Int (pos born)

-- the row, gone at a volume
abbrev pub gone_at : ℕ → Row → Row
gone_at volume r =
    column r 0 ∷ cust_of r ∷ kind_of r ∷ id_of r ∷ blpu_of r ∷ street_of r ∷ lang_of r ∷ live_of r
    ∷ born_of r ∷ Int (pos volume) ∷ body_of r ∷ hop_of r ∷ []

-- the rows, and the one of this birth is gone at a volume
abbrev pub Closes : ℕ → ℕ → List ℕ → ℕ → ℕ → List Row → List Row → Type 0
Closes cust kind id born gone old new =
    IsChanged (IsOfBirth cust kind id born) (gone_at gone) old new
