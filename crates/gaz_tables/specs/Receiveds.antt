-- The rows of `received`, by their columns, and what its queries find.
use Rattle.std.specs.Prelude.{◌≡◌, ℕ, ℤ, pos, ◌<ℤ◌, ◌≤◌, length, List, [], ◌∷◌}
use Rattle.std.specs.declared.cmp.Ordering.TheVariants.{Less}
use Rattle.sqlite.specs.declared.types.Value.{Value}
use Rattle.sqlite.specs.declared.types.Value.TheVariants.{Int, Blob}
use Rattle.sqlite.specs.Order.{Row, column, value_cmp}
use Rattle.sqlite_trees.specs.Tree.{IsAscending}
use Rattle.gaz_sql_facts.specs.Changes.{IsChanged}
use Rattle.gaz_tables.specs.Shows.{ShowsAll, ShowsPage}

-- a row's values: its rowid comes first
abbrev pub cust_of : Row → Value
cust_of r = column r 1

abbrev pub volume_of : Row → Value
volume_of r = column r 2

abbrev pub bytes_of : Row → Value
bytes_of r = column r 3

abbrev pub state_of : Row → Value
state_of r = column r 4

abbrev pub place_of : Row → Value
place_of r = column r 5

abbrev pub rule_of : Row → Value
rule_of r = column r 6

-- where `volume` stands
abbrev pub volume_place : ℕ
volume_place = 2

-- the row is that of a volume
pub record IsVolume (cust volume : ℕ) (r : Row) : Type 0 where
  pub of_cust : cust_of r ≡ Int (pos cust)
  pub of_volume : volume_of r ≡ Int (pos volume)

-- the row is that of a volume above
pub record IsAbove (cust volume : ℕ) (r : Row) : Type 0 where
  pub of_cust : cust_of r ≡ Int (pos cust)
  pub above : (n : ℤ) × (volume_of r ≡ Int n) × (pos volume <ℤ n)

-- what is shown of a row
abbrev pub file_shown : Row → Row
file_shown r = bytes_of r ∷ state_of r ∷ place_of r ∷ rule_of r ∷ []

abbrev pub verdict_shown : Row → Row
verdict_shown r = state_of r ∷ place_of r ∷ rule_of r ∷ []

abbrev pub volume_shown : Row → Row
volume_shown r = volume_of r ∷ []

-- the bytes of a volume, with its state, place and rule
abbrev pub FindsFile : ℕ → ℕ → List Row → List Row → Type 0
FindsFile cust volume rows answer = ShowsAll (IsVolume cust volume) file_shown rows answer

-- the state of a volume, with its place and rule
abbrev pub FindsVerdict : ℕ → ℕ → List Row → List Row → Type 0
FindsVerdict cust volume rows answer = ShowsAll (IsVolume cust volume) verdict_shown rows answer

-- the volumes above one, as they rise, each once: the first so many
pub record FindsAbove (cust volume most : ℕ) (rows answer : List Row) : Type 0 where
  pub page : ShowsPage (IsAbove cust volume) volume_place most volume_shown rows answer
  pub strict : IsAscending (λ a b. value_cmp (volume_of a) (volume_of b) ≡ Less) page.chosen

-- the answer is one row or none
abbrev pub AtMostOne : List Row → List Row → Type 0
AtMostOne rows answer = length answer ≤ 1

-- the values of a row that nobody has judged
abbrev pub unjudged : ℕ → ℕ → List ℕ → Row
unjudged cust volume bytes =
    Int (pos cust) ∷ Int (pos volume) ∷ Blob bytes ∷ Int (pos 0) ∷ Int (pos 0) ∷ Int (pos 0) ∷ []

-- the row, judged
abbrev pub judged : ℕ → ℤ → ℕ → Row → Row
judged state place rule r = column r 0 ∷ cust_of r ∷ volume_of r ∷ bytes_of r ∷ Int (pos state)
    ∷ Int place ∷ Int (pos rule) ∷ []

-- the rows, and that of a volume is applied
abbrev pub Applies : ℕ → ℕ → List Row → List Row → Type 0
Applies cust volume old new = IsChanged (IsVolume cust volume) (judged 1 (pos 0) 0) old new

-- the rows, and that of a volume is rejected at a place by a rule
abbrev pub Rejects : ℕ → ℕ → ℤ → ℕ → List Row → List Row → Type 0
Rejects cust volume place rule old new =
    IsChanged (IsVolume cust volume) (judged 2 place rule) old new
