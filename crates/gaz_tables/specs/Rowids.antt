-- What the queries find that go through `version2` in the order of its rowids.
use Rattle.std.specs.Prelude.{◌≡◌, ℕ, ℤ, ◌<ℤ◌, List, [], ◌∷◌}
use Rattle.std.specs.declared.cmp.Ordering.TheVariants.{Less}
use Rattle.sqlite.specs.declared.types.Value.{Value}
use Rattle.sqlite.specs.declared.types.Value.TheVariants.{Int}
use Rattle.sqlite.specs.Order.{Row, column, value_cmp}
use Rattle.sqlite_trees.specs.Tree.{IsAscending}
use Rattle.gaz_tables.specs.Shows.{IsAnyRow, ShowsPage}
use Rattle.gaz_tables.specs.Versions.{blpu_of, body_of, born_of, cust_of, gone_of, id_of, kind_of}
use Rattle.gaz_tables.specs.Versions.{hop_of, lang_of, live_of, street_of}

abbrev pub rowid_of : Row → Value
rowid_of r = column r 0

-- where the rowid stands
abbrev pub rowid_place : ℕ
rowid_place = 0

-- the row's rowid comes behind a number
abbrev pub IsPlacedBehind : ℤ → Row → Type 0
IsPlacedBehind after r = (n : ℤ) × (rowid_of r ≡ Int n) × (after <ℤ n)

-- all of a row is shown
abbrev pub row_shown : Row → Row
row_shown r = rowid_of r ∷ cust_of r ∷ kind_of r ∷ id_of r ∷ blpu_of r ∷ street_of r ∷ lang_of r
    ∷ live_of r ∷ born_of r ∷ gone_of r ∷ body_of r ∷ hop_of r ∷ []

-- the rows that fit, as rowids rise, each once: the first so many
pub record FindsInTurn (Fits : Row → Type 0) (most : ℕ) (rows answer : List Row) : Type 0 where
  pub page : ShowsPage Fits rowid_place most row_shown rows answer
  pub strict : IsAscending (λ a b. value_cmp (rowid_of a) (rowid_of b) ≡ Less) page.chosen

-- all rows, as rowids rise: the first so many
abbrev pub FindsFirst : ℕ → List Row → List Row → Type 0
FindsFirst most rows answer = FindsInTurn IsAnyRow most rows answer

-- the rows behind a rowid, as rowids rise: the first so many
abbrev pub FindsBehind : ℤ → ℕ → List Row → List Row → Type 0
FindsBehind after most rows answer = FindsInTurn (IsPlacedBehind after) most rows answer
