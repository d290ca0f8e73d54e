-- What a SELECT answers, by the values of a table's rows.
use Rattle.std.specs.Prelude.{◌≡◌, ⊤, ℕ, ℤ, ◌≤ℤ◌, Bool, true, List, [], ◌∷◌, filter, map, take}
use Rattle.std.specs.Prelude.{IsPermutation, IsSorted}
use Rattle.std.specs.Ordering.{on}
use Rattle.sqlite_value.specs.declared.value.Value.TheVariants.{Int}
use Rattle.sqlite_value.specs.Order.{Row, column, value_cmp}
use Rattle.sqlite_rules.specs.Lists.{Has}

-- any row
abbrev pub IsAnyRow : Row → Type 0
IsAnyRow r = ⊤

-- the rows that fit, each as often as it is there, in some order
pub record Picks (Fits : Row → Type 0) (rows chosen : List Row) : Type 0 where
  pub test : Row → Bool
  pub sound : (r : Row) → Has rows r → test r ≡ true → Fits r
  pub complete : (r : Row) → Has rows r → Fits r → test r ≡ true
  pub same : IsPermutation (filter test rows) chosen

-- what is shown of each row that fits
pub record ShowsAll (Fits : Row → Type 0) (show : Row → Row) (rows answer : List Row) : Type 0 where
  pub chosen : List Row
  pub picks : Picks Fits rows chosen
  pub shown : answer ≡ map show chosen

-- what is shown of each row that fits, as the column at `place` rises: the first so many
pub record ShowsPage (Fits : Row → Type 0) (place most : ℕ) (show : Row → Row)
    (rows answer : List Row) : Type 0 where
  pub chosen : List Row
  pub picks : Picks Fits rows chosen
  pub rising : IsSorted (on (λ r. column r place) value_cmp) chosen
  pub shown : answer ≡ map show (take most chosen)

-- of the rows that fit, this has the greatest number in the column at `place`
pub record IsGreatest (Fits : Row → Type 0) (place : ℕ) (rows : List Row) (r : Row)
    (n : ℤ) : Type 0 where
  pub there : Has rows r
  pub fits : Fits r
  pub number : column r place ≡ Int n
  pub last : (s : Row) (m : ℤ) → Has rows s → Fits s → column s place ≡ Int m → m ≤ℤ n

-- what is shown of the row with the greatest number, or nothing where no row fits
abbrev pub ShowsGreatest : (Row → Type 0) → ℕ → (Row → Row) → List Row → List Row → Type 0
ShowsGreatest Fits place show rows [] = (r : Row) → Has rows r → ¬ Fits r
ShowsGreatest Fits place show rows (x ∷ []) =
    (r : Row) × (n : ℤ) × IsGreatest Fits place rows r n × (x ≡ show r)
ShowsGreatest Fits place show rows (x ∷ y ∷ more) = ⊥

-- what is shown of so many of the rows that fit, or of all where they are no more
pub record ShowsSome (Fits : Row → Type 0) (most : ℕ) (show : Row → Row)
    (rows answer : List Row) : Type 0 where
  pub chosen : List Row
  pub picks : Picks Fits rows chosen
  pub shown : answer ≡ map show (take most chosen)
