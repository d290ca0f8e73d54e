-- Numbers in so many decimal digits.
use Rattle.std.specs.Prelude.{ℕ, zero, suc, ◌+◌, ◌/◌, ◌%◌, List, [], ◌∷◌, ◌++◌}

-- the last so many digits of a number, the foremost first, with 0 where it has none
unfoldable pub digits_in : ℕ → ℕ → List ℕ
digits_in zero n = []
digits_in (suc width) n = digits_in width (n / 10) ++ (48 + n % 10) ∷ []
