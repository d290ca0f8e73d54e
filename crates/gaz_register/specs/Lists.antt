-- Lists by a key, and tests of each two of a list.
use Rattle.std.specs.Prelude.{ℕ, nat_lt, ◌&&◌, Bool, true, List, [], ◌∷◌, if◌then◌else◌}
use Rattle.std.specs.List.{fold, list_all}

-- x at its place in a list whose keys rise, behind the items with its own key
abbrev pub place : {X : Type 0} → (X → ℕ) → X → List X → List X
place key x [] = x ∷ []
place key x (y ∷ ys) = if nat_lt (key x) (key y) then x ∷ y ∷ ys else y ∷ place key x ys

-- the items by rising key
abbrev pub by_key : {X : Type 0} → (X → ℕ) → List X → List X
by_key key xs = fold (λ sorted x. place key x sorted) [] xs

-- each two of the list, at different places, pass the test
abbrev pub each_two : {X : Type 0} → (X → X → Bool) → List X → Bool
each_two test [] = true
each_two test (x ∷ xs) = list_all (test x) xs && each_two test xs
