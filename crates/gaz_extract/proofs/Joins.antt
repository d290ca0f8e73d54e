-- A line part by part is its parts joined.
use Rattle.std.proofs.Common.{◌≡◌, ◌∙◌, ℕ, List, [], ◌∷◌, ◌++◌, refl, sym, ap, append_assoc, append-nil}
use Rattle.std.specs.Prelude.{codes, Some, None}
use Rattle.std.specs.List.{filter_map, flat_map, join_by}
use Rattle.gaz_extract.specs.Lines.{Part, joined}
use Rattle.gaz_extract.specs.Pieces.{after, before}

-- what follows the first part
tails : (rest : List Part) → flat_map (λ (y : List ℕ). codes ", " ++ y) (filter_map (λ part. part) rest) ≡ flat_map after rest
tails [] = refl
tails (None ∷ rest) = tails rest
tails (Some t ∷ rest) = ap (λ z. (codes ", " ++ t) ++ z) (tails rest)

-- the first of two parts or more
first_part : (t y : List ℕ) (ys : List (List ℕ)) → join_by (λ part. part) (codes ", ") (t ∷ y ∷ ys) ≡ (t ++ codes ", ") ++ join_by (λ part. part) (codes ", ") (y ∷ ys)
first_part t y ys = simp append_assoc

first_joined : (t : List ℕ) (os : List Part) (x : List ℕ) (rest : List Part) → joined (Some t ∷ (os ++ Some x ∷ rest)) ≡ (t ++ codes ", ") ++ joined (os ++ Some x ∷ rest)
first_joined t [] x rest = first_part t x (filter_map (λ part. part) rest)
first_joined t (None ∷ os) x rest = first_joined t os x rest
first_joined t (Some u ∷ os) x rest = first_part t u (filter_map (λ part. part) (os ++ Some x ∷ rest))

-- parts around one that is there
around : (os : List Part) (x : List ℕ) (rest : List Part) → joined (os ++ Some x ∷ rest) ≡ flat_map before os ++ (x ++ flat_map after rest)
around [] x rest = ap (λ z. x ++ z) (tails rest)
around (None ∷ os) x rest = around os x rest
around (Some t ∷ os) x rest = first_joined t os x rest ∙ ap (λ z. (t ++ codes ", ") ++ z) (around os x rest) ∙ sym (append_assoc (t ++ codes ", ") (flat_map before os) (x ++ flat_map after rest))

line_is : (s n p : Part) (x : List ℕ) (l t a z : Part) → (((((((before s ++ before n) ++ before p) ++ x) ++ after l) ++ after t) ++ after a) ++ after z) ≡ joined (s ∷ n ∷ p ∷ Some x ∷ l ∷ t ∷ a ∷ z ∷ [])
line_is s n p x l t a z =
    let whole = around (s ∷ n ∷ p ∷ []) x (l ∷ t ∷ a ∷ z ∷ []) in
    let pieces : (((((((before s ++ before n) ++ before p) ++ x) ++ after l) ++ after t) ++ after a) ++ after z) ≡ flat_map before (s ∷ n ∷ p ∷ []) ++ (x ++ flat_map after (l ∷ t ∷ a ∷ z ∷ [])) = simp (append_assoc, append-nil) in
    pieces ∙ sym whole

-- a line behind what was there
pub line_behind : (o : List ℕ) (s n p : Part) (x : List ℕ) (l t a z : Part) → (((((((o ++ (before s ++ before n)) ++ before p) ++ x) ++ after l) ++ after t) ++ after a) ++ after z) ≡ o ++ joined (s ∷ n ∷ p ∷ Some x ∷ l ∷ t ∷ a ∷ z ∷ [])
line_behind o s n p x l t a z =
    let behind : (((((((o ++ (before s ++ before n)) ++ before p) ++ x) ++ after l) ++ after t) ++ after a) ++ after z) ≡ o ++ (((((((before s ++ before n) ++ before p) ++ x) ++ after l) ++ after t) ++ after a) ++ after z) = simp append_assoc in
    behind ∙ ap (λ y. o ++ y) (line_is s n p x l t a z)
