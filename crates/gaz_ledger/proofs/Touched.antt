-- Whether one of a list passes a test, where one more stands behind it.
use Rattle.std.proofs.Common.{◌≡◌, ◌||◌, Bool, true, false, List, [], ◌∷◌, ◌++◌, refl, ap}
use Rattle.std.specs.List.{list_any}

pub none_of : {A : Type 0} (p : A → Bool) (ks : List A) (key : A) → list_any p (ks ++ key ∷ []) ≡ false → (list_any p ks ≡ false) × (p key ≡ false)
none_of p [] key e = (refl, both (p key) e)
  where
    both : (b : Bool) → (b || false) ≡ false → b ≡ false
    both true e = e
    both false e = refl
none_of p (k ∷ ks) key e = let first = parts (p k) (list_any p (ks ++ key ∷ [])) e in let rest = none_of p ks key first.1 in ((λ i. first.0 i || rest.0 i), rest.1)
  where
    parts : (a b : Bool) → (a || b) ≡ false → (a ≡ false) × (b ≡ false)
    parts true b e = cc
    parts false b e = (refl, e)

pub none_there : {A : Type 0} (p : A → Bool) (ks : List A) (key : A) → list_any p ks ≡ false → p key ≡ false → list_any p (ks ++ key ∷ []) ≡ false
none_there p [] key e f = ap (λ b. b || false) f
none_there p (k ∷ ks) key e f = let first = parts (p k) (list_any p ks) e in λ i. first.0 i || none_there p ks key first.1 f i
  where
    parts : (a b : Bool) → (a || b) ≡ false → (a ≡ false) × (b ≡ false)
    parts true b e = cc
    parts false b e = (refl, e)
