-- Two lists whose elements belong together in turn.
use Rattle.std.proofs.Common.{◌≡◌, suc, List, [], ◌∷◌, length, map, inl, inr, refl, ap, subst, sym}
use Rattle.sqlite_rules.specs.Lists.{Has}
use Rattle.sqlite_rules.proofs.ListLemmas.{all_from, all_has}
use Rattle.sqlite_trees.specs.Tree.{IsAscending}

abbrev pub ArePaired : {A B : Type 0} → (A → B → Type 0) → List A → List B → Type 0
ArePaired P [] [] = Unit {0}
ArePaired P [] (y ∷ ys) = ⊥
ArePaired P (x ∷ xs) [] = ⊥
ArePaired P (x ∷ xs) (y ∷ ys) = P x y × ArePaired P xs ys

-- what is shown of the one list is read as the other
pub paired : {A S B C : Type 0} (show : A → S) (f : S → C) (g : B → C) (xs : List A) (ys : List B) → map f (map show xs) ≡ map g ys → ArePaired (λ x y. f (show x) ≡ g y) xs ys
paired show f g [] [] e = tt
paired show f g [] (y ∷ ys) e = absurd (cc)
paired show f g (x ∷ xs) [] e = absurd (cc)
paired show f g (x ∷ xs) (y ∷ ys) e = (cc, paired show f g xs ys (cc))

module _ {A B : Type 0} (P : A → B → Type 0) where
  pub left_of : (xs : List A) (ys : List B) → ArePaired P xs ys → (y : B) → Has ys y → (x : A) × Has xs x × P x y
  left_of [] [] both y there = absurd there
  left_of [] (z ∷ ys) both y there = absurd both
  left_of (x ∷ xs) [] both y there = absurd both
  left_of (x ∷ xs) (z ∷ ys) both y (inl same) = (x, inl refl, subst (P x) (sym same) both.0)
  left_of (x ∷ xs) (z ∷ ys) both y (inr later) = let it = left_of xs ys both.1 y later in (it.0, inr it.1, it.2)

  pub right_of : (xs : List A) (ys : List B) → ArePaired P xs ys → (x : A) → Has xs x → (y : B) × Has ys y × P x y
  right_of [] [] both x there = absurd there
  right_of [] (y ∷ ys) both x there = absurd both
  right_of (z ∷ xs) [] both x there = absurd both
  right_of (z ∷ xs) (y ∷ ys) both x (inl same) = (y, inl refl, subst (λ w. P w y) (sym same) both.0)
  right_of (z ∷ xs) (y ∷ ys) both x (inr later) = let it = right_of xs ys both.1 x later in (it.0, inr it.1, it.2)

  pub same_length : (xs : List A) (ys : List B) → ArePaired P xs ys → length ys ≡ length xs
  same_length [] [] both = refl
  same_length [] (y ∷ ys) both = absurd both
  same_length (x ∷ xs) [] both = absurd both
  same_length (x ∷ xs) (y ∷ ys) both = ap (λ n. suc n) (same_length xs ys both.1)

  pub none_paired : (xs : List A) → ArePaired P xs [] → (x : A) → ¬ Has xs x
  none_paired [] both x there = there
  none_paired (y ∷ xs) both x there = both

  -- the one list rises where the other does
  pub rises_as : (R : A → A → Type 0) (Q : B → B → Type 0) (xs : List A) (ys : List B) → ArePaired P xs ys
      → ((a b : A) (c d : B) → Has xs a → Has xs b → P a c → P b d → R a b → Q c d) → IsAscending R xs → IsAscending Q ys
  rises_as R Q [] [] both goes up = tt
  rises_as R Q [] (y ∷ ys) both goes up = absurd both
  rises_as R Q (x ∷ xs) [] both goes up = absurd both
  rises_as R Q (x ∷ xs) (y ∷ ys) both goes up = (
    all_from (Q y) ys (λ z there. let w = left_of xs ys both.1 z there in goes x w.0 y z (inl refl) (inr w.1) both.0 w.2 (all_has (R x) xs w.0 up.0 w.1)),
    rises_as R Q xs ys both.1 (λ a b c d ha hb. goes a b c d (inr ha) (inr hb)) up.1,
  )
