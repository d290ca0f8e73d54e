-- Whose a number is, over the blocks of all custodians in any order.
use Rattle.std.proofs.Common.{◌≡◌, ◌⊎◌, inl, inr, ℕ, ◌<◌, zero, suc, Bool, true, false, cond, List, [], ◌∷◌, ◌++◌, length, map, get_or, Option, Some, None, option_map, refl, sym, ap, ◌∙◌, subst, arith}
use Rattle.std.specs.Prelude.{◌&&◌, ◌||◌, nat_le, nat_lt}
use Rattle.std.proofs.lemmas.Bool.{cases_Bool, cases_eq}
use Rattle.std.proofs.lemmas.Bool.Decides.{nat_tests}
use Rattle.std.proofs.lemmas.List.{get_or_default, map-append}
use Rattle.std.proofs.lemmas.List.Sorted.{Contains-permutation, IsPermutation-sym}
use Rattle.std.specs.List.{Contains, find}
use Rattle.std.specs.List.Sorted.{IsPermutation}
use Rattle.gaz_register.specs.Registers.{Blocks, CustodianValue, RegisterValue, all_blocks, is_apart, is_disjoint, owner_in, within}
use Rattle.gaz_register.specs.Indexes.{holding, holdings_of, is_in}
use Rattle.gaz_register.specs.declared.index.Holding.{Holding}
use Rattle.gaz_register.proofs.EachTwo.{Everywhere, apart, each_two-map}
use Rattle.gaz_register.specs.Lists.{each_two}

-- what a search finds
abbrev Finds : {X : Type 0} → (X → Bool) → List X → Type 0
Finds {X} p xs = ((find p xs ≡ None) × ((k : ℕ) (d : X) → k < length xs → p (get_or xs k d) ≡ false))
    ⊎ ((x : X) × (find p xs ≡ Some x) × Contains xs x × (p x ≡ true))

later : {X : Type 0} (p : X → Bool) (x : X) (xs : List X) → p x ≡ false → Finds p xs → Finds p (x ∷ xs)
later {X} p x xs e (inl none) = inl (rw e (none.0), λ k d h. at k d h)
  where
    at : (k : ℕ) (d : X) → k < length (x ∷ xs) → p (get_or (x ∷ xs) k d) ≡ false
    at zero d h = e
    at (suc k) d h = none.1 k d (omega arith)
later p x xs e (inr (y, found, (k, h, at), passes)) = inr (y, rw e found, (suc k, omega arith, at), passes)

finds : {X : Type 0} (p : X → Bool) (xs : List X) → Finds p xs
finds p [] = inl (refl, λ k d h. absurd (omega arith))
finds p (x ∷ xs) = elim (cases_Bool (p x)) [
  | inl here ↦ inr (x, rw here refl, (0, omega arith, refl), here)
  | inr not-here ↦ later p x xs not-here (finds p xs)
]

-- at most one place passes
abbrev Once : {X : Type 0} → (X → Bool) → List X → Type 0
Once {X} p xs = (i j : ℕ) (d : X) → i < length xs → j < length xs → p (get_or xs i d) ≡ true → p (get_or xs j d) ≡ true → i ≡ j

same-place : {X : Type 0} (p : X → Bool) (xs : List X) (x y : X) → Once p xs → Contains xs x → Contains xs y → p x ≡ true → p y ≡ true → x ≡ y
same-place {X} p xs x y once (i, h, at) (j, k, there) a b =
    let default : get_or xs j x ≡ get_or xs j y = get_or_default xs j x y k in
    let P : X → Type 0 = λ z. p z ≡ true in
    let same : i ≡ j = once i j x h k (subst P (sym at) a) (subst P (sym (default ∙ there)) b) in
    sym at ∙ ap (λ n. get_or xs n x) same ∙ default ∙ there

none-there : {X : Type 0} (p : X → Bool) (xs : List X) (x : X) → Contains xs x → p x ≡ true → ((k : ℕ) (d : X) → k < length xs → p (get_or xs k d) ≡ false) → ⊥
none-there p xs x (k, h, at) e none = let f = none k x h in cc (rw at at f)

-- a search that at most one place passes finds the same in any order
pub find-permuted : {X : Type 0} (p : X → Bool) (xs ys : List X) → IsPermutation xs ys → Once p xs → find p xs ≡ find p ys
find-permuted p xs ys perm once = go (finds p xs) (finds p ys)
  where
    go : Finds p xs → Finds p ys → find p xs ≡ find p ys
    go (inl a) (inl b) = a.0 ∙ sym (b.0)
    go (inl a) (inr (y, found, there, passes)) = absurd (none-there p xs y (Contains-permutation ys xs y (IsPermutation-sym xs ys perm) there) passes (a.1))
    go (inr (x, found, there, passes)) (inl b) = absurd (none-there p ys x (Contains-permutation xs ys x perm there) passes (b.1))
    go (inr (x, found, there, passes)) (inr (y, found', there', passes')) =
        found ∙ ap Some (same-place p xs x y once there (Contains-permutation ys xs y (IsPermutation-sym xs ys perm) there') passes passes') ∙ sym found'

both-in : (n a b c d : ℕ) → (nat_le a n && nat_le n b) ≡ true → (nat_le c n && nat_le n d) ≡ true → (nat_lt b c || nat_lt d a) ≡ true → ⊥
both-in n a b c d e f g = grind (arith, nat_tests)

-- where all blocks are apart, a number is in one of them at most
pub once-apart : (n : ℕ) (xs : List Holding) → Everywhere (apart (λ h. h.first) (λ h. h.last)) xs → Once (is_in n) xs
once-apart n xs e i j d h k a b = elim (cases_eq i j) [
  | inl same ↦ same
  | inr other ↦ absurd (both-in n _ _ _ _ a b (e.at i j d other h k))
]

own-or-rest : (o n : ℕ) (bs : List (ℕ × ℕ)) (rest : List Holding)
    → option_map (λ h. h.owner) (find (is_in n) (map (holding o) bs ++ rest)) ≡ cond (within bs n) (Some o) (option_map (λ h. h.owner) (find (is_in n) rest))
own-or-rest o n [] rest = refl
own-or-rest o n (b ∷ bs) rest = elim (cases_Bool (nat_le b.0 n && nat_le n b.1)) [
  | inl here ↦ rw here refl
  | inr not-here ↦ rw not-here (own-or-rest o n bs rest)
]

code-or-rest : (t : Bool) (c : CustodianValue) (r : Option CustodianValue) → option_map (λ c. c.code) (cond t (Some c) r) ≡ cond t (Some c.code) (option_map (λ c. c.code) r)
code-or-rest true c r = refl
code-or-rest false c r = refl

-- the owner of the first block that holds the number is the first custodian whose blocks do
pub owner-found : (kind : Blocks → List (ℕ × ℕ)) (register : RegisterValue) (n : ℕ) → option_map (λ h. h.owner) (find (is_in n) (holdings_of kind register)) ≡ owner_in kind register n
owner-found kind [] n = refl
owner-found kind (c ∷ cs) n =
    own-or-rest c.code n (kind c.own) (holdings_of kind cs)
    ∙ rw (owner-found kind cs n) (sym (code-or-rest (within (kind c.own) n) c _))

-- the spans of the holdings are the blocks
pub spans : (kind : Blocks → List (ℕ × ℕ)) (register : RegisterValue) → map (λ h. (h.first, h.last)) (holdings_of kind register) ≡ all_blocks kind register
spans kind [] = refl
spans kind (c ∷ cs) = map-append (λ (h : Holding). (h.first, h.last)) (map (holding c.code) (kind c.own)) (holdings_of kind cs) ∙ rw (spans kind cs, back (kind c.own)) refl
  where
    back : (bs : List (ℕ × ℕ)) → map (λ (h : Holding). (h.first, h.last)) (map (holding c.code) bs) ≡ bs
    back [] = refl
    back (b ∷ bs) = ap (λ t. b ∷ t) (back bs)

-- the blocks are disjoint where the holdings are apart
pub disjoint-is : (kind : Blocks → List (ℕ × ℕ)) (register : RegisterValue) → is_disjoint kind register ≡ each_two (apart (λ h. h.first) (λ h. h.last)) (holdings_of kind register)
disjoint-is kind register = rw (← spans kind register) (each_two-map is_apart (λ (h : Holding). (h.first, h.last)) (holdings_of kind register))
