-- Lists that begin other lists, and counts.
use Rattle.std.proofs.Common.{◌≡◌, ℕ, zero, suc, ◌+◌, ◌<◌, ◌≤◌, Bool, true, false, ◌&&◌, ◌||◌, cond, List, [], ◌∷◌, ◌++◌, map, length, refl, sym, ap, ◌∙◌, append_assoc, append-nil, length-append, arith, true≢false}
use Rattle.std.specs.Prelude.{slice_get, Option, Some, None}
use Rattle.std.specs.Option.{option_map_or, option_map}
use Rattle.std.specs.List.{list_any}
use Rattle.std.specs.declared.cmp.Ordering.{Ordering}
use Rattle.std.specs.Ordering.{eq_by_cmp}
use Rattle.std.specs.FinMap.{find}
use Rattle.gaz_chains.specs.Chains.{IsPrefixOf}

pub prefix_refl : {X : Type 0} (xs : List X) → IsPrefixOf xs xs
prefix_refl xs = ([], append-nil xs)

pub prefix_trans : {X : Type 0} (xs ys zs : List X) → IsPrefixOf xs ys → IsPrefixOf ys zs → IsPrefixOf xs zs
prefix_trans xs ys zs p q = (p.0 ++ q.0, sym (append_assoc xs p.0 q.0) ∙ ap (λ l. l ++ q.0) p.1 ∙ q.1)

pub prefix_length : {X : Type 0} (xs ys : List X) → IsPrefixOf xs ys → length xs ≤ length ys
prefix_length xs ys p = omega (arith, length-append xs p.0, ap length p.1)

nothing_left : {X : Type 0} (xs rest : List X) → length rest ≡ 0 → xs ++ rest ≡ xs
nothing_left xs [] e = append-nil xs
nothing_left xs (r ∷ rest) e = absurd (omega arith)

-- two lists that begin each other are one
pub prefix_same : {X : Type 0} (xs ys : List X) → IsPrefixOf xs ys → IsPrefixOf ys xs → xs ≡ ys
prefix_same xs ys p q =
    let none : length p.0 ≡ 0 = omega (arith, length-append xs p.0, ap length p.1, length-append ys q.0, ap length q.1) in
    sym (nothing_left xs p.0 none) ∙ p.1

first_rest : {X : Type 0} (rest : List X) (x : X) → slice_get rest 0 ≡ Some x → IsPrefixOf (x ∷ []) rest
first_rest [] x e = cc
first_rest (r ∷ rest) x e = (rest, let same : r ≡ x = cc in ap (λ y. y ∷ rest) (sym same))

pub get_front : {X Y : Type 0} (f : X → Y) (xs rest : List X) (n : ℕ) → n < length xs → slice_get (map f (xs ++ rest)) n ≡ slice_get (map f xs) n
get_front f [] rest n h = absurd (omega arith)
get_front f (x ∷ xs) rest zero h = refl
get_front f (x ∷ xs) rest (suc n) h = get_front f xs rest n (omega arith)

pub get_front_plain : {X : Type 0} (xs rest : List X) (n : ℕ) → n < length xs → slice_get (xs ++ rest) n ≡ slice_get xs n
get_front_plain [] rest n h = absurd (omega arith)
get_front_plain (x ∷ xs) rest zero h = refl
get_front_plain (x ∷ xs) rest (suc n) h = get_front_plain xs rest n (omega arith)

pub get_pushed : {X : Type 0} (xs : List X) (y : X) → slice_get (xs ++ y ∷ []) (length xs) ≡ Some y
get_pushed [] y = refl
get_pushed (x ∷ xs) y = get_pushed xs y

get_end : {X : Type 0} (xs rest : List X) → slice_get (xs ++ rest) (length xs) ≡ slice_get rest 0
get_end [] rest = refl
get_end (x ∷ xs) rest = get_end xs rest

-- a list that has y after the end of xs begins with xs and y
pub prefix_push : {X : Type 0} (xs ys : List X) (y : X) → IsPrefixOf xs ys → slice_get ys (length xs) ≡ Some y → IsPrefixOf (xs ++ y ∷ []) ys
prefix_push xs ys y p e =
    let at_rest : slice_get p.0 0 ≡ Some y = sym (get_end xs p.0) ∙ ap (λ l. slice_get l (length xs)) p.1 ∙ e in
    let rest = first_rest p.0 y at_rest in
    (rest.0, append_assoc xs (y ∷ []) rest.0 ∙ ap (λ l. xs ++ l) rest.1 ∙ p.1)

pub both_parts : (a b : Bool) → (a && b) ≡ true → (a ≡ true) × (b ≡ true)
both_parts true b e = (refl, e)
both_parts false b e = absurd (true≢false (sym e))

pub joined : (a b : Bool) → a ≡ true → b ≡ true → (a && b) ≡ true
joined a b p q = ap (λ x. x && b) p ∙ q

pub gives_some : {A R : Type 0} (o : Option A) (f : A → R) (p : R → Bool) → option_map_or p (option_map f o) false ≡ true → (x : A) × (o ≡ Some x) × (p (f x) ≡ true)
gives_some None f p e = absurd (true≢false (sym e))
gives_some (Some x) f p e = (x, refl, e)

pub at_some : {A R T : Type 0} (o : Option A) (x : A) (f : A → R) (p : R → T) (d : T) → o ≡ Some x → option_map_or p (option_map f o) d ≡ p (f x)
at_some o x f p d e = ap (λ w. option_map_or p (option_map f w) d) e

-- ---- counts

abbrev pub bit : Bool → ℕ
bit b = cond b 1 0

abbrev pub count : {X : Type 0} → (X → Bool) → List X → ℕ
count p [] = 0
count p (x ∷ xs) = bit (p x) + count p xs

bit_le : (a b : Bool) → (a ≡ true → b ≡ true) → bit a ≤ bit b
bit_le true true h = omega arith
bit_le true false h = absurd (true≢false (sym (h refl)))
bit_le false true h = omega arith
bit_le false false h = omega arith

pub more_counted : {X : Type 0} (p q : X → Bool) (xs : List X) → ((x : X) → p x ≡ true → q x ≡ true) → count p xs ≤ count q xs
more_counted p q [] h = omega arith
more_counted p q (x ∷ xs) h = omega (arith, more_counted p q xs h, bit_le (p x) (q x) (h x))

pub count_all : {X : Type 0} (p : X → Bool) (xs : List X) → count p xs ≤ length xs
count_all p [] = omega arith
count_all p (x ∷ xs) = omega (arith, count_all p xs, bit_le (p x) true (λ _. refl))

-- one that is found and newly counted
pub one_more_counted : {K X : Type 0} (R : K → K → Ordering) (p q : K → Bool) (k : K) (v : X) (es : List (K × X)) →
    ((x : K) → p x ≡ true → q x ≡ true) →
    ((x : K) → eq_by_cmp R k x ≡ true → (p x ≡ false) × (q x ≡ true)) →
    find R k es ≡ Some v → count (λ (e : K × X). p e.0) es + 1 ≤ count (λ (e : K × X). q e.0) es
one_more_counted R p q k v [] more new e = cc
one_more_counted {K} {X} R p q k v (x ∷ es) more new e =
    elim (eq_by_cmp R k x.0) as (λ b. eq_by_cmp R k x.0 ≡ b → cond b (Some x.1) (find R k es) ≡ Some v → count (λ (e : K × X). p e.0) (x ∷ es) + 1 ≤ count (λ (e : K × X). q e.0) (x ∷ es)) [
      | true ↦ λ tied _.
          let is = new x.0 tied in
          let none : bit (p x.0) ≡ 0 = ap bit is.0 in
          let one : bit (q x.0) ≡ 1 = ap bit is.1 in
          omega (arith, none, one, more_counted (λ (e : K × X). p e.0) (λ (e : K × X). q e.0) es (λ e. more e.0))
      | false ↦ λ _ found. omega (arith, one_more_counted R p q k v es more new found, bit_le (p x.0) (q x.0) (more x.0))
    ] refl e

-- a place of a test that passes, from the key that is found
pub any_of_found : {K X : Type 0} (R : K → K → Ordering) (p : K → Bool) (k : K) (v : X) (es : List (K × X)) →
    ((x : K) → eq_by_cmp R k x ≡ true → p x ≡ true) → find R k es ≡ Some v → list_any (λ (e : K × X). p e.0) es ≡ true
any_of_found R p k v [] h e = cc
any_of_found {K} {X} R p k v (x ∷ es) h e =
    elim (eq_by_cmp R k x.0) as (λ b. eq_by_cmp R k x.0 ≡ b → cond b (Some x.1) (find R k es) ≡ Some v → list_any (λ (e : K × X). p e.0) (x ∷ es) ≡ true) [
      | true ↦ λ tied _. ap (λ b. b || list_any (λ (e : K × X). p e.0) es) (h x.0 tied)
      | false ↦ λ _ found. or_right (p x.0) _ (any_of_found R p k v es h found)
    ] refl e
  where
    or_right : (a b : Bool) → b ≡ true → (a || b) ≡ true
    or_right true b e = refl
    or_right false b e = e

pub some_of_any : {X : Type 0} (p : X → Bool) (xs : List X) → list_any p xs ≡ true → (x : X) × (p x ≡ true)
some_of_any p [] e = absurd (true≢false (sym e))
some_of_any p (x ∷ xs) e =
    elim (p x) as (λ b. p x ≡ b → (b || list_any p xs) ≡ true → (x : _) × (p x ≡ true)) [ true ↦ λ is _. (x, is) | false ↦ λ _ rest. some_of_any p xs rest ] refl e
