-- Tests of what is found in a list, and what arguments are plain and of distinct names.
use Rattle.std.proofs.Common.{arith, ◌≡◌, ◌∙◌, ◌==◌, ◌&&◌, ◌||◌, ℕ, suc, Bool, true, false, not, cond, List, [], ◌∷◌, Some, ap, refl, sym, subst, true≢false, length, find, bytes_eq, inl, inr, ◌⊎◌}
use Rattle.std.specs.List.{list_all, list_any}
use Rattle.std.proofs.lemmas.Bool.{eqb-true, ne_eqb}
use Rattle.std.proofs.lemmas.Slice.Eq.{bytes_eq-Decides}
use Rattle.clap.specs.Facts.{unwrap_or_range}
use Rattle.clap.specs.Kinds.{Kinds, or_else, range_kinds}
use Rattle.clap.specs.Values.{is_request}
use Rattle.clap.specs.Walk.{Rule, Text, action_of, arg_by_id, is_empty}
use Rattle.clap.specs.declared.builder.action.ArgAction.{ArgAction}
use Rattle.clap.specs.declared.builder.action.ArgAction.TheVariants.{Set}
use Rattle.clap.specs.declared.error.kind.ErrorKind.TheVariants.{InvalidValue, WrongNumberOfValues}

-- an argument of one value, or one that asks for help or the version; neither has a default
abbrev pub is_plain_by : ArgAction → Rule → Bool
is_plain_by Set a = (unwrap_or_range a.range).start_inclusive == 1 && (unwrap_or_range a.range).end_inclusive == 1
is_plain_by action a = is_request action

abbrev pub is_plain : Rule → Bool
is_plain a = is_plain_by (action_of a) a && is_empty a.defaults

-- no two have one name
abbrev pub are_distinct : List Rule → Bool
are_distinct [] = true
are_distinct (a ∷ rest) = not (list_any (λ b. bytes_eq b.id a.id) rest) && are_distinct rest

abbrev pub Among : Rule → List Rule → Type 0
Among a [] = ⊥
Among a (x ∷ xs) = (x ≡ a) ⊎ Among a xs

-- ---- tests and lists

pub both : (a b : Bool) → (a && b) ≡ true → (a ≡ true) × (b ≡ true)
both true b e = (refl, e)
both false b e = absurd (true≢false (sym e))

pub neither : (a b : Kinds) → or_else a b ≡ [] → (a ≡ []) × (b ≡ [])
neither [] b e = (refl, e)
neither (k ∷ ks) b e = absurd (cc)

pub one_value : (least most : ℕ) (values : List Text) → least ≡ 1 → most ≡ 1 → range_kinds least most (length values) ≡ [] → length values ≡ 1
one_value least most [] l m e =
    let bad : InvalidValue ∷ [] ≡ [] = rw l at e in
    absurd (cc)
one_value least most (v ∷ []) l m e = refl
one_value least most (v ∷ (w ∷ more)) l m e =
    let some : (suc (suc (length more)) == 0) ≡ false = ne_eqb _ _ (λ same. omega (arith, same)) in
    let several : (1 == suc (suc (length more))) ≡ false = ne_eqb _ _ (λ same. omega (arith, same)) in
    let bad : WrongNumberOfValues ∷ [] ≡ [] = rw (l, m, some, several) at e in
    absurd (cc)

pub not_either : (a b : Bool) → (a || b) ≡ false → (a ≡ false) × (b ≡ false)
not_either true b e = absurd (true≢false e)
not_either false b e = (refl, e)

pub is_false : (b : Bool) → not b ≡ true → b ≡ false
is_false true e = absurd (true≢false (sym e))
is_false false e = refl

pub not_not : (b : Bool) → not b ≡ false → b ≡ true
not_not true e = refl
not_not false e = absurd (true≢false e)

pub is_nil : {X : Type 0} (xs : List X) → is_empty xs ≡ true → xs ≡ []
is_nil [] e = refl
is_nil (x ∷ xs) e =
    let none : suc (length xs) ≡ 0 = eqb-true _ _ e in
    absurd (omega arith)

pub found_among : (q : Rule → Bool) (xs : List Rule) (a : Rule) → find q xs ≡ Some a → Among a xs
found_among q [] a e = absurd (cc)
found_among q (x ∷ xs) a e = go (q x) (found_among q xs a) e
  where
    go : (b : Bool) → (find q xs ≡ Some a → Among a xs) → cond b (Some x) (find q xs) ≡ Some a → Among a (x ∷ xs)
    go true later e = inl (cc)
    go false later e = inr (later e)

pub each : (p : Rule → Bool) (xs : List Rule) (a : Rule) → list_all p xs ≡ true → Among a xs → p a ≡ true
each p [] a all at = absurd at
each p (x ∷ xs) a all (inl e) = subst (λ y. p y ≡ true) e (both (p x) _ all).0
each p (x ∷ xs) a all (inr at) = each p xs a (both (p x) _ all).1 at

pub same_text : (a b : Text) → bytes_eq a b ≡ true → a ≡ b
same_text a b = (bytes_eq-Decides a b).0

pub is_same : (a : Text) → bytes_eq a a ≡ true
is_same a = (bytes_eq-Decides a a).1 refl

pub named : (xs : List Rule) (a : Rule) (id : Text) → Among a xs → a.id ≡ id → list_any (λ b. bytes_eq b.id id) xs ≡ true
named [] a id at e = absurd at
named (x ∷ xs) a id (inl same) e = rw (same, e, is_same id) refl
named (x ∷ xs) a id (inr at) e = rw (named xs a id at e) (or_true (bytes_eq x.id id))
  where
    or_true : (b : Bool) → (b || true) ≡ true
    or_true true = refl
    or_true false = refl

-- an argument is the first of its name
pub first_is : (xs : List Rule) (a : Rule) → are_distinct xs ≡ true → Among a xs → arg_by_id xs a.id ≡ Some a
first_is [] a all at = absurd at
first_is (x ∷ xs) a all (inl e) = rw (e, is_same a.id) refl
first_is (x ∷ xs) a all (inr at) =
    let own = both (not (list_any (λ b. bytes_eq b.id x.id) xs)) (are_distinct xs) all in
    go (bytes_eq x.id a.id) own.0 (first_is xs a own.1 at) refl
  where
    go : (b : Bool) → not (list_any (λ b. bytes_eq b.id x.id) xs) ≡ true → arg_by_id xs a.id ≡ Some a → bytes_eq x.id a.id ≡ b → cond b (Some x) (arg_by_id xs a.id) ≡ Some a
    go true own later e = absurd (true≢false (sym own ∙ ap not (named xs a x.id at (sym (same_text x.id a.id e)))))
    go false own later e = later
