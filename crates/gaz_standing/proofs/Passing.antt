-- Lists of keys, and the keys of the rows that pass a test.
use Rattle.std.proofs.Common.{◌≡◌, ◌||◌, Bool, true, false, cond, List, [], ◌∷◌, map, refl, sym, ap, subst, ◌∙◌}
use Rattle.std.specs.Prelude.{Option, Some, None, filter, is_some, option_map}
use Rattle.std.specs.Cmp.{tied_itself}
use Rattle.std.specs.FinMap as finite
use Rattle.std.specs.FinMap.{find}
use Rattle.std.specs.List.{AllByRecursion, list_any}
use Rattle.std.specs.List.Sorted.{IsStrictlySortedBy}
use Rattle.std.specs.Map.{keys_of}
use Rattle.std.specs.Option.{option_and_then, option_map_or}
use Rattle.std.specs.Ordering.{eq_by_cmp, is_eq}
use Rattle.std.specs.declared.cmp.Ordering.TheVariants.{Less}
use Rattle.gaz_records.proofs.KeyOrder.{keys_exact, keys_same, keys_total}
use Rattle.gaz_records.specs.Keys.{key_cmp}
use Rattle.gaz_records.specs.contracts.key.KeyOrd.TheImpl.{cmp-value}
use Rattle.gaz_records.specs.declared.item.Item.{Item}
use Rattle.gaz_records.specs.declared.key.Key.{Key}
use Rattle.gaz_views.proofs.SameKeys.{same_key}
use Rattle.gaz_views.proofs.Trees.{entries_tree}
use Rattle.gaz_views.specs.Words.{first_of}

abbrev pub Row : Type 0
Row = Key × Item

abbrev pub Ascends : List Key → Type 0
Ascends ks = IsStrictlySortedBy key_cmp ks

-- the derived order of keys is theirs
pub in_key_order : (ks : List Key) → IsStrictlySortedBy cmp-value.it ks → Ascends ks
unfolding IsStrictlySortedBy
in_key_order [] h = tt
in_key_order (k ∷ ks) h = (above ks h.0, in_key_order ks h.1)
  where
    above : (ks : List Key) → AllByRecursion (λ y. cmp-value.it k y ≡ Less) ks → AllByRecursion (λ y. key_cmp k y ≡ Less) ks
    above [] h = tt
    above (q ∷ ks) h = (sym (keys_same k q) ∙ h.0, above ks h.1)

abbrev pub has : List Key → Key → Bool
has ks q = list_any (eq_by_cmp key_cmp q) ks

-- ---- lists that ascend and have the same keys are one

abbrev alone : List Key → List (Key × Unit {0})
alone ks = map (λ k. (k, tt)) ks

keys_alone : (ks : List Key) → keys_of (alone ks) ≡ ks
keys_alone [] = refl
keys_alone (k ∷ ks) = ap (λ l. k ∷ l) (keys_alone ks)

find_alone : (q : Key) (ks : List Key) → find key_cmp q (alone ks) ≡ cond (has ks q) (Some tt) None
find_alone q [] = refl
find_alone q (k ∷ ks) = elim (eq_by_cmp key_cmp q k) as (λ b. cond b (Some tt) (find key_cmp q (alone ks)) ≡ cond (b || has ks q) (Some tt) None) [ true ↦ refl | false ↦ find_alone q ks ]

-- a map of keys alone
abbrev pub key_map : List Key → finite.FinMap key_cmp (Unit {0})
key_map ks = finite.from_entries (map (λ k. (k, tt)) ks)

pub same_maps : (xs ys : List Key) → ((q : Key) → has xs q ≡ has ys q) → key_map xs ≡ key_map ys
same_maps xs ys same =
    finite.same_map keys_total keys_exact (key_map xs) (key_map ys) (λ q.
    finite.get-from_entries keys_total (alone xs) q ∙ find_alone q xs ∙ ap (λ b. cond b (Some tt) None) (same q) ∙ sym (find_alone q ys) ∙ sym (finite.get-from_entries keys_total (alone ys) q))

-- a key is among those of a map where it has something at it
among : {X : Type 0} (q : Key) (es : List (Key × X)) → has (keys_of es) q ≡ is_some (find key_cmp q es)
among q [] = refl
among q (e ∷ es) = elim (eq_by_cmp key_cmp q e.0) as (λ b. (b || has (keys_of es) q) ≡ is_some (cond b (Some e.1) (find key_cmp q es))) [ true ↦ refl | false ↦ among q es ]

-- the keys of a list are those of the map of them alone
pub keys_still : (ks : List Key) (q : Key) → has (finite.keys (key_map ks)) q ≡ has ks q
keys_still ks q =
    among q (finite.entries (key_map ks))
    ∙ ap is_some (sym (finite.get-entries (key_map ks) q) ∙ finite.get-from_entries keys_total (alone ks) q ∙ find_alone q ks) ∙ there (has ks q)
  where
    there : (b : Bool) → is_some {T = Unit {0}} (cond b (Some tt) None) ≡ b
    there true = refl
    there false = refl

pub keys_back : (ks : List Key) → Ascends ks → finite.keys (key_map ks) ≡ ks
keys_back ks h = ap keys_of (entries_tree (λ a b. refl) keys_total (alone ks) (subst Ascends (sym (keys_alone ks)) h)) ∙ keys_alone ks

pub same_keys : (xs ys : List Key) → Ascends xs → Ascends ys → ((q : Key) → has xs q ≡ has ys q) → xs ≡ ys
same_keys xs ys hx hy same = sym (keys_back xs hx) ∙ ap finite.keys (same_maps xs ys same) ∙ keys_back ys hy

-- ---- the rows that pass a test

pub all_kept : {X : Type 0} (P : Key → Type 0) (p : Key × X → Bool) (es : List (Key × X)) → AllByRecursion P (keys_of es) → AllByRecursion P (keys_of (filter p es))
all_kept P p [] h = tt
all_kept P p (e ∷ es) h = elim (p e) as (λ b. AllByRecursion P (keys_of (cond b (e ∷ filter p es) (filter p es)))) [ true ↦ (h.0, all_kept P p es h.1) | false ↦ all_kept P p es h.1 ]

pub rows_ascend : {X : Type 0} (p : Key × X → Bool) (es : List (Key × X)) → Ascends (keys_of es) → Ascends (keys_of (filter p es))
unfolding IsStrictlySortedBy
rows_ascend p [] h = tt
rows_ascend p (e ∷ es) h = elim (p e) as (λ b. Ascends (keys_of (cond b (e ∷ filter p es) (filter p es)))) [ true ↦ (all_kept (λ y. key_cmp e.0 y ≡ Less) p es h.0, rows_ascend p es h.1) | false ↦ rows_ascend p es h.1 ]

missing : (k : Key) (es : List Row) → AllByRecursion (λ y. key_cmp k y ≡ Less) (keys_of es) → find key_cmp k es ≡ None
missing k [] h = refl
missing k (e ∷ es) h = ap (λ r. cond (is_eq r) (Some e.1) (find key_cmp k es)) h.0 ∙ missing k es h.1

-- the first of keys that come later isn't found at an earlier one
passed_over : (e : Row) (es : List Row) (ks : List Key) → AllByRecursion (λ y. key_cmp e.0 y ≡ Less) ks → option_and_then (λ k. find key_cmp k (e ∷ es)) (first_of ks) ≡ option_and_then (λ k. find key_cmp k es) (first_of ks)
passed_over e es [] h = refl
passed_over e es (k ∷ ks) h = by_test (eq_by_cmp key_cmp k e.0) refl
  where
    by_test : (b : Bool) → eq_by_cmp key_cmp k e.0 ≡ b → cond b (Some e.1) (find key_cmp k es) ≡ find key_cmp k es
    by_test true at =
        let later : is_eq (key_cmp k k) ≡ false = ap (λ (q : Key). is_eq (key_cmp q k)) (same_key k e.0 at) ∙ ap is_eq h.0 in
        let tied : true ≡ false = sym (ap is_eq (tied_itself keys_total k)) ∙ later in
        cc
    by_test false at = refl

-- the first of the keys that ascend leads to the first of the rows
pub first_row : (p : Row → Bool) (es : List Row) → Ascends (keys_of es) → option_and_then (λ k. find key_cmp k es) (first_of (keys_of (filter p es))) ≡ option_map (λ (e : Row). e.1) (first_of (filter p es))
unfolding IsStrictlySortedBy
first_row p [] h = refl
first_row p (e ∷ es) h = by_test (first_row p es h.1) (p e)
  where
    by_test : option_and_then (λ k. find key_cmp k es) (first_of (keys_of (filter p es))) ≡ option_map (λ (r : Row). r.1) (first_of (filter p es))
        → (b : Bool) → option_and_then (λ k. find key_cmp k (e ∷ es)) (first_of (keys_of (cond b (e ∷ filter p es) (filter p es)))) ≡ option_map (λ (r : Row). r.1) (first_of (cond b (e ∷ filter p es) (filter p es)))
    by_test rest true = ap (λ o. cond (is_eq o) (Some e.1) (find key_cmp e.0 es)) (tied_itself keys_total e.0)
    by_test rest false = passed_over e es (keys_of (filter p es)) (all_kept (λ y. key_cmp e.0 y ≡ Less) p es h.0) ∙ rest

module _ (p : Item → Bool) where
  abbrev pub passing : List Row → List Key
  passing es = keys_of (filter (λ e. p e.1) es)

  -- a key has an item that passes where one of the rows that pass has that key
  pub held : (es : List Row) → Ascends (keys_of es) → (q : Key) → has (passing es) q ≡ option_map_or p (find key_cmp q es) false
  unfolding IsStrictlySortedBy
  held [] h q = refl
  held (e ∷ es) h q = by_test (held es h.1 q) (p e.1) refl (eq_by_cmp key_cmp q e.0) refl
    where
      by_test : has (passing es) q ≡ option_map_or p (find key_cmp q es) false → (b : Bool) → p e.1 ≡ b → (c : Bool) → eq_by_cmp key_cmp q e.0 ≡ c
          → has (keys_of (cond b (e ∷ filter (λ e. p e.1) es) (filter (λ e. p e.1) es))) q ≡ option_map_or p (cond c (Some e.1) (find key_cmp q es)) false
      by_test rest true is true at = ap (λ b. b || has (passing es) q) at ∙ sym is
      by_test rest true is false at = ap (λ b. b || has (passing es) q) at ∙ rest
      by_test rest false is true at = rest ∙ ap (λ (k : Key). option_map_or p (find key_cmp k es) false) (same_key q e.0 at) ∙ ap (λ (o : Option Item). option_map_or p o false) (missing e.0 es h.0) ∙ sym is
      by_test rest false is false at = rest

-- ---- whether there are any

unfoldable pub is_cons : {X : Type 0} → List X → Bool
is_cons [] = false
is_cons (x ∷ xs) = true

pub some_kept : {X : Type 0} (p : X → Bool) (xs : List X) → list_any p xs ≡ is_cons (filter p xs)
unfolding is_cons
some_kept p [] = refl
some_kept p (x ∷ xs) = elim (p x) as (λ b. (b || list_any p xs) ≡ is_cons (cond b (x ∷ filter p xs) (filter p xs))) [ true ↦ refl | false ↦ some_kept p xs ]

pub some_keys : (es : List Row) → is_cons (keys_of es) ≡ is_cons es
unfolding is_cons
some_keys [] = refl
some_keys (e ∷ es) = refl
