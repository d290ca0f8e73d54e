-- How many of a custodian's files are above a volume, by the highest of them.
use Rattle.std.proofs.Common.{◌≡◌, ◌∙◌, ◌+◌, ◌≤◌, ◌&&◌, ℕ, Bool, true, false, cond, not, List, [], ◌∷◌, map, length, refl, sym, ap, arith, is_some}
use Rattle.std.proofs.lemmas.Bool.Decides.{nat_tests}
use Rattle.std.proofs.lemmas.List.Sums.{length-filter, sum_by-cons}
use Rattle.std.specs.Prelude.{if◌then◌else◌, Some, None, ◌==◌, nat_le, nat_lt, count_by}
use Rattle.std.specs.BTreeMap.{is_at}
use Rattle.std.specs.BTreeMap.Range.{range_contains}
use Rattle.std.specs.declared.ops.Bound.TheVariants.{Included}
use Rattle.std.specs.FinMap as finite
use Rattle.std.specs.List.{AllByRecursion}
use Rattle.std.specs.Map.{lookup}
use Rattle.std.specs.Option.{option_map_or}
use Rattle.std.specs.Ordering.{nat_cmp}
use Rattle.gaz_ids.specs.Numbers.{in_range, of_id}
use Rattle.gaz_views.proofs.Trees.{get_tree}
use Rattle.gaz_shelf.specs.Highest.{AreBelow, files_between, is_below, is_between}
use Rattle.gaz_keeper.specs.Received.{pair_cmp}
use Rattle.gaz_keeper.proofs.Pairs.{pairs_total}

abbrev Volumes : Type 0
Volumes = List (ℕ × ℕ)

abbrev Pairs : Type 0
Pairs = List ((ℕ × ℕ) × List ℕ)

-- ---- counts

module _ {X : Type 0} where
  -- tests that agree on each count the same
  pub count_same : (p q : X → Bool) (xs : List X) → AllByRecursion (λ x. p x ≡ q x) xs → count_by p xs ≡ count_by q xs
  count_same p q [] all = refl
  count_same p q (x ∷ xs) all =
      sum_by-cons (λ y. cond (p y) 1 0) x xs
      ∙ ap (λ b. cond b 1 0 + count_by p xs) all.0
      ∙ ap (λ n. cond (q x) 1 0 + n) (count_same p q xs all.1)
      ∙ sym (sum_by-cons (λ y. cond (q y) 1 0) x xs)

  -- a test that nothing passes counts none
  pub count_none : (p : X → Bool) (xs : List X) → ((x : X) → p x ≡ false) → count_by p xs ≡ 0
  count_none p [] none = refl
  count_none p (x ∷ xs) none = sum_by-cons (λ y. cond (p y) 1 0) x xs ∙ ap (λ b. cond b 1 0 + count_by p xs) (none x) ∙ omega (arith, count_none p xs none)

  pub count_map : {Y : Type 0} (p : X → Bool) (f : Y → X) (ys : List Y) → count_by p (map f ys) ≡ count_by (λ y. p (f y)) ys
  count_map p f [] = refl
  count_map p f (y ∷ ys) =
      sum_by-cons (λ x. cond (p x) 1 0) (f y) (map f ys)
      ∙ ap (λ n. cond (p (f y)) 1 0 + n) (count_map p f ys)
      ∙ sym (sum_by-cons (λ z. cond (p (f z)) 1 0) y ys)

  pub each : (P : X → Type 0) (xs : List X) → ((x : X) → P x) → AllByRecursion P xs
  each P [] all = tt
  each P (x ∷ xs) all = (all x, each P xs all)

-- ---- the entries of a map are those that it finds

abbrev IsFound : Pairs → (ℕ × ℕ) × List ℕ → Type 0
IsFound es e = is_some (lookup (is_at (pair_cmp e.0)) es) ≡ true

found_each : (es all : Pairs) → ((q : ℕ × ℕ) → is_some (lookup (is_at (pair_cmp q)) es) ≡ true → is_some (lookup (is_at (pair_cmp q)) all) ≡ true) → AllByRecursion (IsFound all) es
found_each [] all up = tt
found_each (e ∷ es) all up = (up e.0 (here e es), found_each es all (λ q there. up q (later q e es there)))
  where
    at_itself : (p : ℕ × ℕ) → is_at (pair_cmp p) p ≡ true
    at_itself p = grind (arith, nat_tests)

    here : (e : (ℕ × ℕ) × List ℕ) (es : Pairs) → is_some (lookup (is_at (pair_cmp e.0)) (e ∷ es)) ≡ true
    here e es = ap (λ b. is_some (cond b (Some e.1) (lookup (is_at (pair_cmp e.0)) es))) (at_itself e.0)

    later : (q : ℕ × ℕ) (e : (ℕ × ℕ) × List ℕ) (es : Pairs) → is_some (lookup (is_at (pair_cmp q)) es) ≡ true → is_some (lookup (is_at (pair_cmp q)) (e ∷ es)) ≡ true
    later q e es there = elim (is_at (pair_cmp q) e.0) as (λ b. is_some (cond b (Some e.1) (lookup (is_at (pair_cmp q)) es)) ≡ true) [
      | true ↦ refl
      | false ↦ there
    ]

-- ---- the count by the highest

abbrev pub above : ℕ → ℕ → ℕ × ℕ → Bool
above c reached p = (p.0 == c) && not (nat_le p.1 reached)

module _ (hs : Volumes) (es : Pairs) (below : AreBelow hs (finite.from_entries es)) (c reached : ℕ) where
  is_below_each : AllByRecursion (λ (e : (ℕ × ℕ) × List ℕ). is_below hs e.0.0 e.0.1 ≡ true) es
  is_below_each = go es (found_each es es (λ q there. there))
    where
      go : (l : Pairs) → AllByRecursion (IsFound es) l → AllByRecursion (λ (e : (ℕ × ℕ) × List ℕ). is_below hs e.0.0 e.0.1 ≡ true) l
      go [] found = tt
      go (e ∷ l) found = (below e.0.0 e.0.1 (ap is_some (get_tree {S = pair_cmp} (λ a b. refl) pairs_total es e.0) ∙ found.0), go l found.1)

  -- where the custodian has a highest volume, the files above are those up to it
  pub above_highest : (h : ℕ) → lookup (is_at (nat_cmp c)) hs ≡ Some h → count_by (is_between c reached h) (map (λ e. e.0) es) ≡ count_by (above c reached) (map (λ e. e.0) es)
  above_highest h is = count_map (is_between c reached h) (λ e. e.0) es ∙ count_same _ _ es (go es is_below_each) ∙ sym (count_map (above c reached) (λ e. e.0) es)
    where
      one : (p : ℕ × ℕ) → is_below hs p.0 p.1 ≡ true → is_between c reached h p ≡ above c reached p
      one p b = by_test (p.0 == c) refl
        where
          by_test : (t : Bool) → (p.0 == c) ≡ t → is_between c reached h p ≡ above c reached p
          by_test false e = grind (arith, e)
          by_test true e =
              let same : p.0 ≡ c = grind (arith, nat_tests, e) in
              let le : nat_le p.1 h ≡ true = sym (ap (λ o. option_map_or (nat_le p.1) o false) (ap (λ n. lookup (is_at (nat_cmp n)) hs) same ∙ is)) ∙ b in
              grind (arith, e, le)

      go : (l : Pairs) → AllByRecursion (λ (e : (ℕ × ℕ) × List ℕ). is_below hs e.0.0 e.0.1 ≡ true) l → AllByRecursion (λ (e : (ℕ × ℕ) × List ℕ). is_between c reached h e.0 ≡ above c reached e.0) l
      go [] all = tt
      go (e ∷ l) all = (one e.0 all.0, go l all.1)

  -- where it has none, it has no file
  pub above_nothing : lookup (is_at (nat_cmp c)) hs ≡ None → count_by (above c reached) (map (λ e. e.0) es) ≡ 0
  above_nothing is = count_map (above c reached) (λ e. e.0) es ∙ count_same _ (λ e. false) es (go es is_below_each) ∙ count_none (λ e. false) es (λ e. refl)
    where
      one : (p : ℕ × ℕ) → is_below hs p.0 p.1 ≡ true → above c reached p ≡ false
      one p b = by_test (p.0 == c) refl
        where
          by_test : (t : Bool) → (p.0 == c) ≡ t → above c reached p ≡ false
          by_test false e = grind (arith, e)
          by_test true e =
              let same : p.0 ≡ c = grind (arith, nat_tests, e) in
              let clash : false ≡ true = sym (ap (λ o. option_map_or (nat_le p.1) o false) (ap (λ n. lookup (is_at (nat_cmp n)) hs) same ∙ is)) ∙ b in
              absurd (cc)

      go : (l : Pairs) → AllByRecursion (λ (e : (ℕ × ℕ) × List ℕ). is_below hs e.0.0 e.0.1 ≡ true) l → AllByRecursion (λ (e : (ℕ × ℕ) × List ℕ). above c reached e.0 ≡ false) l
      go [] all = tt
      go (e ∷ l) all = (one e.0 all.0, go l all.1)

-- nothing lies between a volume and one at or below it
pub none_between : (c reached h : ℕ) → h ≤ reached → (ps : List (ℕ × ℕ)) → count_by (is_between c reached h) ps ≡ 0
none_between c reached h le ps = count_none (is_between c reached h) ps (λ p. one p)
  where
    one : (p : ℕ × ℕ) → is_between c reached h p ≡ false
    one p = grind (arith, nat_tests, le)

-- the pairs from the next volume to the highest are those between
between : (c reached h : ℕ) (p : ℕ × ℕ) → range_contains pair_cmp (Included (c, reached + 1)) (Included (c, h)) p ≡ is_between c reached h p
between c reached h p = by_tests (nat_lt c p.0) (c == p.0) refl refl
  where
    by_tests : (less same : Bool) → nat_lt c p.0 ≡ less → (c == p.0) ≡ same → range_contains pair_cmp (Included (c, reached + 1)) (Included (c, h)) p ≡ is_between c reached h p
    by_tests true same l s = grind (arith, nat_tests, l)
    by_tests false true l s = grind (arith, nat_tests, l, s)
    by_tests false false l s = grind (arith, nat_tests, l, s)

pub counted_between : (c reached first h : ℕ) (es : Pairs) → first ≡ reached + 1
    → length (files_between (c, first) (c, h) es) ≡ count_by (is_between c reached h) (map (λ e. e.0) es)
counted_between c reached first h es next =
    ap (λ n. length (files_between (c, n) (c, h) es)) next
    ∙ length-filter (λ e. range_contains pair_cmp (Included (c, reached + 1)) (Included (c, h)) e.0) es
    ∙ count_same _ (λ e. is_between c reached h e.0) es (each _ es (λ e. between c reached h e.0))
    ∙ sym (count_map (is_between c reached h) (λ e. e.0) es)

-- a number in range is itself
pub is_itself : (low high n m : ℕ) → of_id low high n ≡ Some m → m ≡ n
is_itself low high n m is = by_range (in_range low high n) is
  where
    by_range : (b : Bool) → (if b then Some n else None) ≡ Some m → m ≡ n
    by_range true e = cc
    by_range false e = cc
