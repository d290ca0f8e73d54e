-- Tree maps and tree sets, kept in an order S that is R at all keys, as finite maps and sets.
use Rattle.std.proofs.Common.{◌≡◌, cond, ◌||◌, List, [], ◌∷◌, length, refl, sym, ap, ◌∙◌, arith}
use Rattle.std.specs.Prelude.{Some}
use Rattle.std.specs.List.{list_any}
use Rattle.std.specs.declared.cmp.Ordering.{Ordering}
use Rattle.std.specs.declared.cmp.Ordering.TheVariants.{Equal}
use Rattle.std.specs.Ordering.{eq_by_cmp, is_eq}
use Rattle.std.specs.Cmp.{IsTotalOrder, eq_by_cmp_equiv}
use Rattle.std.specs.FinMap as map
use Rattle.std.specs.BTreeMap.{is_at}
use Rattle.std.specs.Map.{lookup, keys_of}
use Rattle.std.specs.List.Sorted.{IsStrictlySortedBy}

module _ {K X : Type 0} {R S : K → K → Ordering} (same : (a b : K) → S a b ≡ R a b) where
  pub find-is : (es : List (K × X)) (q : K) → map.find R q es ≡ lookup (is_at (S q)) es
  find-is [] q = refl
  find-is (e ∷ es) q = ap (λ r. cond (is_eq r) (Some e.1) (map.find R q es)) (sym (same q e.0)) ∙ ap (cond (is_at (S q) e.0) (Some e.1)) (find-is es q)

  -- what the finite map of a tree map has at a key
  pub get_tree : IsTotalOrder R → (es : List (K × X)) (q : K) → map.get (map.from_entries {R = R} es) q ≡ lookup (is_at (S q)) es
  get_tree o es q = map.get-from_entries o es q ∙ find-is es q

  -- a tree map that has another value at one key
  pub inserted : IsTotalOrder R → ((a b : K) → R a b ≡ Equal → a ≡ b) → (es fs : List (K × X)) (k : K) (v : X)
      → ((q : K) → lookup (is_at (S q)) fs ≡ cond (is_at (S k) q) (Some v) (lookup (is_at (S q)) es))
      → map.from_entries {R = R} fs ≡ map.insert (map.from_entries es) k v
  inserted o exact es fs k v h = map.same_map o exact _ _ (λ q.
      get_tree o fs q ∙ h q ∙ ap (λ r. cond (is_eq r) (Some v) (lookup (is_at (S q)) es)) (same k q) ∙ ap (λ b. cond b (Some v) (lookup (is_at (S q)) es)) ((eq_by_cmp_equiv o).symm k q)
      ∙ sym (map.get-insert o (map.from_entries es) k v q ∙ ap (cond (eq_by_cmp R q k) (Some v)) (get_tree o es q)))

module _ {K : Type 0} {R S : K → K → Ordering} (same : (a b : K) → S a b ≡ R a b) where
  pub any-is : (ks : List K) (q : K) → list_any (eq_by_cmp R q) ks ≡ list_any (is_at (S q)) ks
  any-is [] q = refl
  any-is (k ∷ ks) q = ap (λ r. is_eq r || list_any (eq_by_cmp R q) ks) (sym (same q k)) ∙ ap (λ b. is_at (S q) k || b) (any-is ks q)

-- ---- the entries of a tree map whose keys ascend

nothing_in : {X : Type 0} (xs : List X) → length xs ≡ 0 → xs ≡ []
nothing_in [] e = refl
nothing_in (x ∷ xs) e = absurd (omega arith)

pub no_entries : {K : Type 0} (X : Type 0) (R : K → K → Ordering) → map.entries (map.empty {X = X} {R = R}) ≡ []
no_entries X R = nothing_in _ (sym (map.len-entries (map.empty {X = X} {R = R})) ∙ map.len-empty R X)

module _ {K X : Type 0} {R S : K → K → Ordering} (same : (a b : K) → S a b ≡ R a b) where
  in_front : (e : K × X) (es : List (K × X)) → IsStrictlySortedBy S (keys_of (e ∷ es)) → map.put R e.0 e.1 es ≡ e ∷ es
  unfolding IsStrictlySortedBy
  in_front e [] h = refl
  in_front e (f ∷ es) h = let less = sym (same e.0 f.0) ∙ h.0.0 in rw less refl

  -- the finite map of a tree map has its entries
  pub entries_tree : IsTotalOrder R → (es : List (K × X)) → IsStrictlySortedBy S (keys_of es) → map.entries (map.from_entries {R = R} es) ≡ es
  unfolding IsStrictlySortedBy
  entries_tree o [] h = no_entries _ _
  entries_tree o (e ∷ es) h = map.entries-insert o (map.from_entries es) e.0 e.1 ∙ ap (map.put R e.0 e.1) (entries_tree o es h.1) ∙ in_front e es h
