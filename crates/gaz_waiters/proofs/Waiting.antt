-- What is pushed, taken out and put back, as what a hub remembers is seen.
use Rattle.std.proofs.Common.{◌≡◌, ◌+◌, ◌<◌, ℕ, Bool, true, false, cond, not, eqb, List, [], ◌∷◌, ◌++◌, filter, take, get_or, append_assoc, append-nil, refl, sym, ap, ◌∙◌}
use Rattle.std.proofs.lemmas.List.Elements.{filter_more}
use Rattle.std.specs.Cmp.{IsTotalOrder, eq_by_cmp_equiv}
use Rattle.std.specs.declared.cmp.Ordering.{Ordering}
use Rattle.std.specs.declared.cmp.Ordering.TheVariants.{Equal}
use Rattle.std.specs.Prelude.{length, Option, Some, None}
use Rattle.std.specs.BTreeMap.{is_at}
use Rattle.std.specs.FinMap as finmap
use Rattle.std.specs.Map.{lookup}
use Rattle.std.specs.Ordering.{eq_by_cmp}
use Rattle.gaz_views.proofs.Trees.{get_tree}
use Rattle.gaz_keeper.proofs.Pairs.{pairs_exact, pairs_total}
use Rattle.gaz_keeper.specs.Received.{pair_cmp}

-- the others of the first of a list, with the next one where it is one
pub pushed_if : (but : ℕ) (base xs : List ℕ) (i x : ℕ) → i < length xs → x ≡ get_or xs i x
    → base ++ filter (λ y. not (eqb y but)) (take (i + 1) xs)
    ≡ cond (not (eqb x but)) ((base ++ filter (λ y. not (eqb y but)) (take i xs)) ++ x ∷ []) (base ++ filter (λ y. not (eqb y but)) (take i xs))
pushed_if but base xs i x below is =
    ap (λ ys. base ++ ys) (filter_more (λ y. not (eqb y but)) xs i x below)
    ∙ ap (λ y. base ++ (filter (λ z. not (eqb z but)) (take i xs) ++ cond (not (eqb y but)) (y ∷ []) [])) (sym is)
    ∙ either (not (eqb x but))
  where
    either : (b : Bool) → base ++ (filter (λ y. not (eqb y but)) (take i xs) ++ cond b (x ∷ []) [])
        ≡ cond b ((base ++ filter (λ y. not (eqb y but)) (take i xs)) ++ x ∷ []) (base ++ filter (λ y. not (eqb y but)) (take i xs))
    either true = sym (append_assoc base (filter (λ y. not (eqb y but)) (take i xs)) (x ∷ []))
    either false = ap (λ ys. base ++ ys) (append-nil (filter (λ y. not (eqb y but)) (take i xs)))

-- what a tree map without a key is as a finite map
pub taken_out : {K X : Type 0} {R : K → K → Ordering} → IsTotalOrder R → ((a b : K) → R a b ≡ Equal → a ≡ b) → (es fs : List (K × X)) (p : K)
    → ((q : K) → lookup (is_at (R q)) fs ≡ cond (is_at (R p) q) None (lookup (is_at (R q)) es))
    → finmap.from_entries {R = R} fs ≡ finmap.remove (finmap.from_entries es) p
taken_out {R} total exact es fs p h = finmap.same_map total exact _ _ (λ q.
    get_tree {S = R} (λ a b. refl) total fs q ∙ h q
    ∙ ap (λ b. cond b None (lookup (is_at (R q)) es)) ((eq_by_cmp_equiv total).symm p q)
    ∙ sym (finmap.get-remove total (finmap.from_entries es) p q ∙ ap (cond (eq_by_cmp R q p) None) (get_tree {S = R} (λ a b. refl) total es q)))

pub removed : {X : Type 0} (es fs : List ((ℕ × ℕ) × X)) (p : ℕ × ℕ) → ((q : ℕ × ℕ) → lookup (is_at (pair_cmp q)) fs ≡ cond (is_at (pair_cmp p) q) None (lookup (is_at (pair_cmp q)) es))
    → finmap.from_entries {R = pair_cmp} fs ≡ finmap.remove (finmap.from_entries es) p
removed es fs p h = taken_out pairs_total pairs_exact es fs p h

-- what is put back over what was taken
pub put_back : {X : Type 0} (m : finmap.FinMap pair_cmp X) (p : ℕ × ℕ) (v : X) → finmap.insert (finmap.remove m p) p v ≡ finmap.insert m p v
put_back m p v = finmap.same_map pairs_total pairs_exact _ _ (λ q.
    finmap.get-insert pairs_total (finmap.remove m p) p v q ∙ ap (cond (eq_by_cmp pair_cmp q p) (Some v)) (finmap.get-remove pairs_total m p q)
    ∙ twice (eq_by_cmp pair_cmp q p) (finmap.get m q) ∙ sym (finmap.get-insert pairs_total m p v q))
  where
    twice : (b : Bool) (o : Option _) → cond b (Some v) (cond b None o) ≡ cond b (Some v) o
    twice true o = refl
    twice false o = refl
