-- The numbers that were passed on as they are kept: by number, in a tree.
use Rattle.std.proofs.Common.{◌≡◌, ◌∙◌, ℕ, Bool, true, false, cond, List, refl, sym, ap, is_some, true≢false}
use Rattle.std.specs.Prelude.{Option, Some, None}
use Rattle.std.specs.BTreeMap.{is_at}
use Rattle.std.specs.Cmp.{eq_by_cmp_equiv, nat_cmp_total}
use Rattle.std.specs.FinMap as finite
use Rattle.std.specs.FinMap.{nat_cmp-IsAntisymmetric}
use Rattle.std.specs.List.Sorted.{IsStrictlySortedBy}
use Rattle.std.specs.Map.{keys_of, lookup}
use Rattle.std.specs.Ordering.{eq_by_cmp, is_eq, nat_cmp}
use Rattle.gaz_views.proofs.Trees.{entries_tree, get_tree, inserted}
use Rattle.gaz_overlay.specs.Changes.{Passed, noted}
use Rattle.gaz_overlay.proofs.Touching.{one_number}

abbrev pub Kept : Type 0
Kept = List (ℕ × Option ℕ)

abbrev pub passed_of : Kept → Passed
passed_of es = finite.from_entries es

abbrev kept_at : Kept → ℕ → Option (Option ℕ)
kept_at es q = lookup (is_at (nat_cmp q)) es

same : (a b : ℕ) → nat_cmp a b ≡ nat_cmp a b
same a b = refl

-- what is kept of a number
pub found : (m : Passed) (es : Kept) (q : ℕ) → passed_of es ≡ m → kept_at es q ≡ finite.get m q
found m es q is = sym (get_tree same nat_cmp_total es q) ∙ ap (λ (n : Passed). finite.get n q) is

-- a number is set
pub set_at : (m : Passed) (es fs : Kept) (k : ℕ) (x : Option ℕ) → passed_of es ≡ m → ((q : ℕ) → kept_at fs q ≡ cond (is_at (nat_cmp k) q) (Some x) (kept_at es q)) → passed_of fs ≡ finite.insert m k x
set_at m es fs k x is sets = inserted same nat_cmp_total nat_cmp-IsAntisymmetric es fs k x sets ∙ ap (λ (n : Passed). finite.insert n k x) is

-- a number is forgotten
pub gone_at : (m : Passed) (es fs : Kept) (k : ℕ) → passed_of es ≡ m → ((q : ℕ) → kept_at fs q ≡ cond (is_at (nat_cmp k) q) None (kept_at es q)) → passed_of fs ≡ finite.remove m k
gone_at m es fs k is goes = finite.same_map nat_cmp_total nat_cmp-IsAntisymmetric (passed_of fs) (finite.remove m k) (λ q.
    get_tree same nat_cmp_total fs q ∙ goes q
    ∙ (λ i. cond (is_eq (nat_cmp k q)) None (found m es q is i)) ∙ ap (λ b. cond b None (finite.get m q)) ((eq_by_cmp_equiv nat_cmp_total).symm k q)
    ∙ sym (finite.get-remove nat_cmp_total m k q))

-- a number that is noted first and forgotten leaves nothing
pub forgotten : (m : Passed) (k : ℕ) (x : Option ℕ) → finite.contains_key m k ≡ false → finite.remove (noted m k x) k ≡ m
forgotten m k x fresh =
    ap (λ b. finite.remove (cond b m (finite.insert m k x)) k) fresh
    ∙ finite.same_map nat_cmp_total nat_cmp-IsAntisymmetric (finite.remove (finite.insert m k x) k) m (λ q.
    finite.get-remove nat_cmp_total (finite.insert m k x) k q ∙ ap (cond (eq_by_cmp nat_cmp q k) None) (finite.get-insert nat_cmp_total m k x q) ∙ by_tie q (eq_by_cmp nat_cmp q k) refl)
  where
    none_of : (o : Option (Option ℕ)) → is_some o ≡ false → None ≡ o
    none_of None h = refl
    none_of (Some t) h = absurd (true≢false h)

    by_tie : (q : ℕ) (b : Bool) → eq_by_cmp nat_cmp q k ≡ b → cond b None (cond b (Some x) (finite.get m q)) ≡ finite.get m q
    by_tie q true is = none_of (finite.get m q) (ap (finite.contains_key m) (one_number q k is) ∙ fresh)
    by_tie q false is = refl

-- a number that was there is noted already
pub noted_already : (m : Passed) (k : ℕ) (x : Option ℕ) → finite.contains_key m k ≡ true → noted m k x ≡ m
noted_already m k x there = ap (λ b. cond b m (finite.insert m k x)) there

pub noted_first : (m : Passed) (k : ℕ) (x : Option ℕ) → finite.contains_key m k ≡ false → noted m k x ≡ finite.insert m k x
noted_first m k x fresh = ap (λ b. cond b m (finite.insert m k x)) fresh

-- the numbers in their order
pub numbers_in_order : (m : Passed) (es : Kept) → passed_of es ≡ m → IsStrictlySortedBy nat_cmp (keys_of es) → keys_of es ≡ finite.keys m
numbers_in_order m es is sorted = sym (ap keys_of (entries_tree same nat_cmp_total es sorted)) ∙ ap (λ (n : Passed). finite.keys n) is
