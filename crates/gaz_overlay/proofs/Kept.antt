-- The touched keys as they are kept: by key, in a tree.
use Rattle.std.proofs.Common.{◌≡◌, ◌∙◌, Bool, true, false, cond, List, refl, sym, ap, is_some, true≢false}
use Rattle.std.specs.Prelude.{Option, Some, None}
use Rattle.std.specs.BTreeMap.{is_at}
use Rattle.std.specs.Cmp.{eq_by_cmp_equiv, tied_itself}
use Rattle.std.specs.FinMap as finite
use Rattle.std.specs.List.Sorted.{IsStrictlySortedBy}
use Rattle.std.specs.Map.{keys_of, lookup}
use Rattle.std.specs.Ordering.{is_eq}
use Rattle.gaz_records.proofs.KeyOrder.{keys_exact, keys_same, keys_total}
use Rattle.gaz_records.specs.contracts.key.KeyOrd.TheImpl.{cmp-value as key-value}
use Rattle.gaz_records.specs.declared.key.Key.{Key}
use Rattle.gaz_views.proofs.SameKeys.{same_key}
use Rattle.gaz_views.proofs.Trees.{entries_tree, get_tree, inserted}
use Rattle.gaz_overlay.specs.Changes.{Touched}
use Rattle.gaz_overlay.specs.declared.touch.Touch.{Touch}
use Rattle.gaz_overlay.proofs.Laid.{tie}

abbrev pub Kept : Type 0
Kept = List (Key × Touch)

abbrev pub touched_of : Kept → Touched
touched_of es = finite.from_entries es

abbrev kept_at : Kept → Key → Option Touch
kept_at es q = lookup (is_at (key-value.it q)) es

-- what is kept at a key
pub found : (m : Touched) (es : Kept) (q : Key) → touched_of es ≡ m → kept_at es q ≡ finite.get m q
found m es q is = sym (get_tree keys_same keys_total es q) ∙ ap (λ (n : Touched). finite.get n q) is

-- a key is set
pub set_at : (m : Touched) (es fs : Kept) (k : Key) (x : Touch) → touched_of es ≡ m → ((q : Key) → kept_at fs q ≡ cond (is_at (key-value.it k) q) (Some x) (kept_at es q)) → touched_of fs ≡ finite.insert m k x
set_at m es fs k x is sets = inserted keys_same keys_total keys_exact es fs k x sets ∙ ap (λ (n : Touched). finite.insert n k x) is

-- a key is forgotten
pub gone_at : (m : Touched) (es fs : Kept) (k : Key) → touched_of es ≡ m → ((q : Key) → kept_at fs q ≡ cond (is_at (key-value.it k) q) None (kept_at es q)) → touched_of fs ≡ finite.remove m k
gone_at m es fs k is goes = finite.same_map keys_total keys_exact (touched_of fs) (finite.remove m k) (λ q.
    get_tree keys_same keys_total fs q ∙ goes q
    ∙ (λ i. cond (is_eq (keys_same k q i)) None (found m es q is i)) ∙ ap (λ b. cond b None (finite.get m q)) ((eq_by_cmp_equiv keys_total).symm k q)
    ∙ sym (finite.get-remove keys_total m k q))

-- a key that is noted and forgotten leaves nothing
pub forgotten : (m : Touched) (k : Key) (x : Touch) → finite.contains_key m k ≡ false → finite.remove (finite.insert m k x) k ≡ m
forgotten m k x fresh = finite.same_map keys_total keys_exact (finite.remove (finite.insert m k x) k) m (λ q.
    finite.get-remove keys_total (finite.insert m k x) k q ∙ ap (cond (tie q k) None) (finite.get-insert keys_total m k x q) ∙ by_tie q (tie q k) refl)
  where
    none_of : (o : Option Touch) → is_some o ≡ false → None ≡ o
    none_of None h = refl
    none_of (Some t) h = absurd (true≢false h)

    by_tie : (q : Key) (b : Bool) → tie q k ≡ b → cond b None (cond b (Some x) (finite.get m q)) ≡ finite.get m q
    by_tie q true is = none_of (finite.get m q) (ap (finite.contains_key m) (same_key q k is) ∙ fresh)
    by_tie q false is = refl

-- a key that is noted is there
pub noted_there : (m : Touched) (k : Key) (x : Touch) → finite.contains_key (finite.insert m k x) k ≡ true
noted_there m k x = ap is_some (finite.get-insert keys_total m k x k) ∙ ap (λ b. is_some (cond b (Some x) (finite.get m k))) (ap is_eq (tied_itself keys_total k))

-- the keys in their order
pub keys_in_order : (m : Touched) (es : Kept) → touched_of es ≡ m → IsStrictlySortedBy key-value.it (keys_of es) → keys_of es ≡ finite.keys m
keys_in_order m es is sorted = sym (ap keys_of (entries_tree keys_same keys_total es sorted)) ∙ ap (λ (n : Touched). finite.keys n) is
