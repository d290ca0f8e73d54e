-- Keys that are put in order, each once.
use Rattle.std.proofs.Common.{◌≡◌, ◌&&◌, ◌||◌, Bool, true, false, cond, List, [], ◌∷◌, ◌++◌, refl, sym, ap, ◌∙◌}
use Rattle.std.specs.Prelude.{filter, is_some}
use Rattle.std.proofs.lemmas.List.Kept.{IsStrictlySortedBy-dedup, IsStrictlySortedBy-filter}
use Rattle.std.proofs.lemmas.List.Sorted.{list_any-IsPermutation}
use Rattle.std.proofs.lemmas.Map.Views.{any-filter_same}
use Rattle.std.specs.Cmp.{eq_by_cmp_equiv}
use Rattle.std.specs.List.{dedup, dedup_from}
use Rattle.std.specs.List.Sorted.{IsPermutation, IsSorted, IsStrictlySortedBy}
use Rattle.std.specs.Map.{lookup}
use Rattle.std.specs.Ordering.{eq_by_cmp}
use Rattle.gaz_records.proofs.KeyOrder.{keys_total}
use Rattle.gaz_records.specs.Keys.{key_cmp}
use Rattle.gaz_records.specs.declared.key.Key.{Key}
use Rattle.gaz_views.proofs.SameKeys.{same_key}
use Rattle.gaz_standing.specs.Indexes.{has_key}

abbrev same : Key → Key → Bool
same = eq_by_cmp key_cmp

twice : (a b : Bool) → (a || b) ≡ (a || (a || b))
twice true b = refl
twice false b = refl

from_one : (q k : Key) (ks : List Key) → has_key (dedup_from same k ks) q ≡ (same q k || has_key ks q)
from_one q k [] = refl
from_one q k (x ∷ xs) = by_same (from_one q k xs) (from_one q x xs) (same x k) refl
  where
    by_same : has_key (dedup_from same k xs) q ≡ (same q k || has_key xs q) → has_key (dedup_from same x xs) q ≡ (same q x || has_key xs q) → (b : Bool) → same x k ≡ b
        → has_key (cond b (dedup_from same k xs) (k ∷ dedup_from same x xs)) q ≡ (same q k || (same q x || has_key xs q))
    by_same less more true at = less ∙ twice (same q k) (has_key xs q) ∙ ap (λ (y : Key). same q k || (same q y || has_key xs q)) (sym (same_key x k at))
    by_same less more false at = ap (λ b. same q k || b) more

has_once : (q : Key) (ks : List Key) → has_key (dedup same ks) q ≡ has_key ks q
has_once q [] = refl
has_once q (k ∷ ks) = from_one q k ks

module _ (ks ls ms : List Key) (moved : IsPermutation ks ls) (once : ms ≡ dedup same ls) where
  pub arranged_same : (q : Key) → has_key ms q ≡ has_key ks q
  arranged_same q = ap (λ (l : List Key). has_key l q) once ∙ has_once q ls ∙ sym (list_any-IsPermutation (same q) ks ls moved)

  pub arranged_ascend : IsSorted key_cmp ls → IsStrictlySortedBy key_cmp ms
  arranged_ascend sorted = rw once (IsStrictlySortedBy-dedup keys_total (λ a b. refl) ls sorted)

  -- those at which there is an entry
  module _ {V : Type 0} (es : List (Key × V)) (ns : List Key) (left : ns ≡ filter (λ k. is_some (lookup (same k) es)) ms) where
    pub kept_same : (q : Key) → has_key ns q ≡ (is_some (lookup (same q) es) && has_key ks q)
    kept_same q =
        ap (λ (l : List Key). has_key l q) left
        ∙ any-filter_same (same q) (λ k. is_some (lookup (same k) es)) (is_some (lookup (same q) es)) (λ k is. ap (λ (x : Key). is_some (lookup (same x) es)) (sym (same_key q k is))) ms
        ∙ ap (λ b. is_some (lookup (same q) es) && b) (arranged_same q)

    pub kept_ascend : IsSorted key_cmp ls → IsStrictlySortedBy key_cmp ns
    kept_ascend sorted = rw left (IsStrictlySortedBy-filter key_cmp (λ k. is_some (lookup (same k) es)) ms (arranged_ascend sorted))

-- ---- a key that is noted

swapped : (a b c : Bool) → (a || (b || c)) ≡ (b || (a || c))
swapped true true c = refl
swapped true false c = refl
swapped false b c = refl

at_end : (ks : List Key) (key q : Key) → has_key (ks ++ key ∷ []) q ≡ (same key q || has_key ks q)
at_end [] key q = ap (λ b. b || false) ((eq_by_cmp_equiv keys_total).symm q key)
at_end (k ∷ ks) key q = ap (λ b. same q k || b) (at_end ks key q) ∙ swapped (same q k) (same key q) (has_key ks q)

pub noted : (was ks ls : List Key) (key : Key) → ks ≡ was → ls ≡ ks ++ key ∷ [] → (q : Key) → has_key ls q ≡ (same key q || has_key was q)
noted was ks ls key is more q = ap (λ (l : List Key). has_key l q) more ∙ at_end ks key q ∙ ap (λ (l : List Key). same key q || has_key l q) is
