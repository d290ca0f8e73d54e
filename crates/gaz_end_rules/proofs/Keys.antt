-- Keys that tie, and the entries of a map that pass a test.
use Rattle.std.proofs.Common.{◌≡◌, Bool, true, false, cond, ◌||◌, ◌&&◌, T, List, [], ◌∷◌, refl, sym, ap, ◌∙◌, true≢false}
use Rattle.std.specs.Prelude.{Some}
use Rattle.std.specs.declared.cmp.Ordering.{Ordering}
use Rattle.std.specs.declared.cmp.Ordering.TheVariants.{Less, Equal, Greater}
use Rattle.std.specs.Ordering.{eq_by_cmp, is_eq, is_lt}
use Rattle.std.specs.Cmp.{IsTotalOrder, Equal-is, tied_itself}
use Rattle.std.specs.List.{list_any}
use Rattle.std.specs.FinMap as map
use Rattle.std.specs.FinMap.Entries.{find, is_sorted, below_all}
use Rattle.std.specs.FinMap.{IsAntisymmetric, FinMap, entries, entries_sorted, get-entries}
use Rattle.gaz_records.proofs.KeyOrder.{keys_exact, keys_total}
use Rattle.gaz_records.specs.Keys.{key_cmp}
use Rattle.gaz_records.specs.declared.key.Key.{Key}
use Rattle.gaz_end_rules.proofs.Booleans.{or_true}

pub key_tied : (a b : Key) → eq_by_cmp key_cmp a b ≡ true → a ≡ b
key_tied a b e = keys_exact a b ((Equal-is (key_cmp a b)).0 e)

pub key_itself : (k : Key) → eq_by_cmp key_cmp k k ≡ true
key_itself k = ap is_eq (tied_itself keys_total k)

first_part : (a c : Bool) → T (a && c) → T a
first_part true c h = tt
first_part false c h = h

second_part : (a c : Bool) → T (a && c) → T c
second_part true c h = h
second_part false c h = absurd h

lt_not_eq : (r : Ordering) → T (is_lt r) → is_eq r ≡ false
lt_not_eq Less h = refl
lt_not_eq Equal h = absurd h
lt_not_eq Greater h = refl

module _ {K X : Type 0} {R : K → K → Ordering} (o : IsTotalOrder R) (same : IsAntisymmetric R) (p : K × X → Bool) where
  -- a key below all others is none of them
  not_tied : (b k : K) (v : X) (es : List (K × X)) → T (below_all R b es) → find R k es ≡ Some v → eq_by_cmp R k b ≡ false
  not_tied b k v [] h e = cc
  not_tied b k v (x ∷ es) h e =
      elim (eq_by_cmp R k b) as (λ t. eq_by_cmp R k b ≡ t → t ≡ false) [
        | true ↦ λ kb.
            let less = first_part (is_lt (R b x.0)) _ h in
            let as_b : R k x.0 ≡ R b x.0 = o.congr k b x.0 ((Equal-is (R k b)).0 kb) in
            let no : eq_by_cmp R k x.0 ≡ false = ap is_eq as_b ∙ lt_not_eq (R b x.0) less in
            let later : find R k es ≡ Some v = ap (λ c. cond c (Some x.1) (find R k es)) (sym no) ∙ e in
            absurd (true≢false (sym kb ∙ not_tied b k v es (second_part (is_lt (R b x.0)) _ h) later))
        | false ↦ λ _. refl
      ] refl

  pub record Passing (m : FinMap R X) : Type 0 where
    pub key : K
    pub value : X
    pub got : map.get m key ≡ Some value
    pub passes : p (key, value) ≡ true

  record Found (es : List (K × X)) : Type 0 where
    key : K
    value : X
    at : find R key es ≡ Some value
    passes : p (key, value) ≡ true

  any_found : (es : List (K × X)) → T (is_sorted R es) → list_any p es ≡ true → Found es
  any_found [] s h = absurd (true≢false (sym h))
  any_found (e ∷ es) s h =
      elim (p e) as (λ b. p e ≡ b → (b || list_any p es) ≡ true → Found (e ∷ es)) [
        | true ↦ λ is _. record { key = e.0; value = e.1; at = ap (λ b. cond b (Some e.1) (find R e.0 es)) (ap is_eq (tied_itself o e.0)); passes = is }
        | false ↦ λ _ later.
            let rest = any_found es (second_part (below_all R e.0 es) _ s) later in
            record {
              key = rest.key;
              value = rest.value;
              at = ap (λ b. cond b (Some e.1) (find R rest.key es)) (not_tied e.0 rest.key rest.value es (first_part (below_all R e.0 es) _ s) rest.at) ∙ rest.at;
              passes = rest.passes;
            }
      ] refl h

  -- an entry that passes is the value of a key
  pub any_gives : (m : FinMap R X) → list_any p (entries m) ≡ true → Passing m
  any_gives m h =
      let found = any_found (entries m) (entries_sorted m) h in
      record { key = found.key; value = found.value; got = get-entries m found.key ∙ found.at; passes = found.passes }

  found_any : (es : List (K × X)) (k : K) (v : X) → find R k es ≡ Some v → p (k, v) ≡ true → list_any p es ≡ true
  found_any [] k v e h = cc
  found_any (x ∷ es) k v e h =
      elim (eq_by_cmp R k x.0) as (λ b. eq_by_cmp R k x.0 ≡ b → cond b (Some x.1) (find R k es) ≡ Some v → (p x || list_any p es) ≡ true) [
        | true ↦ λ t is.
            let keys : k ≡ x.0 = same k x.0 ((Equal-is (R k x.0)).0 t) in
            let values : v ≡ x.1 = cc in
            ap (λ b. b || list_any p es) ((λ i. p (sym keys i, sym values i)) ∙ h)
        | false ↦ λ _ later. or_true (p x) _ (found_any es k v later h)
      ] refl e

  -- and the value of a key that passes is an entry that does
  pub any_from : (m : FinMap R X) (k : K) (v : X) → map.get m k ≡ Some v → p (k, v) ≡ true → list_any p (entries m) ≡ true
  any_from m k v e h = found_any (entries m) k v (sym (get-entries m k) ∙ e) h
