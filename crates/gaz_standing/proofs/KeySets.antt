-- The keys under a mark, one or a set, where one more comes or one goes.
use Rattle.std.proofs.Common.{◌≡◌, ◌&&◌, ◌||◌, Bool, true, false, not, cond, List, [], ◌∷◌, refl, sym, ap, ◌∙◌}
use Rattle.std.specs.Prelude.{Option, Some, None, unwrap_or}
use Rattle.std.specs.BTreeMap.{is_at}
use Rattle.std.specs.Cmp.{eq_by_cmp_equiv, tied_itself}
use Rattle.std.specs.List.{list_any}
use Rattle.std.specs.Option.{option_map_or}
use Rattle.std.specs.List.Sorted.{IsStrictlySortedBy}
use Rattle.std.specs.Ordering.{eq_by_cmp, is_eq}
use Rattle.std.specs.declared.cmp.Ordering.{Ordering}
use Rattle.std.specs.declared.cmp.Ordering.TheVariants.{Less, Equal, Greater}
use Rattle.gaz_records.proofs.KeyOrder.{keys_exact, keys_total}
use Rattle.gaz_records.specs.Keys.{key_cmp}
use Rattle.gaz_records.specs.contracts.key.KeyOrd.TheImpl.{cmp-value as key-value}
use Rattle.gaz_records.specs.declared.key.Key.{Key}
use Rattle.gaz_views.proofs.Trees.{any-is}
use Rattle.gaz_standing.specs.Indexes.{has_key, listed}
use Rattle.gaz_standing.specs.declared.keys.Keys.{Keys}

abbrev same : Key → Key → Bool
same a b = eq_by_cmp key_cmp a b

-- the keys of what is kept at a mark
abbrev pub kept_keys : Option Keys → List Key
kept_keys o = option_map_or listed o []

is_equal : (o : Ordering) → is_eq o ≡ true → o ≡ Equal
is_equal Less e = cc
is_equal Equal e = refl
is_equal Greater e = cc

same_key : (a b : Key) → same a b ≡ true → a ≡ b
same_key a b e = keys_exact a b (is_equal _ e)

turned : (a b : Key) → same a b ≡ same b a
turned a b = (eq_by_cmp_equiv keys_total).symm a b

pub one_ascends : (k : Key) → IsStrictlySortedBy key-value.it (k ∷ [])
unfolding IsStrictlySortedBy
one_ascends k = (tt, tt)

-- ---- a tree set, kept in an order that is that of keys

or_cond : (a b : Bool) → cond a true b ≡ (a || b)
or_cond true b = refl
or_cond false b = refl

and_cond : (a b : Bool) → cond a false b ≡ (not a && b)
and_cond true b = refl
and_cond false b = refl

module _ {S : Key → Key → Ordering} (alike : (a b : Key) → S a b ≡ key_cmp a b) where
  abbrev is_in : List Key → Key → Bool
  is_in ks k = list_any (is_at (S k)) ks

  in_order : (ks : List Key) (k : Key) → has_key ks k ≡ is_in ks k
  in_order ks k = any-is alike ks k

  pub added : (ks ls : List Key) (key : Key) → ((k : Key) → is_in ls k ≡ cond (is_at (S key) k) true (is_in ks k)) → (k : Key) → has_key ls k ≡ (same key k || has_key ks k)
  added ks ls key more k = in_order ls k ∙ more k ∙ (λ i. cond (is_eq (alike key k i)) true (sym (in_order ks k) i)) ∙ or_cond (same key k) (has_key ks k)

  pub taken : (ks ls : List Key) (key : Key) → ((k : Key) → is_in ls k ≡ cond (is_at (S key) k) false (is_in ks k)) → (k : Key) → has_key ls k ≡ (not (same key k) && has_key ks k)
  taken ks ls key less k = in_order ls k ∙ less k ∙ (λ i. cond (is_eq (alike key k i)) false (sym (in_order ks k) i)) ∙ and_cond (same key k) (has_key ks k)

  pub two : (none mid ls : List Key) (one other : Key) → none ≡ [] → ((k : Key) → is_in mid k ≡ cond (is_at (S one) k) true (is_in none k))
      → ((k : Key) → is_in ls k ≡ cond (is_at (S other) k) true (is_in mid k)) → (k : Key) → has_key ls k ≡ (same other k || has_key (one ∷ []) k)
  two none mid ls one other empty first second k =
      added mid ls other second k ∙ ap (λ b. same other k || b) (added none mid one first k ∙ (λ i. turned one k i || has_key (empty i) k))

-- ---- one key

again : (a : Bool) → (a || false) ≡ (a || (a || false))
again true = refl
again false = refl

-- it is added again
pub known : (one key : Key) → same one key ≡ true → (k : Key) → has_key (one ∷ []) k ≡ (same key k || has_key (one ∷ []) k)
known one key is k = again (same k one) ∙ ap (λ b. b || has_key (one ∷ []) k) (turned k one ∙ ap (λ (x : Key). same x k) (same_key one key is))

-- another is not there
pub not_there : (one key : Key) → same one key ≡ false → has_key (one ∷ []) key ≡ false
not_there one key other = ap (λ b. b || false) (turned key one ∙ other)

-- it is added where there may be keys, or else beside itself
pub besides : (o : Option Keys) (alone : Keys) (key : Key) → listed alone ≡ key ∷ [] → (k : Key) → (same key k || has_key (listed (unwrap_or o alone)) k) ≡ (same key k || has_key (kept_keys o) k)
besides None alone key is k = ap (λ (ks : List Key). same key k || has_key ks k) is ∙ ap (λ b. same key k || (b || false)) (turned k key) ∙ sym (again (same key k)) ∙ refl
besides (Some s) alone key is k = refl

-- where it isn't among them, there were keys
pub not_besides : (o : Option Keys) (alone : Keys) (key : Key) → listed alone ≡ key ∷ [] → has_key (listed (unwrap_or o alone)) key ≡ false → listed (unwrap_or o alone) ≡ kept_keys o
not_besides None alone key is none =
    let there : true ≡ false = (λ i. is_eq (sym (tied_itself keys_total key) i) || false) ∙ sym (ap (λ (ks : List Key). has_key ks key) is) ∙ none in
    cc
not_besides (Some s) alone key is none = refl

never : (a : Bool) → false ≡ (not a && (a || false))
never true = refl
never false = refl

-- it is taken
pub gone : (none : List Key) (one key : Key) → none ≡ [] → same one key ≡ true → (k : Key) → has_key none k ≡ (not (same key k) && has_key (one ∷ []) k)
gone none one key empty is k =
    ap (λ (ks : List Key). has_key ks k) empty ∙ never (same k one) ∙ ap (λ b. not b && has_key (one ∷ []) k) (turned k one ∙ ap (λ (x : Key). same x k) (same_key one key is))

-- another is taken
pub stays : (one key : Key) → same one key ≡ false → (k : Key) → has_key (one ∷ []) k ≡ (not (same key k) && has_key (one ∷ []) k)
stays one key other k = by_key (same key k) refl
  where
    by_key : (b : Bool) → same key k ≡ b → has_key (one ∷ []) k ≡ (not b && has_key (one ∷ []) k)
    by_key true at = ap (λ b. b || false) (ap (λ (x : Key). same x one) (sym (same_key key k at)) ∙ turned key one ∙ other)
    by_key false at = refl
