-- Keys under the BLPU that their items name, and what goes on being found under it.
use Rattle.std.proofs.Common.{◌≡◌, ◌⊎◌, ◌+◌, ◌||◌, ◌&&◌, ℕ, Bool, true, false, cond, List, [], ◌∷◌, ◌++◌, refl, sym, ap, subst, ◌∙◌, arith, eqb-true, eq-eqb, inl, inr}
use Rattle.std.specs.Prelude.{◌==◌, Option, Some, None, is_some, unwrap_or}
use Rattle.std.specs.Cmp.{eq_by_cmp_equiv}
use Rattle.std.specs.FinMap as finite
use Rattle.std.specs.FinMap.{find}
use Rattle.std.specs.List.{list_any}
use Rattle.std.specs.Map.{lookup}
use Rattle.std.specs.Option.{option_and_then, option_map_or}
use Rattle.std.specs.Ordering.{eq_by_cmp}
use Rattle.gaz_histories.specs.Histories.{before, standing_at}
use Rattle.gaz_records.proofs.KeyOrder.{keys_total}
use Rattle.gaz_records.specs.Keys.{key_cmp}
use Rattle.gaz_records.specs.declared.item.Item.{Item}
use Rattle.gaz_records.specs.declared.item.Item.TheVariants as item
use Rattle.gaz_records.specs.declared.key.Key.{Key}
use Rattle.gaz_views.proofs.SameKeys.{same_key}
use Rattle.gaz_views.specs.View.{View}
use Rattle.gaz_views.specs.Words.{blpu_named, entries, names, tied}
use Rattle.gaz_standing.proofs.KeyHistories.{alike_at, item_now, row_at, view_ascends}
use Rattle.gaz_standing.proofs.Stored.{was_nowhere}
use Rattle.gaz_standing.proofs.Passing.{Row, has, held, is_cons, passing, some_keys, some_kept}
use Rattle.gaz_standing.proofs.Versions.{item_set, last, until_set}
use Rattle.gaz_standing.specs.Changing.{AddsKey, SetsAt}
use Rattle.gaz_standing.specs.Indexes.{has_key}
use Rattle.gaz_standing.specs.KeyHistories.{HasTheKeysOf, ItemVersions, KeyHistories, versions_at, view_at}
use Rattle.gaz_standing.specs.Ties.{AddsTie, AreTies, FindsTies, IsTiedTo, KeepsTies, NotesTie, is_tie, is_tied, keys_tied, may_tie, named_at, names_at, keys_in}
use Rattle.gaz_standing.specs.declared.tied.Tied.{Tied}
use Rattle.gaz_standing.specs.declared.tied_keys.TiedKeys.{TiedKeys}
use Rattle.gaz_standing.specs.declared.ties.Ties.{Ties}

-- ---- a key added under a BLPU

or_true : (a : Bool) → (a || true) ≡ true
or_true true = refl
or_true false = refl

again : (a : Bool) → (a || (a || false)) ≡ (a || false)
again true = refl
again false = refl

abbrev pub Sets : Type 0
Sets = List (ℕ × Tied)

abbrev stored : Sets → ℕ → Option Tied
stored es n = lookup (λ m. n == m) es

abbrev pub items_of : Option Tied → List Key
items_of o = option_map_or keys_in o []

abbrev pub among : Sets → ℕ → Key → Bool
among es n k = has_key (items_of (stored es n)) k

-- it is added to those that are kept under its BLPU, or stands there alone
module _ (es fs : Sets) (uprn : ℕ) (o : Option Tied) (alone was now : Tied) (key : Key)
    (there : o ≡ stored es uprn) (one : keys_in alone ≡ key ∷ []) (begun : was ≡ unwrap_or o alone)
    (more : AddsKey (keys_in was) (keys_in now) key)
    (h : (n : ℕ) → stored fs n ≡ cond (uprn == n) (Some now) (stored es n)) where
  had : (p : Option Tied) (k : Key) → (eq_by_cmp key_cmp key k || has_key (keys_in (unwrap_or p alone)) k) ≡ (eq_by_cmp key_cmp key k || has_key (items_of p) k)
  had None k = ap (λ (ks : List Key). eq_by_cmp key_cmp key k || has_key ks k) one ∙ ap (λ b. eq_by_cmp key_cmp key k || (b || false)) ((eq_by_cmp_equiv keys_total).symm k key) ∙ again (eq_by_cmp key_cmp key k)
  had (Some s) k = refl

  pub added : (n : ℕ) (k : Key) → among fs n k ≡ (is_tie uprn key n k || among es n k)
  added n k = ap (λ (p : Option Tied). has_key (items_of p) k) (h n) ∙ by_test (uprn == n) refl
    where
      by_test : (b : Bool) → (uprn == n) ≡ b → has_key (items_of (cond b (Some now) (stored es n))) k ≡ ((b && eq_by_cmp key_cmp key k) || among es n k)
      by_test true at =
          more k ∙ ap (λ (s : Tied). eq_by_cmp key_cmp key k || has_key (keys_in s) k) begun ∙ had o k
          ∙ ap (λ (p : Option Tied). eq_by_cmp key_cmp key k || has_key (items_of p) k) there
          ∙ ap (λ m. eq_by_cmp key_cmp key k || among es m k) (eqb-true uprn n at)
      by_test false at = refl

module _ (x y : TiedKeys) (uprn : ℕ) (key : Key) (h : AddsTie x y uprn key) where
  pub more_tied : KeepsTies x y
  more_tied n k under = h n k ∙ ap (λ b. is_tie uprn key n k || b) under ∙ or_true (is_tie uprn key n k)

  pub now_tied : IsTiedTo y (Some uprn) key
  now_tied n is =
      let same : uprn ≡ n = cc in
      h n key ∙ ap (λ b. (b && eq_by_cmp key_cmp key key) || is_tied x n key) (eq-eqb uprn n same) ∙ ap (λ b. b || is_tied x n key) ((eq_by_cmp_equiv keys_total).refl key)

-- ---- what may be under a BLPU

-- before they are counted
pub may_all : (t : Ties) → t.counted ≡ None → (n : ℕ) (k : Key) → may_tie t n k ≡ true
may_all t none n k = ap (λ (o : Option TiedKeys). option_map_or (λ ks. is_tied ks n k) o true) none

pub ties_none : (t : Ties) (g : KeyHistories) (v w : ℕ) → t.counted ≡ None → AreTies t g v w
ties_none t g v w none = ((λ n k is. may_all t none n k), (λ n k is. may_all t none n k))

-- those that are counted still, or aren't any more
pub ties_shed : (t s : Ties) (g : KeyHistories) (v w : ℕ) → (s ≡ t) ⊎ (s.counted ≡ None) → AreTies t g v w → AreTies s g v w
ties_shed t s g v w (inl same) ties = subst (λ (x : Ties). AreTies x g v w) (sym same) ties
ties_shed t s g v w (inr none) ties = ties_none s g v w none

-- once they are
pub may_some : (t : Ties) (x : TiedKeys) → t.counted ≡ Some x → (n : ℕ) (k : Key) → may_tie t n k ≡ is_tied x n k
may_some t x some n k = ap (λ (o : Option TiedKeys). option_map_or (λ ks. is_tied ks n k) o true) some

-- ---- all items gone through

abbrev pub Done : TiedKeys → KeyHistories → ℕ → Key → Type 0
Done x g v k = IsTiedTo x (named_at g v k) k × IsTiedTo x (named_at g (v + 1) k) k

-- each of all keys is among the rest, or done
abbrev pub Left : TiedKeys → KeyHistories → ℕ → (all rest : List Key) → Type 0
Left x g v all rest = (k : Key) → has_key all k ≡ true → (has_key rest k ≡ true) ⊎ Done x g v k

pub left_next : (x y : TiedKeys) (g : KeyHistories) (v : ℕ) (key : Key) (all rest more : List Key) → rest ≡ key ∷ more → KeepsTies x y → IsTiedTo y (named_at g v key) key → IsTiedTo y (named_at g (v + 1) key) key → Left x g v all rest → Left y g v all more
left_next x y g v key all rest more is kept first next left k there = by_left (left k there)
  where
    by_key : (b : Bool) → eq_by_cmp key_cmp k key ≡ b → (b || has_key more k) ≡ true → (has_key more k ≡ true) ⊎ Done y g v k
    by_key true at e = inr (subst (λ (q : Key). Done y g v q) (sym (same_key k key at)) (first, next))
    by_key false at e = inl e

    by_left : (has_key rest k ≡ true) ⊎ Done x g v k → (has_key more k ≡ true) ⊎ Done y g v k
    by_left (inl e) = by_key (eq_by_cmp key_cmp k key) refl (ap (λ (l : List Key). has_key l k) (sym is) ∙ e)
    by_left (inr done) = inr ((λ n named. kept n k (done.0 n named)), (λ n named. kept n k (done.1 n named)))

pub left_none : (x : TiedKeys) (g : KeyHistories) (v : ℕ) (all rest : List Key) (es : List (Key × ItemVersions)) → finite.from_entries es ≡ g → HasTheKeysOf all es → rest ≡ [] → Left x g v all rest → (k : Key) → Done x g v k
left_none x g v all rest es is keys none left k = by_stored (lookup (eq_by_cmp key_cmp k) es) refl
  where
    by_left : (has_key rest k ≡ true) ⊎ Done x g v k → Done x g v k
    by_left (inl e) = let no : false ≡ true = ap (λ (l : List Key). has_key l k) (sym none) ∙ e in cc
    by_left (inr done) = done

    nothing : lookup (eq_by_cmp key_cmp k) es ≡ None → (w : ℕ) → IsTiedTo x (named_at g w k) k
    nothing at w n named =
        let no : None ≡ Some n = ap (λ (vs : ItemVersions). option_and_then blpu_named (standing_at vs w)) (was_nowhere g es k is at) ∙ named in
        cc

    by_stored : (o : Option ItemVersions) → lookup (eq_by_cmp key_cmp k) es ≡ o → Done x g v k
    by_stored None at = (nothing at v, nothing at (v + 1))
    by_stored (Some vs) at = by_left (left k (keys k (ap is_some at)))

-- ---- what goes on being found

pub ties_set : (t s : Ties) (g h : KeyHistories) (m : ℕ) (o : Option Item) (key : Key) → NotesTie t s o key → SetsAt g h (m + 1) key o → AreTies t g m (m + 1) → AreTies s h m (m + 1)
ties_set t s g h m o key notes change ties = (last_found, working_found)
  where
    vs : List (ℕ × Option Item)
    vs = before (versions_at g key) (m + 1) ++ (m + 1, o) ∷ []

    last_found : FindsTies s h m
    last_found n k is =
        let alike = alike_at g h key vs change (λ ws. standing_at ws m) (ap last (until_set (versions_at g key) (m + 1) m o (omega arith))) k in
        notes.kept n k (ties.0 n k (ap (option_and_then blpu_named) (sym alike) ∙ is))

    working_found : FindsTies s h (m + 1)
    working_found n k is = by_key (eq_by_cmp key_cmp k key) refl (ap (option_and_then blpu_named) (sym now) ∙ is)
      where
        now : standing_at (versions_at h k) (m + 1) ≡ cond (eq_by_cmp key_cmp k key) o (standing_at (versions_at g k) (m + 1))
        now = item_now g h key vs change (m + 1) k ∙ ap (λ p. cond (eq_by_cmp key_cmp k key) p (standing_at (versions_at g k) (m + 1))) (item_set (versions_at g key) (m + 1) o)

        by_key : (b : Bool) → eq_by_cmp key_cmp k key ≡ b → option_and_then blpu_named (cond b o (standing_at (versions_at g k) (m + 1))) ≡ Some n → may_tie s n k ≡ true
        by_key true at named = ap (may_tie s n) (same_key k key at) ∙ notes.noted n named
        by_key false at named = notes.kept n k (ties.1 n k named)

-- ---- what is found where views are one

-- views that are one name the same
named_same : (g h : KeyHistories) (v w : ℕ) → view_at h w ≡ view_at g v → (k : Key) → named_at h w k ≡ named_at g v k
named_same g h v w same k = ap (option_and_then blpu_named) (row_at h w k ∙ ap (λ (u : View). find key_cmp k (entries u)) same ∙ sym (row_at g v k))

pub finds_same : (t : Ties) (g h : KeyHistories) (v w : ℕ) → view_at h w ≡ view_at g v → FindsTies t g v → FindsTies t h w
finds_same t g h v w same finds n k is = finds n k (sym (named_same g h v w same k) ∙ is)

-- ---- what is found is what the view has

names_named : (uprn : ℕ) (i : Item) → option_map_or (λ n. n == uprn) (blpu_named i) false ≡ names uprn i
names_named uprn (item.Lpi l) = refl
names_named uprn (item.Xref x) = refl
names_named uprn (item.Street s) = refl
names_named uprn (item.Descriptor d) = refl
names_named uprn (item.Blpu b) = refl
names_named uprn (item.Release r) = refl
names_named uprn (item.Adopt a) = refl

-- the row of a key names what its item names
names_row : (g : KeyHistories) (v uprn : ℕ) (k : Key) → names_at g v uprn k ≡ option_map_or (names uprn) (find key_cmp k (entries (view_at g v))) false
names_row g v uprn k = of_item (standing_at (versions_at g k) v) ∙ ap (λ o. option_map_or (names uprn) o false) (row_at g v k)
  where
    of_item : (o : Option Item) → option_map_or (λ n. n == uprn) (option_and_then blpu_named o) false ≡ option_map_or (names uprn) o false
    of_item None = refl
    of_item (Some i) = names_named uprn i

-- a name that is there is that of this BLPU
named_one : (uprn : ℕ) (o : Option ℕ) → option_map_or (λ n. n == uprn) o false ≡ true → o ≡ Some uprn
named_one uprn None e = cc
named_one uprn (Some n) e = ap Some (eqb-true n uprn e)

some_same : {A : Type 0} (p q : A → Bool) → ((a : A) → p a ≡ q a) → (xs : List A) → list_any p xs ≡ list_any q xs
some_same p q h [] = refl
some_same p q h (x ∷ xs) = λ i. h x i || some_same p q h xs i

none_in : (ks : List Key) → list_any (has []) ks ≡ false
none_in [] = refl
none_in (k ∷ ks) = none_in ks

-- where one of these keys is there, one of those is among them
one_in : (z : Key) (zs ks : List Key) → has ks z ≡ true → list_any (has (z ∷ zs)) ks ≡ true
one_in z zs [] e = e
one_in z zs (k ∷ ks) e = by_test (one_in z zs ks) (eq_by_cmp key_cmp z k) refl e
  where
    by_test : (has ks z ≡ true → list_any (has (z ∷ zs)) ks ≡ true) → (b : Bool) → eq_by_cmp key_cmp z k ≡ b → (b || has ks z) ≡ true → (has (z ∷ zs) k || list_any (has (z ∷ zs)) ks) ≡ true
    by_test rest true at there = ap (λ b. (b || has zs k) || list_any (has (z ∷ zs)) ks) ((eq_by_cmp_equiv keys_total).symm k z ∙ at)
    by_test rest false at there = ap (λ b. has (z ∷ zs) k || b) (rest there) ∙ or_true (has (z ∷ zs) k)

any_in : (zs ks : List Key) → ((k : Key) → has zs k ≡ true → has ks k ≡ true) → list_any (has zs) ks ≡ is_cons zs
unfolding is_cons
any_in [] ks all = none_in ks
any_in (z ∷ zs) ks all = one_in z zs ks (all z (ap (λ b. b || has zs z) ((eq_by_cmp_equiv keys_total).refl z)))

-- whether an item at one of the keys under a BLPU names it
pub any_tied : (t : Ties) (x : TiedKeys) (g : KeyHistories) (v uprn : ℕ) → t.counted ≡ Some x → FindsTies t g v → list_any (names_at g v uprn) (keys_tied x uprn) ≡ tied (view_at g v) uprn
any_tied t x g v uprn some finds =
    some_same (names_at g v uprn) (has (passing p es)) one_row (keys_tied x uprn) ∙ any_in (passing p es) (keys_tied x uprn) found ∙ some_keys _ ∙ sym (some_kept (λ (e : Row). p e.1) es)
  where
    es : List Row
    es = entries (view_at g v)

    p : Item → Bool
    p = names uprn

    one_row : (k : Key) → names_at g v uprn k ≡ has (passing p es) k
    one_row k = names_row g v uprn k ∙ sym (held p es (view_ascends (view_at g v)) k)

    found : (k : Key) → has (passing p es) k ≡ true → has (keys_tied x uprn) k ≡ true
    found k there = sym (may_some t x some uprn k) ∙ finds uprn k (named_one uprn (named_at g v k) (one_row k ∙ there))
