-- A ledger and its account where a number is passed on.
use Rattle.std.proofs.Common.{◌≡◌, ◌+◌, ◌||◌, ℕ, Bool, true, false, cond, List, [], ◌∷◌, ◌++◌, length, refl, sym, ap, subst, ◌∙◌, arith, eq-eqb}
use Rattle.std.specs.Prelude.{◌==◌, Err, IsOk, Ok, OnOk, Option, Result, Some, None, nat_lt}
use Rattle.std.proofs.lemmas.Bool.Decides.{nat_tests}
use Rattle.std.proofs.lemmas.List.Elements.{All-head, All-tail, filter_passes}
use Rattle.std.specs.Cmp.{eq_by_cmp_equiv}
use Rattle.std.specs.FinMap as finite
use Rattle.std.specs.FinSet as set
use Rattle.std.specs.List.{All, list_any}
use Rattle.std.specs.Option.{IsSome}
use Rattle.std.specs.Ordering.{eq_by_cmp}
use Rattle.gaz_histories.specs.Histories.{BeginsFrom, Version, Versions, before, standing_at, was_used_at}
use Rattle.gaz_records.proofs.KeyOrder.{keys_total}
use Rattle.gaz_records.specs.Keys.{key_cmp, key_of}
use Rattle.gaz_records.specs.declared.item.Item.{Item}
use Rattle.gaz_records.specs.declared.item.Item.TheVariants as item
use Rattle.gaz_records.specs.declared.key.Key.{Key}
use Rattle.gaz_records.specs.declared.key.Key.TheVariants as key
use Rattle.gaz_views.specs.Accounts.{Account, last_of}
use Rattle.gaz_views.specs.Numbered.{as_blpu, with_adopted}
use Rattle.gaz_views.specs.View.{View, with_item}
use Rattle.gaz_views.specs.declared.custody.Custody.{Custody}
use Rattle.gaz_views.specs.declared.custody.Custody.TheVariants.{Adopted}
use Rattle.gaz_views.specs.declared.verdict.Verdict.{Verdict}
use Rattle.gaz_standing.proofs.KeyHistories.{contains_at, get_now, same_views}
use Rattle.gaz_standing.proofs.Versions.{item_set, until_set, used_set}
use Rattle.gaz_standing.specs.Changing.{SetsAt}
use Rattle.gaz_standing.specs.KeyHistories.{KeyHistories, versions_at, view_at}
use Rattle.gaz_standing.specs.declared.index.Index.{Index}
use Rattle.gaz_ledger.proofs.Becoming.{inserted_after, past_after, put_back, same_with}
use Rattle.gaz_ledger.proofs.Closings.{Sets, past}
use Rattle.gaz_ledger.proofs.Judgements.{working_now}
use Rattle.gaz_ledger.proofs.Touched.{none_of}
use Rattle.gaz_ledger.specs.Changing.{with_working}
use Rattle.gaz_ledger.specs.Custodies.{Custodies, PassesAt, custody_after, passed_at, view_with, with_passing}
use Rattle.gaz_ledger.specs.Ledgers.{IsLedger, account_at}

-- ---- in place of what was just set

last_in : {X : Type 0} (P : Version X → Type 0) (vs : Versions X) (e : Version X) → All P (vs ++ e ∷ []) → P e
last_in P [] e h = All-head P e [] h
last_in P (v ∷ vs) e h = last_in P vs e (All-tail P v (vs ++ e ∷ []) h)

begins : {X : Type 0} (vs : Versions X) (n : ℕ) (o : Option X) → BeginsFrom (before vs n ++ (n, o) ∷ []) n
begins {X} vs n o same =
    let all = filter_passes (λ (e : Version X). nat_lt e.0 n) (before vs n ++ (n, o) ∷ []) in
    let there : nat_lt n n ≡ true = last_in (λ (e : Version X). nat_lt e.0 n ≡ true) (before vs n) (n, o) (subst (λ (l : Versions X). All (λ (e : Version X). nat_lt e.0 n ≡ true) l) same all) in
    let never : nat_lt n n ≡ false = grind (arith, nat_tests) in
    let no : false ≡ true = sym never ∙ there in cc

pub begins_passed : (c d : Custodies) (n uprn : ℕ) (o : Option Custody) → PassesAt c d n uprn o → BeginsFrom (passed_at d uprn) n
begins_passed c d n uprn o change =
    let itself : (uprn == uprn) ≡ true = eq-eqb uprn uprn refl in
    let here : passed_at d uprn ≡ before (passed_at c uprn) n ++ (n, o) ∷ [] = change uprn ∙ ap (λ b. cond b (before (passed_at c uprn) n ++ (n, o) ∷ []) (passed_at c uprn)) itself in
    subst (λ (ws : Versions Custody). BeginsFrom ws n) (sym here) (begins (passed_at c uprn) n o)

-- ---- the ledger

pub ledger_touched : (n : ℕ) (g : KeyHistories) (x : Index) (ks ls : List Key) (key : Key) → ls ≡ ks ++ key ∷ [] → IsLedger n g x ks → IsLedger n g x ls
ledger_touched n g x ks ls key is was =
    record {
      finds = was.finds;
      within = was.within;
      touched = λ k none. was.touched k (none_of (eq_by_cmp key_cmp k) ks key (ap (list_any (eq_by_cmp key_cmp k)) (sym is) ∙ none)).0;
    }

-- ---- the account

module _ (ds : List Verdict) (g h : KeyHistories) (c d : Custodies) (uprn : ℕ) (x : Custody) (o : Option Item) (m : ℕ) (reach : m ≡ length ds)
    (items : SetsAt g h (m + 1) (key.Blpu uprn) o) (custody : PassesAt c d (m + 1) uprn (Some x)) where
  abbrev next : ℕ
  next = length ds + 1

  items_now : Sets g h (key.Blpu uprn) o (length ds)
  items_now = subst (Sets g h (key.Blpu uprn) o) reach items

  custody_now : PassesAt c d next uprn (Some x)
  custody_now = subst (λ (n : ℕ). PassesAt c d (n + 1) uprn (Some x)) reach custody

  abbrev versions : Versions Item
  versions = before (versions_at g (key.Blpu uprn)) next ++ (next, o) ∷ []

  item_there : (p : Option Item) → o ≡ p → (k : Key) → finite.get (view_at h next).items k ≡ cond (eq_by_cmp key_cmp k (key.Blpu uprn)) p (finite.get (view_at g next).items k)
  item_there p is k = get_now g h (key.Blpu uprn) versions items_now next k ∙ ap (λ q. cond (eq_by_cmp key_cmp k (key.Blpu uprn)) q (finite.get (view_at g next).items k)) (item_set (versions_at g (key.Blpu uprn)) next o ∙ is)

  used_there : (k : Key) → set.contains (view_at h next).used k ≡ set.contains (set.insert (view_at g next).used (key.Blpu uprn)) k
  used_there k =
      contains_at h next k ∙ ap (λ ws. was_used_at ws next) (items_now k) ∙ of_cond (eq_by_cmp key_cmp (key.Blpu uprn) k) ∙ ap (λ b. b || set.contains (view_at g next).used k) ((eq_by_cmp_equiv keys_total).symm (key.Blpu uprn) k)
      ∙ sym (set.contains-insert keys_total (view_at g next).used (key.Blpu uprn) k)
    where
      of_cond : (b : Bool) → was_used_at (cond b versions (versions_at g k)) next ≡ (b || set.contains (view_at g next).used k)
      of_cond true = used_set (versions_at g (key.Blpu uprn)) next o
      of_cond false = sym (contains_at g next k)

  custody_there : custody_after d next ≡ finite.insert (custody_after c next) uprn x
  custody_there = inserted_after c d uprn _ custody_now next x (item_set (passed_at c uprn) next (Some x))

  passed_view : (p : Option Item) → o ≡ p → view_with h d next ≡ with_passing (view_with g c next) uprn x p
  passed_view None is =
      same_views (view_with h d next) (with_passing (view_with g c next) uprn x None) custody_there (λ k. item_there None is k ∙ sym (finite.get-remove keys_total (view_at g next).items (key.Blpu uprn) k)) used_there
  passed_view (Some i) is =
      same_views (view_with h d next) (with_passing (view_with g c next) uprn x (Some i)) custody_there (λ k. item_there (Some i) is k ∙ sym (finite.get-insert keys_total (view_at g next).items (key.Blpu uprn) i k)) used_there

  pub account_passed : (a : Account) → account_at ds g c ≡ a → account_at ds h d ≡ with_working a (with_passing a.working uprn x o)
  account_passed a is =
      working_now ds g h c d (with_passing (view_with g c next) uprn x o)
      (λ v le. same_with h g d c v v (past ds g h c (key.Blpu uprn) o m reach items v le) (past_after c d uprn _ custody_now v (until_set (passed_at c uprn) next v (Some x) (omega arith))))
      (passed_view o refl) ∙ ap (λ (b : Account). with_working b (with_passing b.working uprn x o)) is

-- where what became of the number is put back, the account is as it was
pub account_unpassed : (ds : List Verdict) (g h : KeyHistories) (c d e : Custodies) (a : Account) (uprn m : ℕ) (x y : Option Custody) → m ≡ length ds → account_at ds g c ≡ a → h ≡ g
    → PassesAt c d (m + 1) uprn x → PassesAt d e (m + 1) uprn y → y ≡ standing_at (passed_at c uprn) (m + 1) → account_at ds h e ≡ a
account_unpassed ds g h c d e a uprn m x y reach is same first second was =
    let one = subst (λ (n : ℕ). PassesAt c d (n + 1) uprn x) reach first in
    let two = subst (λ (n : ℕ). PassesAt d e (n + 1) uprn y) reach second in
    let stood : y ≡ standing_at (passed_at c uprn) (length ds + 1) = was ∙ ap (λ (n : ℕ). standing_at (passed_at c uprn) (n + 1)) reach in
    working_now ds g h c e (view_with g c (length ds + 1))
    (λ v le. same_with h g e c v v (ap (λ (k : KeyHistories). view_at k v) same)
    (past_after d e uprn _ two v (until_set (passed_at d uprn) (length ds + 1) v y (omega arith)) ∙ past_after c d uprn _ one v (until_set (passed_at c uprn) (length ds + 1) v x (omega arith))))
    (same_with h g e c (length ds + 1) (length ds + 1) (ap (λ (k : KeyHistories). view_at k (length ds + 1)) same) (put_back c d e uprn (length ds + 1) x y one two stood)) ∙ is

-- ---- a BLPU that is adopted

pub adopted : (v : View) (i : Item) (uprn from hop : ℕ) → IsSome (as_blpu i) → key_of i ≡ key.Blpu uprn → with_passing v uprn (Adopted from hop) (Some i) ≡ with_adopted v i from hop
adopted v (item.Blpu b) uprn from hop some is = let same : uprn ≡ b.uprn = cc in ap (λ (n : ℕ). with_passing v n (Adopted from hop) (Some (item.Blpu b))) same
adopted v (item.Street s) uprn from hop some is = cc
adopted v (item.Descriptor s) uprn from hop some is = cc
adopted v (item.Xref s) uprn from hop some is = cc
adopted v (item.Lpi s) uprn from hop some is = cc
adopted v (item.Release s) uprn from hop some is = cc
adopted v (item.Adopt s) uprn from hop some is = cc

items_adopted : (v : View) (i : Item) (from hop : ℕ) → IsSome (as_blpu i) → (with_adopted v i from hop).items ≡ (with_item v i).items
items_adopted v (item.Blpu b) from hop some = refl
items_adopted v (item.Street s) from hop some = cc
items_adopted v (item.Descriptor s) from hop some = cc
items_adopted v (item.Xref s) from hop some = cc
items_adopted v (item.Lpi s) from hop some = cc
items_adopted v (item.Release s) from hop some = cc
items_adopted v (item.Adopt s) from hop some = cc

-- what stands at keys where a BLPU was adopted is what stands there where it was put
pub adopted_items : (a b : Account) (i : Item) (from hop : ℕ) → IsSome (as_blpu i) → b ≡ with_working a (with_adopted a.working i from hop) → (b.working.items ≡ (with_item a.working i).items) × (last_of b ≡ last_of a)
adopted_items a b i from hop some is = (ap (λ (d : Account). d.working.items) is ∙ items_adopted a.working i from hop some, ap last_of is)

pub when_ok : {A E P : Type 0} (r : Result A E) → IsOk r → OnOk r P → P
when_ok (Ok x) is h = h
when_ok (Err e) is h = cc
