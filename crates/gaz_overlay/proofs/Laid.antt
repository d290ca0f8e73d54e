-- Views with changes laid over them.
use Rattle.std.proofs.Common.{◌≡◌, ◌∙◌, ◌++◌, ◌||◌, ℕ, Bool, true, false, not, cond, sym, ap, refl, is_some, List, [], ◌∷◌, true≢false}
use Rattle.std.specs.Prelude.{Option, Some, None}
use Rattle.std.specs.FinMap as finite
use Rattle.std.specs.FinMap.{find}
use Rattle.std.specs.FinSet as set
use Rattle.std.specs.Cmp.{nat_cmp_total, tied_itself}
use Rattle.std.specs.FinMap.{nat_cmp-IsAntisymmetric}
use Rattle.std.specs.Option.{option_or}
use Rattle.std.specs.Ordering.{eq_by_cmp, is_eq, nat_cmp}
use Rattle.std.specs.declared.cmp.Ordering.TheVariants.{Equal}
use Rattle.gaz_records.proofs.KeyOrder.{keys_exact, keys_total}
use Rattle.gaz_records.specs.Items.{is_entry}
use Rattle.gaz_records.specs.Keys.{key_cmp, key_of}
use Rattle.gaz_records.specs.declared.item.Item.{Item}
use Rattle.gaz_records.specs.Blpus.{BlpuValue}
use Rattle.gaz_records.specs.declared.item.Item.TheVariants as item
use Rattle.gaz_records.specs.declared.key.Key.{Key}
use Rattle.gaz_records.specs.declared.key.Key.TheVariants as key
use Rattle.gaz_views.proofs.Emptiness.{no_custody, used_none}
use Rattle.gaz_views.proofs.Lawful.{lawful_empty, lawful_put, lawful_released, lawful_taken}
use Rattle.gaz_views.proofs.SameKeys.{same_key}
use Rattle.gaz_views.specs.Lawful.{IsLawfulView}
use Rattle.gaz_views.specs.View.{View, custody_at, empty_view, holds, was_used, with_adoption, with_item, with_release, without_key}
use Rattle.gaz_views.specs.declared.custody.Custody.{Custody}
use Rattle.gaz_views.specs.declared.custody.Custody.TheVariants.{Adopted, Released}
use Rattle.gaz_overlay.specs.Laid.{laid, laid_custody, untouched, with_copied, with_some}
use Rattle.gaz_overlay.specs.Laws.{LaidViews, custody_laid_at}

-- ---- what stands at a key

abbrev pub besides : Option Item → Option Item → Option Item
besides None o = o
besides (Some x) o = Some x

find_both : (q : Key) (a b : List (Key × Item)) → find key_cmp q (a ++ b) ≡ besides (find key_cmp q a) (find key_cmp q b)
find_both q [] b = refl
find_both q (e ∷ a) b =
    elim (eq_by_cmp key_cmp q e.0) as (λ t. cond t (Some e.1) (find key_cmp q (a ++ b)) ≡ besides (cond t (Some e.1) (find key_cmp q a)) (find key_cmp q b)) [
      | true ↦ refl
      | false ↦ find_both q a b
    ]

chosen : (u : Bool) (o w : Option Item) → (is_some o ≡ true → u ≡ true) → besides o (cond (not u) w None) ≡ cond u o w
chosen true None w h = refl
chosen true (Some x) w h = refl
chosen false None w h = refl
chosen false (Some x) w h = absurd (true≢false (sym (h refl)))

alike : (s : View) (q x : Key) → key_cmp q x ≡ Equal → untouched s x ≡ untouched s q
alike s q x tie = ap not (set.contains_tied keys_total s.used q x tie)

pub at_key : (v s : View) → IsLawfulView s → (q : Key) → finite.get (laid v s).items q ≡ cond (was_used s q) (finite.get s.items q) (finite.get v.items q)
unfolding laid
at_key v s lawful q =
    let rest = finite.retain_keys v.items (untouched s) in
    let left : find key_cmp q (finite.entries s.items) ≡ finite.get s.items q = sym (finite.get-entries s.items q) in
    let right : find key_cmp q (finite.entries rest) ≡ cond (untouched s q) (finite.get v.items q) None = sym (finite.get-entries rest q) ∙ finite.get-retain_keys v.items (untouched s) q (alike s q) in
    finite.get-from_entries keys_total (finite.entries s.items ++ finite.entries rest) q
    ∙ find_both q (finite.entries s.items) (finite.entries rest)
    ∙ (λ i. besides (left i) (right i))
    ∙ chosen (was_used s q) (finite.get s.items q) (finite.get v.items q) (lawful.used q)

pub used_at : (v s : View) (q : Key) → was_used (laid v s) q ≡ (was_used v q || was_used s q)
unfolding laid
used_at v s q = set.contains-union keys_total v.used s.used q

-- views that answer alike are one
pub same_view : (v w : View) → v.custody ≡ w.custody → ((q : Key) → finite.get v.items q ≡ finite.get w.items q) → ((q : Key) → was_used v q ≡ was_used w q) → v ≡ w
same_view v w custody items used = λ i. record {
  items = finite.same_map keys_total keys_exact v.items w.items items i;
  used = set.same_set keys_total keys_exact v.used w.used used i;
  custody = custody i;
}

-- ---- what became of numbers

abbrev pub Passings : Type 0
Passings = finite.FinMap nat_cmp Custody

find_or : (n : ℕ) (a b : List (ℕ × Custody)) → find nat_cmp n (a ++ b) ≡ option_or (find nat_cmp n a) (find nat_cmp n b)
find_or n [] b = refl
find_or n (e ∷ a) b =
    elim (eq_by_cmp nat_cmp n e.0) as (λ t. cond t (Some e.1) (find nat_cmp n (a ++ b)) ≡ option_or (cond t (Some e.1) (find nat_cmp n a)) (find nat_cmp n b)) [
      | true ↦ refl
      | false ↦ find_or n a b
    ]

pub custody_over : (was passed : Passings) (n : ℕ) → finite.get (laid_custody was passed) n ≡ option_or (finite.get passed n) (finite.get was n)
unfolding laid_custody
custody_over was passed n =
    finite.get-from_entries nat_cmp_total (finite.entries passed ++ finite.entries was) n
    ∙ find_or n (finite.entries passed) (finite.entries was)
    ∙ (λ i. option_or (sym (finite.get-entries passed n) i) (sym (finite.get-entries was n) i))

pub same_custody : (a b : Passings) → ((n : ℕ) → finite.get a n ≡ finite.get b n) → a ≡ b
same_custody a b same = finite.same_map nat_cmp_total nat_cmp-IsAntisymmetric a b same

pub custody_laid : (v s : View) → (laid v s).custody ≡ laid_custody v.custody s.custody
unfolding laid
custody_laid v s = refl

pub custody_laid_is : (v s : View) (n : ℕ) → custody_at (laid v s) n ≡ custody_laid_at v s n
custody_laid_is v s n = ap (λ (m : Passings). finite.get m n) (custody_laid v s) ∙ custody_over v.custody s.custody n

or_put : (t : Bool) (x a b : Option Custody) → is_some x ≡ true → cond t x (option_or a b) ≡ option_or (cond t x a) b
or_put true None a b some = absurd (true≢false (sym some))
or_put true (Some x) a b some = refl
or_put false x a b some = refl

-- one number more is passed on
pub more_passed : (v s : View) (n : ℕ) (x : Custody) → finite.insert (laid v s).custody n x ≡ laid_custody v.custody (finite.insert s.custody n x)
more_passed v s n x = same_custody _ _ (λ m.
    finite.get-insert nat_cmp_total (laid v s).custody n x m
    ∙ ap (cond (eq_by_cmp nat_cmp m n) (Some x)) (custody_laid_is v s m)
    ∙ or_put (eq_by_cmp nat_cmp m n) (Some x) (finite.get s.custody m) (finite.get v.custody m) refl
    ∙ sym (custody_over v.custody (finite.insert s.custody n x) m ∙ ap (λ o. option_or o (finite.get v.custody m)) (finite.get-insert nat_cmp_total s.custody n x m)))

-- ---- changes

abbrev pub tie : Key → Key → Bool
tie q k = eq_by_cmp key_cmp q k

put_item : (t u : Bool) (x a b : Option Item) → cond t x (cond u a b) ≡ cond (t || u) (cond t x a) b
put_item true u x a b = refl
put_item false u x a b = refl

turned : (a b c : Bool) → (a || (b || c)) ≡ (b || (a || c))
turned true true c = refl
turned true false c = refl
turned false b c = refl

-- with an item more the changes have it at its key, and else what they had
more_at : (v s : View) → IsLawfulView s → (i : Item) → is_entry i ≡ true → (q : Key)
    → finite.get (laid v (with_item s i)).items q ≡ cond (tie q (key_of i) || was_used s q) (cond (tie q (key_of i)) (Some i) (finite.get s.items q)) (finite.get v.items q)
more_at v s lawful i entry q =
    let uses = set.contains-insert keys_total s.used (key_of i) q in
    let gets = finite.get-insert keys_total s.items (key_of i) i q in
    at_key v (with_item s i) (lawful_put s i entry lawful) q ∙ (λ j. cond (uses j) (gets j) (finite.get v.items q))

more_used : (v s : View) (i : Item) (q : Key) → was_used (laid v (with_item s i)) q ≡ (was_used v q || (tie q (key_of i) || was_used s q))
more_used v s i q = used_at v (with_item s i) q ∙ ap (λ b. was_used v q || b) (set.contains-insert keys_total s.used (key_of i) q)

pub put : (v s : View) → IsLawfulView s → (i : Item) → is_entry i ≡ true → with_item (laid v s) i ≡ laid v (with_item s i)
put v s lawful i entry = same_view (with_item (laid v s) i) (laid v (with_item s i)) (custody_laid v s ∙ sym (custody_laid v (with_item s i))) items used
  where
    items : (q : Key) → finite.get (with_item (laid v s) i).items q ≡ finite.get (laid v (with_item s i)).items q
    items q =
        finite.get-insert keys_total (laid v s).items (key_of i) i q
        ∙ ap (cond (tie q (key_of i)) (Some i)) (at_key v s lawful q)
        ∙ put_item (tie q (key_of i)) (was_used s q) (Some i) (finite.get s.items q) (finite.get v.items q)
        ∙ sym (more_at v s lawful i entry q)

    used : (q : Key) → was_used (with_item (laid v s) i) q ≡ was_used (laid v (with_item s i)) q
    used q =
        set.contains-insert keys_total (laid v s).used (key_of i) q
        ∙ ap (λ b. tie q (key_of i) || b) (used_at v s q)
        ∙ turned (tie q (key_of i)) (was_used v q) (was_used s q)
        ∙ sym (more_used v s i q)

taken_item : (t u : Bool) (a b : Option Item) → (t ≡ true → u ≡ false → b ≡ None) → cond t None (cond u a b) ≡ cond u (cond t None a) b
taken_item true true a b h = refl
taken_item true false a b h = sym (h refl refl)
taken_item false u a b h = refl

pub taken : (v s : View) → IsLawfulView s → (k : Key) → (was_used s k ≡ false → finite.get v.items k ≡ None) → without_key (laid v s) k ≡ laid v (without_key s k)
taken v s lawful k none = same_view (without_key (laid v s) k) (laid v (without_key s k)) (custody_laid v s ∙ sym (custody_laid v (without_key s k))) items (λ q. used_at v s q ∙ sym (used_at v (without_key s k) q))
  where
    nothing_there : (q : Key) → tie q k ≡ true → was_used s q ≡ false → finite.get v.items q ≡ None
    nothing_there q is unused =
        let same : q ≡ k = same_key q k is in
        ap (finite.get v.items) same ∙ none (sym (ap (was_used s) same) ∙ unused)

    items : (q : Key) → finite.get (without_key (laid v s) k).items q ≡ finite.get (laid v (without_key s k)).items q
    items q =
        finite.get-remove keys_total (laid v s).items k q
        ∙ ap (cond (tie q k) None) (at_key v s lawful q)
        ∙ taken_item (tie q k) (was_used s q) (finite.get s.items q) (finite.get v.items q) (nothing_there q)
        ∙ sym (at_key v (without_key s k) (lawful_taken s k lawful) q ∙ ap (λ o. cond (was_used s q) o (finite.get v.items q)) (finite.get-remove keys_total s.items k q))

absorbed : (w t u : Bool) → (t ≡ true → w ≡ true) → (w || (t || u)) ≡ (w || u)
absorbed true t u h = refl
absorbed false true u h = absurd (true≢false (sym (h refl)))
absorbed false false u h = refl

item_copied : (v s : View) → IsLawfulView v → IsLawfulView s → (i : Item) → finite.get v.items (key_of i) ≡ Some i → was_used s (key_of i) ≡ false → laid v (with_item s i) ≡ laid v s
item_copied v s last lawful i there unused = same_view (laid v (with_item s i)) (laid v s) (custody_laid v (with_item s i) ∙ sym (custody_laid v s)) (λ q. more_at v s lawful i (last.entries (key_of i) i there) q ∙ by_tie q (tie q (key_of i)) refl ∙ sym (at_key v s lawful q)) used
  where
    by_tie : (q : Key) (t : Bool) → tie q (key_of i) ≡ t → cond (t || was_used s q) (cond t (Some i) (finite.get s.items q)) (finite.get v.items q) ≡ cond (was_used s q) (finite.get s.items q) (finite.get v.items q)
    by_tie q true is =
        let same : q ≡ key_of i = same_key q (key_of i) is in
        sym (ap (λ b. cond b (finite.get s.items q) (finite.get v.items q)) (ap (was_used s) same ∙ unused) ∙ ap (finite.get v.items) same ∙ there)
    by_tie q false is = refl

    used : (q : Key) → was_used (laid v (with_item s i)) q ≡ was_used (laid v s) q
    used q =
        more_used v s i q
        ∙ absorbed (was_used v q) (tie q (key_of i)) (was_used s q) (λ t. ap (was_used v) (same_key q (key_of i) t) ∙ last.used (key_of i) (ap is_some there))
        ∙ sym (used_at v s q)

pub key_copied : (v s : View) → IsLawfulView v → IsLawfulView s → (k : Key) → laid v (with_copied s k (finite.get v.items k)) ≡ laid v s
key_copied v s last lawful k = by_use (was_used s k) refl (finite.get v.items k) refl
  where
    by_use : (u : Bool) → was_used s k ≡ u → (o : Option Item) → finite.get v.items k ≡ o → laid v (cond u s (with_some s o)) ≡ laid v s
    by_use true is o there = refl
    by_use false is None there = refl
    by_use false is (Some i) there =
        let key : key_of i ≡ k = last.keyed k i there in
        item_copied v s last lawful i (ap (finite.get v.items) key ∙ there) (ap (was_used s) key ∙ is)

ready : (v s : View) → IsLawfulView v → (k : Key) → was_used (with_copied s k (finite.get v.items k)) k ≡ false → finite.get v.items k ≡ None
ready v s last k unused = by_use (was_used s k) refl (finite.get v.items k) refl unused
  where
    by_use : (u : Bool) → was_used s k ≡ u → (o : Option Item) → finite.get v.items k ≡ o → was_used (cond u s (with_some s o)) k ≡ false → o ≡ None
    by_use true is o there none = absurd (true≢false (sym is ∙ none))
    by_use false is None there none = refl
    by_use false is (Some i) there none =
        let key : key_of i ≡ k = last.keyed k i there in
        let uses : was_used (with_item s i) k ≡ (tie k (key_of i) || was_used s k) = set.contains-insert keys_total s.used (key_of i) k in
        let tied : tie k (key_of i) ≡ true = ap (tie k) key ∙ ap is_eq (tied_itself keys_total k) in
        absurd (true≢false (sym (uses ∙ ap (λ b. b || was_used s k) tied) ∙ none))

-- ---- no changes, and lawful ones

or_none : (a : Bool) → (a || false) ≡ a
or_none true = refl
or_none false = refl

pub nothing : (v : View) → laid v empty_view ≡ v
nothing v = same_view (laid v empty_view) v
    (custody_laid v empty_view ∙ same_custody _ _ (λ n. custody_over v.custody empty_view.custody n ∙ ap (λ o. option_or o (finite.get v.custody n)) (no_custody n)))
    (λ q. at_key v empty_view lawful_empty q ∙ ap (λ b. cond b (finite.get empty_view.items q) (finite.get v.items q)) (used_none q))
    (λ q. used_at v empty_view q ∙ ap (λ b. was_used v q || b) (used_none q) ∙ or_none (was_used v q))

or_right : (a : Bool) → (a || true) ≡ true
or_right true = refl
or_right false = refl

lawful_laid : (v s : View) → IsLawfulView v → IsLawfulView s → IsLawfulView (laid v s)
lawful_laid v s last lawful = record { entries = entries; keyed = keyed; used = used }
  where
    entries : (k : Key) (i : Item) → finite.get (laid v s).items k ≡ Some i → is_entry i ≡ true
    entries k i there = by_use (was_used s k) (sym (at_key v s lawful k) ∙ there)
      where
        by_use : (u : Bool) → cond u (finite.get s.items k) (finite.get v.items k) ≡ Some i → is_entry i ≡ true
        by_use true is = lawful.entries k i is
        by_use false is = last.entries k i is

    keyed : (k : Key) (i : Item) → finite.get (laid v s).items k ≡ Some i → key_of i ≡ k
    keyed k i there = by_use (was_used s k) (sym (at_key v s lawful k) ∙ there)
      where
        by_use : (u : Bool) → cond u (finite.get s.items k) (finite.get v.items k) ≡ Some i → key_of i ≡ k
        by_use true is = lawful.keyed k i is
        by_use false is = last.keyed k i is

    used : (k : Key) → holds (laid v s) k ≡ true → was_used (laid v s) k ≡ true
    used k there = used_at v s k ∙ by_use (was_used s k) (sym (ap is_some (at_key v s lawful k)) ∙ there)
      where
        by_use : (u : Bool) → is_some (cond u (finite.get s.items k) (finite.get v.items k)) ≡ true → (was_used v k || u) ≡ true
        by_use true is = or_right (was_used v k)
        by_use false is = ap (λ b. b || false) (last.used k is)

-- ---- a number is passed on

pub released : (v s : View) → IsLawfulView s → (n to hop : ℕ) → with_release (laid v s) n to hop ≡ laid v (with_release s n to hop)
released v s lawful n to hop =
    same_view (with_release (laid v s) n to hop) (laid v (with_release s n to hop))
    (more_passed v s n (Released to hop) ∙ sym (custody_laid v (with_release s n to hop))) items used
  where
    items : (q : Key) → finite.get (with_release (laid v s) n to hop).items q ≡ finite.get (laid v (with_release s n to hop)).items q
    items q =
        let uses = set.contains-insert keys_total s.used (key.Blpu n) q in
        let gets = finite.get-remove keys_total s.items (key.Blpu n) q in
        finite.get-remove keys_total (laid v s).items (key.Blpu n) q
        ∙ ap (cond (tie q (key.Blpu n)) None) (at_key v s lawful q)
        ∙ put_item (tie q (key.Blpu n)) (was_used s q) None (finite.get s.items q) (finite.get v.items q)
        ∙ sym (at_key v (with_release s n to hop) (lawful_released s n to hop lawful) q ∙ (λ j. cond (uses j) (gets j) (finite.get v.items q)))

    used : (q : Key) → was_used (with_release (laid v s) n to hop) q ≡ was_used (laid v (with_release s n to hop)) q
    used q =
        set.contains-insert keys_total (laid v s).used (key.Blpu n) q
        ∙ ap (λ b. tie q (key.Blpu n) || b) (used_at v s q)
        ∙ turned (tie q (key.Blpu n)) (was_used v q) (was_used s q)
        ∙ sym (used_at v (with_release s n to hop) q ∙ ap (λ b. was_used v q || b) (set.contains-insert keys_total s.used (key.Blpu n) q))

-- an item that is put beside it is put where it was adopted
as_put_items : (v s : View) (b : BlpuValue) (from hop : ℕ) → (laid v (with_adoption s b from hop)).items ≡ (laid v (with_item s (item.Blpu b))).items
unfolding laid
as_put_items v s b from hop = refl

as_put_used : (v s : View) (b : BlpuValue) (from hop : ℕ) → (laid v (with_adoption s b from hop)).used ≡ (laid v (with_item s (item.Blpu b))).used
unfolding laid
as_put_used v s b from hop = refl

pub adopted : (v s : View) → IsLawfulView s → (b : BlpuValue) (from hop : ℕ) → with_adoption (laid v s) b from hop ≡ laid v (with_adoption s b from hop)
adopted v s lawful b from hop =
    let is = put v s lawful (item.Blpu b) refl in
    let custody = more_passed v s b.uprn (Adopted from hop) ∙ sym (custody_laid v (with_adoption s b from hop)) in
    let items = ap (λ (w : View). w.items) is ∙ sym (as_put_items v s b from hop) in
    let used = ap (λ (w : View). w.used) is ∙ sym (as_put_used v s b from hop) in
    λ i. record { items = items i; used = used i; custody = custody i }

pub laid_views : LaidViews
laid_views = record {
  at = λ v s lawful k. record { item = at_key v s lawful k; used = used_at v s k };
  custody = custody_laid_is;
  nothing = nothing;
  lawful = lawful_laid;
  put = put;
  taken = taken;
  copied = key_copied;
  ready = ready;
  released = released;
  adopted = adopted;
}
