-- A gazetteer in which an item's life is put back.
use Rattle.std.proofs.Common.{◌≡◌, ◌≤◌, ◌<◌, ◌+◌, ◌-◌, ◌||◌, ℕ, Bool, true, false, cond, List, length, refl, sym, ap, subst, ◌∙◌, arith, slice_get, unwrap_or}
use Rattle.std.specs.Prelude.{◌==◌, Option, Some, None, nat_le, nat_lt}
use Rattle.std.proofs.lemmas.Bool.Decides.{nat_tests}
use Rattle.std.proofs.lemmas.List.Elements.{All-filter, All-push, All-weaker, filter_passes}
use Rattle.std.specs.Cmp.{eq_by_cmp_equiv}
use Rattle.std.specs.FinMap as finite
use Rattle.std.specs.FinMap.{get-entries}
use Rattle.std.specs.FinSet as set
use Rattle.std.specs.List.{All, list_any}
use Rattle.std.specs.Option.{IfSome, option_map_or}
use Rattle.std.specs.Ordering.{eq_by_cmp, nat_cmp}
use Rattle.gaz_histories.specs.Histories.{IsOverBy, Version, before, lived, standing_at, until, was_used_at, with_version}
use Rattle.gaz_records.proofs.KeyOrder.{keys_total}
use Rattle.gaz_records.specs.Keys.{key_cmp, key_of}
use Rattle.gaz_records.specs.declared.item.Item.{Item}
use Rattle.gaz_records.specs.declared.key.Key.{Key}
use Rattle.gaz_views.proofs.Judgements.{count_judged, verdict_at}
use Rattle.gaz_views.proofs.SameKeys.{same_key}
use Rattle.gaz_views.specs.Accounts.{Account, last_of, view_in}
use Rattle.gaz_views.specs.Judgements.{views}
use Rattle.gaz_views.specs.View.{View, empty_view, with_item, without_key}
use Rattle.gaz_views.specs.Words.{entries}
use Rattle.gaz_views.specs.declared.custody.Custody.{Custody}
use Rattle.gaz_views.specs.declared.property.Property.{Property}
use Rattle.gaz_views.specs.declared.verdict.Verdict.{Verdict}
use Rattle.gaz_standing.proofs.KeyHistories.{contains_at, get_at, get_now, holds_at, none_passed, past_view, put_view, same_views}
use Rattle.gaz_standing.proofs.Marked.{finds_with_more}
use Rattle.gaz_standing.proofs.Versions.{item_set, last, settled, some_version, until_set, used_by, used_set}
use Rattle.gaz_standing.specs.Changing.{IsOneOf, LivesAt, Pair}
use Rattle.gaz_standing.specs.Indexes.{FindsAll, has_mark, is_under, marked_at}
use Rattle.gaz_standing.specs.KeyHistories.{ItemVersions, KeyHistories, versions_at, view_at}
use Rattle.gaz_standing.specs.declared.index.Index.{Index}
use Rattle.gaz_standing.specs.declared.index.Mark.{Mark}
use Rattle.gaz_ledger.proofs.Becoming.{AreWithin}
use Rattle.gaz_ledger.proofs.Judgements.{view_in_at}
use Rattle.gaz_ledger.proofs.Known.{marked_put, others_put, others_taken, still_so, unmarked_taken}
use Rattle.gaz_ledger.proofs.Ledgers.{Found, More, finds_by, found_at, ledger_found, reached_of, seen}
use Rattle.gaz_ledger.specs.Changing.{is_addressed_by, verdict_in}
use Rattle.gaz_ledger.specs.Custodies.{Custodies, custody_after, view_with}
use Rattle.gaz_ledger.specs.Ledgers.{Finds, IsLedger, account_at}
use Rattle.gaz_ledger.specs.Lives.{IsFreeFrom, IsLifeWithin, Restores, is_gone_by, with_life}
use Rattle.gaz_ledger.specs.Properties.{AreSo, is_blpu, known_in}
use Rattle.gaz_ledger.specs.declared.properties.Properties.{Properties}

-- ---- a version from a volume on

module _ (vs : ItemVersions) (n : ℕ) (o : Option Item) where
  early : All (λ (e : Version Item). e.0 ≤ n) (with_version vs n o)
  early =
      All-push (λ (e : Version Item). e.0 ≤ n) (before vs n) (n, o)
      (All-weaker (λ (e : Version Item). nat_lt e.0 n ≡ true) (λ (e : Version Item). e.0 ≤ n) (λ e h. (let is : nat_lt e.0 n ≡ true = h in grind (arith, nat_tests))) (before vs n) (filter_passes (λ (e : Version Item). nat_lt e.0 n) vs))
      (omega arith)

  as_set : (t : ℕ) → n ≤ t → until (with_version vs n o) t ≡ until (with_version vs n o) n
  as_set t le = settled (with_version vs n o) n t le early ∙ sym (settled (with_version vs n o) n n (omega arith) early)

  stands : (t : ℕ) → n ≤ t → standing_at (with_version vs n o) t ≡ o
  stands t le = ap last (as_set t le) ∙ item_set vs n o

  used : (t : ℕ) → n ≤ t → was_used_at (with_version vs n o) t ≡ true
  used t le = used_by (with_version vs n o) t ∙ ap some_version (as_set t le) ∙ sym (used_by (with_version vs n o) n) ∙ used_set vs n o

  all_with : (P : Version Item → Type 0) → All P vs → P (n, o) → All P (with_version vs n o)
  all_with P h here = All-push P (before vs n) (n, o) (All-filter (λ (e : Version Item). nat_lt e.0 n) P vs h) here

-- ---- a life

abbrev EndsAfter : ℕ → Option ℕ → Type 0
EndsAfter born gone = IfSome gone (λ g. born ≤ g)

all_lived : (P : Version Item → Type 0) (vs : ItemVersions) (born : ℕ) (gone : Option ℕ) (i : Item) → All P vs → P (born, Some i) → IfSome gone (λ g. P (g, None)) → All P (lived vs born gone i)
all_lived P vs born None i h first end = all_with vs born (Some i) P h first
all_lived P vs born (Some g) i h first end = all_with (with_version vs born (Some i)) g None P (all_with vs born (Some i) P h first) end

unborn : (vs : ItemVersions) (born : ℕ) (gone : Option ℕ) (i : Item) (t : ℕ) → EndsAfter born gone → t < born → until (lived vs born gone i) t ≡ until vs t
unborn vs born None i t order lt = until_set vs born t (Some i) lt
unborn vs born (Some g) i t order lt = until_set (with_version vs born (Some i)) g t None (let le : born ≤ g = order in omega arith) ∙ until_set vs born t (Some i) lt

alive : (vs : ItemVersions) (born : ℕ) (gone : Option ℕ) (i : Item) (t : ℕ) → born ≤ t → is_gone_by gone t ≡ false → (standing_at (lived vs born gone i) t ≡ Some i) × (was_used_at (lived vs born gone i) t ≡ true)
alive vs born None i t le not = (stands vs born (Some i) t le, used vs born (Some i) t le)
alive vs born (Some g) i t le not =
    let ws = with_version vs born (Some i) in
    let later : nat_le g t ≡ false = not in
    let lt : t < g = grind (arith, nat_tests) in
    let same = until_set ws g t None lt in
    (ap last same ∙ stands vs born (Some i) t le, used_by (with_version ws g None) t ∙ ap some_version same ∙ sym (used_by ws t) ∙ used vs born (Some i) t le)

over : (vs : ItemVersions) (born : ℕ) (gone : Option ℕ) (i : Item) (t : ℕ) → is_gone_by gone t ≡ true → (standing_at (lived vs born gone i) t ≡ None) × (was_used_at (lived vs born gone i) t ≡ true)
over vs born None i t is = cc
over vs born (Some g) i t is =
    let there : nat_le g t ≡ true = is in
    let le : g ≤ t = grind (arith, nat_tests) in
    (stands (with_version vs born (Some i)) g None t le, used (with_version vs born (Some i)) g None t le)

-- ---- the views

module _ (g h : KeyHistories) (born : ℕ) (gone : Option ℕ) (i : Item) (change : LivesAt g h (key_of i) born gone i) where
  abbrev now : ItemVersions
  now = lived (versions_at g (key_of i)) born gone i

  gone_view : (t : ℕ) → standing_at now t ≡ None → was_used_at now t ≡ true → view_at h t ≡ without_key (with_item (view_at g t) i) (key_of i)
  gone_view t none is = same_views (view_at h t) (without_key (with_item (view_at g t) i) (key_of i)) (none_passed h t ∙ sym (none_passed g t))
      (λ k. get_now g h (key_of i) now change t k ∙ ap (λ o. cond (eq_by_cmp key_cmp k (key_of i)) o (finite.get (view_at g t).items k)) none
      ∙ either k (eq_by_cmp key_cmp k (key_of i)) ∙ ap (cond (eq_by_cmp key_cmp k (key_of i)) None) (sym (finite.get-insert keys_total (view_at g t).items (key_of i) i k))
      ∙ sym (finite.get-remove keys_total (with_item (view_at g t) i).items (key_of i) k))
      (λ k. contains_at h t k ∙ ap (λ ws. was_used_at ws t) (change k) ∙ of_cond k (eq_by_cmp key_cmp (key_of i) k)
      ∙ ap (λ b. b || set.contains (view_at g t).used k) ((eq_by_cmp_equiv keys_total).symm (key_of i) k) ∙ sym (set.contains-insert keys_total (view_at g t).used (key_of i) k))
    where
      either : (k : Key) (b : Bool) → ◌≡◌ {A = Option Item} (cond b None (finite.get (view_at g t).items k)) (cond b None (cond b (Some i) (finite.get (view_at g t).items k)))
      either k true = refl
      either k false = refl

      of_cond : (k : Key) (b : Bool) → was_used_at (cond b now (versions_at g k)) t ≡ (b || set.contains (view_at g t).used k)
      of_cond k true = is
      of_cond k false = sym (contains_at g t k)

  pub lived_view : EndsAfter born gone → (t : ℕ) → view_at h t ≡ with_life born gone i t (view_at g t)
  lived_view order t = by_birth (nat_lt t born) refl
    where
      by_end : born ≤ t → (b : Bool) → is_gone_by gone t ≡ b → view_at h t ≡ cond b (without_key (with_item (view_at g t) i) (key_of i)) (with_item (view_at g t) i)
      by_end le true is = let two = over (versions_at g (key_of i)) born gone i t is in gone_view t two.0 two.1
      by_end le false is = let two = alive (versions_at g (key_of i)) born gone i t le is in put_view g h (key_of i) now change t i refl two.0 two.1

      by_birth : (b : Bool) → nat_lt t born ≡ b → view_at h t ≡ cond b (view_at g t) (cond (is_gone_by gone t) (without_key (with_item (view_at g t) i) (key_of i)) (with_item (view_at g t) i))
      by_birth true is = past_view g h (key_of i) now change t (unborn (versions_at g (key_of i)) born gone i t order (let lt : t < born = grind (arith, nat_tests) in lt))
      by_birth false is = by_end (let le : born ≤ t = grind (arith, nat_tests) in le) (is_gone_by gone t) refl

-- ---- the ledger

ends : (n born : ℕ) (gone : Option ℕ) → IfSome gone (λ g. (born ≤ g) × (g ≤ n)) → EndsAfter born gone
ends n born None h = tt
ends n born (Some g) h = h.0

weaker : {P Q : ℕ → Type 0} (o : Option ℕ) → ((g : ℕ) → P g → Q g) → IfSome o P → IfSome o Q
weaker None f h = tt
weaker (Some g) f h = f g h

pub ledger_lived : (n : ℕ) (g h : KeyHistories) (x y : Index) (ks : List Key) (key : Key) (born : ℕ) (gone : Option ℕ) (i : Item) → IsLifeWithin n born gone → IsLedger n g x ks → Finds y h n → LivesAt g h key born gone i → IsLedger n h y ks
ledger_lived n g h x y ks key born gone i life was finds change =
    let first = life.first in
    let begun = life.begun in
    record {
      finds = finds;
      within = holds_at g h key (lived (versions_at g key) born gone i) change (λ (ws : ItemVersions). All (λ (e : Version Item). (0 < e.0) × (e.0 ≤ n + 1)) ws)
          (all_lived (λ (e : Version Item). (0 < e.0) × (e.0 ≤ n + 1)) (versions_at g key) born gone i (was.within key) (omega arith, omega arith) (weaker gone (λ e h. (let low = h.0 in omega arith, let high = h.1 in omega arith)) life.ended)) was.within;
      touched = λ k none. subst (λ (ws : ItemVersions). All (λ (e : Version Item). e.0 ≤ n) ws) (sym (change k)) (by_same k none (eq_by_cmp key_cmp key k) refl);
    }
  where
    by_same : (k : Key) → list_any (eq_by_cmp key_cmp k) ks ≡ false → (b : Bool) → eq_by_cmp key_cmp key k ≡ b → All (λ (e : Version Item). e.0 ≤ n) (cond b (lived (versions_at g key) born gone i) (versions_at g k))
    by_same k none true at =
        all_lived (λ (e : Version Item). e.0 ≤ n) (versions_at g key) born gone i (subst (λ (q : Key). All (λ (e : Version Item). e.0 ≤ n) (versions_at g q)) (sym (same_key key k at)) (was.touched k none)) life.begun (weaker gone (λ e h. h.1) life.ended)
    by_same k none false at = was.touched k none

-- the histories are as they were, and more may be under marks
pub ledger_kept : (n m : ℕ) (g h : KeyHistories) (x y : Index) (ks : List Key) → m ≡ n → h ≡ g → IsLedger n g x ks → (Finds x g m → Finds y h m) → IsLedger n h y ks
ledger_kept n m g h x y ks reach same was finds =
    let found = subst (λ k. Finds x g k → Finds y h k) reach finds in
    subst (λ (k : KeyHistories). IsLedger n k y ks) (sym same) (ledger_found n g x y ks was (λ f. subst (λ (k : KeyHistories). Finds y k n) same (found f)))

-- an item that goes on standing is under its marks
pub finds_lived : (x y : Index) (g h : KeyHistories) (key : Key) (n born : ℕ) (gone : Option ℕ) (i : Item) → IsLifeWithin n born gone → More x y → (gone ≡ None → (m : Mark) → has_mark m i ≡ true → is_under y m key ≡ true)
    → LivesAt g h key born gone i → Finds x g n → Finds y h n
finds_lived x y g h key n born gone i life more marks change finds =
    record { last = found n (omega arith) finds.last; working = found (n + 1) (omega arith) finds.working }
  where
    here : (v : ℕ) → n ≤ v → (o : Option ℕ) → gone ≡ o → (m : Mark) → Found y m key (standing_at (lived (versions_at g key) born o i) v)
    here v le None is m = let begun = life.begun in subst (Found y m key) (sym (stands (versions_at g key) born (Some i) v (omega arith))) (marks is m)
    here v le (Some e) is m =
        let ended = subst (λ o. IfSome o (λ e. (born ≤ e) × (e ≤ n))) is life.ended in
        subst (Found y m key) (sym (stands (with_version (versions_at g key) born (Some i)) e None v (let high = ended.1 in omega arith))) tt

    by_same : (v : ℕ) → n ≤ v → FindsAll y (entries (view_at g v)) → (m : Mark) (k : Key) (b : Bool) → eq_by_cmp key_cmp k key ≡ b
        → Found y m k (cond b (standing_at (lived (versions_at g key) born gone i) v) (finite.get (view_at g v).items k))
    by_same v le mine m k true at = subst (λ (q : Key). Found y m q (standing_at (lived (versions_at g key) born gone i) v)) (sym (same_key k key at)) (here v le gone refl m)
    by_same v le mine m k false at = found_at y (view_at g v) mine m k

    found : (v : ℕ) → n ≤ v → FindsAll x (entries (view_at g v)) → FindsAll y (entries (view_at h v))
    found v le mine =
        let still = finds_with_more x y (entries (view_at g v)) mine more in
        finds_by y (view_at h v) (λ m k. subst (Found y m k) (sym (get_now g h key (lived (versions_at g key) born gone i) change v k)) (by_same v le still m k (eq_by_cmp key_cmp k key) refl))

-- ---- the account

-- a life leaves what became of numbers
kept_custody : (born : ℕ) (gone : Option ℕ) (i : Item) (t : ℕ) (v : View) (m : finite.FinMap nat_cmp Custody) → record (with_life born gone i t v) { custody = m } ≡ with_life born gone i t (record v { custody = m })
kept_custody born gone i t v m = by_birth (nat_lt t born) (is_gone_by gone t)
  where
    by_birth : (b e : Bool) → record (cond b v (cond e (without_key (with_item v i) (key_of i)) (with_item v i))) { custody = m }
        ≡ cond b (record v { custody = m }) (cond e (without_key (with_item (record v { custody = m }) i) (key_of i)) (with_item (record v { custody = m }) i))
    by_birth true e = refl
    by_birth false true = refl
    by_birth false false = refl

pub account_lived : (ds : List Verdict) (g h : KeyHistories) (c : Custodies) (a : Account) (born : ℕ) (gone : Option ℕ) (i : Item) → AreWithin (length ds) g c → AreWithin (length ds) h c → account_at ds g c ≡ a → IsLifeWithin (length a.judged) born gone
    → LivesAt g h (key_of i) born gone i → Restores a (account_at ds h c) born gone i
account_lived ds g h c a born gone i within after is life change =
    record {
      reached = count_judged ds (view_with h c) ∙ reached_of ds g c a is;
      verdicts = λ volume. ap (λ o. cond (volume == 0) None o) (verdict_at ds (view_with h c) (volume - 1) ∙ sym (verdict_at ds (view_with g c) (volume - 1))) ∙ ap (λ (b : Account). verdict_in b volume) is;
      views = λ t. view_in_at ds h c after t
          ∙ ap (λ (w : View). record w { custody = custody_after c t }) (lived_view g h born gone i change (ends (length a.judged) born gone life.ended) t)
          ∙ kept_custody born gone i t (view_at g t) (custody_after c t) ∙ ap (with_life born gone i t) (seen ds g c a within is t);
    }

-- whether nothing stands at a key from a volume on
pub free_over : (ds : List Verdict) (g : KeyHistories) (c : Custodies) (a : Account) (key : Key) (born : ℕ) → AreWithin (length ds) g c → account_at ds g c ≡ a
    → (IsOverBy (versions_at g key) born → IsFreeFrom a born key) × (IsFreeFrom a born key → IsOverBy (versions_at g key) born)
free_over ds g c a key born within is = (
  (λ none t le. ap (λ (v : View). finite.get v.items key) (sym (seen ds g c a within is t)) ∙ get_at g t key ∙ none t le),
  (λ free t le. sym (get_at g t key) ∙ ap (λ (v : View). finite.get v.items key) (seen ds g c a within is t) ∙ free t le),
)

-- ---- what is known

pub last_seen : (a : Account) → view_in a (length a.judged) ≡ last_of a
last_seen a = let there : nat_le (length a.judged) (length a.judged) ≡ true = grind (arith, nat_tests) in ap (λ b. cond b (last_of a) a.working) there

pub working_seen : (a : Account) → view_in a (length a.judged + 1) ≡ a.working
working_seen a = let later : nat_le (length a.judged + 1) (length a.judged) ≡ false = grind (arith, nat_tests) in ap (λ b. cond b (unwrap_or (slice_get (views a.judged) (length a.judged + 1)) empty_view) a.working) later

unmarked : (v : View) (key : Key) (m : Mark) → finite.get v.items key ≡ None → marked_at (entries v) m key ≡ false
unmarked v key m none = ap (λ o. option_map_or (has_mark m) o false) (sym (get-entries v.items key) ∙ none)

-- as it stands from its birth on, or after its end
born_view : (born : ℕ) (i : Item) (t : ℕ) (v : View) → born ≤ t → with_life born None i t v ≡ with_item v i
born_view born i t v le = let there : nat_lt t born ≡ false = grind (arith, nat_tests) in ap (λ b. cond b v (with_item v i)) there

ended_view : (born g : ℕ) (i : Item) (t : ℕ) (v : View) → born ≤ t → g ≤ t → with_life born (Some g) i t v ≡ without_key (with_item v i) (key_of i)
ended_view born g i t v le after =
    let there : nat_lt t born ≡ false = grind (arith, nat_tests) in
    let over : nat_le g t ≡ true = grind (arith, nat_tests) in
    ap (λ b. cond b v (cond (nat_le g t) (without_key (with_item v i) (key_of i)) (with_item v i))) there ∙ ap (λ b. cond b (without_key (with_item v i) (key_of i)) (with_item v i)) over

module _ (old new : Properties) (i : Item) (comes : Pair)
    (same : (n : ℕ) (p : Property) → known_in new n ≡ Some p → known_in old n ≡ Some p)
    (blpu : (n : ℕ) (p : Property) → known_in new n ≡ Some p → is_blpu n (key_of i) ≡ false)
    (got : (n : ℕ) (p : Property) → known_in new n ≡ Some p → is_addressed_by comes n ≡ false) where
  had_none : (v : View) → finite.get v.items (key_of i) ≡ None → (m : Mark) → marked_at (entries v) m (key_of i) ≡ true → IsOneOf (None, None) m
  had_none v none m at = let no : false ≡ true = sym (unmarked v (key_of i) m none) ∙ at in cc

  still_known : (born : ℕ) (gone : Option ℕ) (t : ℕ) (v : View) → born ≤ t → IfSome gone (λ g. g ≤ t) → (gone ≡ None → (m : Mark) → has_mark m i ≡ true → IsOneOf comes m) → finite.get v.items (key_of i) ≡ None → AreSo old v → AreSo new (with_life born gone i t v)
  still_known born None t v le over marks none so =
      subst (AreSo new) (sym (born_view born i t v le))
      (still_so v (with_item v i) (key_of i) (others_put v i) old new (None, None) comes (had_none v none) (λ m at. marks refl m (sym (marked_put v i m) ∙ at)) same blpu (λ n p is. refl) got so)
  still_known born (Some g) t v le over marks none so =
      subst (AreSo new) (sym (ended_view born g i t v le over))
      (still_so v (without_key (with_item v i) (key_of i)) (key_of i) (λ k other. others_taken (with_item v i) (key_of i) k other ∙ others_put v i k other) old new (None, None) comes (had_none v none)
      (λ m at. let no : false ≡ true = sym (unmarked_taken (with_item v i) (key_of i) m) ∙ at in cc) same blpu (λ n p is. refl) got so)

  pub known_lived : (a b : Account) (born : ℕ) (gone : Option ℕ) → IsLifeWithin (length a.judged) born gone → IsFreeFrom a born (key_of i) → Restores a b born gone i → (gone ≡ None → (m : Mark) → has_mark m i ≡ true → IsOneOf comes m)
      → AreSo old (last_of a) × AreSo old a.working → AreSo new (last_of b) × AreSo new b.working
  known_lived a b born gone life free now marks so =
      let n = length a.judged in
      let begun = life.begun in
      let later : born ≤ n + 1 = omega arith in
      let last_is : last_of b ≡ with_life born gone i n (last_of a) = sym (last_seen b) ∙ ap (view_in b) now.reached ∙ now.views n ∙ ap (with_life born gone i n) (last_seen a) in
      let working_is : b.working ≡ with_life born gone i (n + 1) a.working = sym (working_seen b) ∙ ap (λ m. view_in b (m + 1)) now.reached ∙ now.views (n + 1) ∙ ap (with_life born gone i (n + 1)) (working_seen a) in
      let none_last = ap (λ (v : View). finite.get v.items (key_of i)) (sym (last_seen a)) ∙ free n begun in
      let none_working = ap (λ (v : View). finite.get v.items (key_of i)) (sym (working_seen a)) ∙ free (n + 1) later in (
        subst (AreSo new) (sym last_is) (still_known born gone n (last_of a) begun (weaker gone (λ e h. h.1) life.ended) marks none_last so.0),
        subst (AreSo new) (sym working_is) (still_known born gone (n + 1) a.working later (weaker gone (λ e h. (let high = h.1 in omega arith)) life.ended) marks none_working so.1),
      )
