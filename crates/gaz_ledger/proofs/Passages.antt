-- A ledger into which it is put back what became of a number.
use Rattle.std.proofs.Common.{◌≡◌, ◌≤◌, ◌<◌, ◌+◌, ◌-◌, ◌&&◌, ℕ, Bool, true, false, cond, List, [], ◌∷◌, ◌++◌, length, refl, sym, ap, subst, ◌∙◌, arith, eqb-true}
use Rattle.std.specs.Prelude.{◌==◌, Option, Some, None, Result, Ok, Err, OnOk, OnErr, nat_le, nat_lt}
use Rattle.std.proofs.lemmas.Bool.Decides.{nat_tests}
use Rattle.std.proofs.lemmas.List.{append-nil}
use Rattle.std.proofs.lemmas.List.Elements.{All-filter, All-push, All-weaker, filter-append, filter_agree, filter_passes}
use Rattle.std.specs.FinMap as finite
use Rattle.std.specs.FinMap.{FinMap}
use Rattle.std.specs.FinSet as set
use Rattle.std.specs.List.{All, list_any}
use Rattle.std.specs.Option.{IfSome}
use Rattle.std.specs.Ordering.{eq_by_cmp}
use Rattle.gaz_histories.specs.Histories.{Version, Versions, before, standing_at, with_version}
use Rattle.gaz_records.proofs.KeyOrder.{keys_exact, keys_total}
use Rattle.gaz_records.specs.Keys.{key_cmp}
use Rattle.gaz_records.specs.declared.item.Item.{Item}
use Rattle.gaz_records.specs.declared.item.Item.TheVariants as item
use Rattle.gaz_records.specs.declared.key.Key.{Key}
use Rattle.gaz_records.specs.declared.key.Key.TheVariants as key
use Rattle.gaz_views.proofs.Judgements.{count_judged, verdict_at}
use Rattle.gaz_views.proofs.Pages.{passes}
use Rattle.gaz_views.proofs.SameKeys.{same_key}
use Rattle.gaz_views.specs.Accounts.{Account, last_of, view_in}
use Rattle.gaz_views.specs.CustodyExamples.{alone}
use Rattle.gaz_views.specs.View.{View, with_item, without_key}
use Rattle.gaz_views.specs.Words.{property_of}
use Rattle.gaz_views.specs.declared.custody.Custody.{Custody}
use Rattle.gaz_views.specs.declared.verdict.Verdict.{Verdict}
use Rattle.gaz_standing.proofs.Versions.{item_set, last, settled, until_set}
use Rattle.gaz_standing.specs.Changing.{LivesAt, SetsAt}
use Rattle.gaz_standing.specs.KeyHistories.{ItemVersions, KeyHistories, versions_at, view_at}
use Rattle.gaz_standing.specs.declared.index.Index.{Index}
use Rattle.gaz_ledger.proofs.Becoming.{AreWithin, all_at, inserted_after, past_after}
use Rattle.gaz_ledger.proofs.Judgements.{view_in_at}
use Rattle.gaz_ledger.proofs.Ledgers.{reached_of, seen}
use Rattle.gaz_ledger.proofs.Lives.{finds_lived, last_seen, ledger_lived, lived_view, working_seen}
use Rattle.gaz_ledger.specs.Changing.{verdict_in}
use Rattle.gaz_ledger.specs.Custodies.{Custodies, IsPassing, PassesAt, passed_at, view_with}
use Rattle.gaz_ledger.specs.Ledgers.{IsLedger, account_at}
use Rattle.gaz_ledger.specs.Lives.{IsFreeFrom, IsLifeWithin, with_life}
use Rattle.gaz_ledger.specs.Passages.{RestoresPassage, SameItems, with_passage, with_passed}
use Rattle.gaz_ledger.specs.Properties.{AreSo, known_in}
use Rattle.gaz_ledger.specs.declared.properties.Properties.{Properties}

-- ---- of the number

abbrev Passage : Type 0
Passage = Version Custody

module _ (vs : Versions Custody) (born : ℕ) (x : Custody) where
  abbrev ws : Versions Custody
  ws = with_version vs born (Some x)

  early : All (λ (e : Passage). e.0 ≤ born) ws
  early =
      All-push (λ (e : Passage). e.0 ≤ born) (before vs born) (born, Some x)
      (All-weaker (λ (e : Passage). nat_lt e.0 born ≡ true) (λ (e : Passage). e.0 ≤ born) (λ e h. (let is : nat_lt e.0 born ≡ true = h in grind (arith, nat_tests))) (before vs born) (filter_passes (λ (e : Passage). nat_lt e.0 born) vs))
      (omega arith)

  pub passed_from : (t : ℕ) → born ≤ t → standing_at ws t ≡ Some x
  passed_from t le = ap last (settled ws born t le early ∙ sym (settled ws born born (omega arith) early)) ∙ item_set vs born (Some x)

  all_passed : (P : Passage → Type 0) → All P vs → P (born, Some x) → All P ws
  all_passed P h here = All-push P (before vs born) (born, Some x) (All-filter (λ (e : Passage). nat_lt e.0 born) P vs h) here

pub passing_back : (n : ℕ) (c d : Custodies) (ks : List ℕ) (born uprn : ℕ) (x : Custody) → IsLifeWithin n born None → IsPassing n c ks → PassesAt c d born uprn (Some x) → IsPassing n d ks
passing_back n c d ks born uprn x life was change =
    let first = life.first in
    let begun = life.begun in
    record {
      within = all_at c d uprn (with_version (passed_at c uprn) born (Some x)) change (λ (ws : Versions Custody). All (λ (e : Passage). (0 < e.0) × (e.0 ≤ n + 1)) ws)
          (all_passed (passed_at c uprn) born x (λ (e : Passage). (0 < e.0) × (e.0 ≤ n + 1)) (was.within uprn) (omega arith, omega arith)) was.within;
      touched = λ k none. subst (λ (ws : Versions Custody). All (λ (e : Passage). e.0 ≤ n) ws) (sym (change k)) (by_same k none (uprn == k) refl);
    }
  where
    by_same : (k : ℕ) → list_any (λ m. k == m) ks ≡ false → (b : Bool) → (uprn == k) ≡ b → All (λ (e : Passage). e.0 ≤ n) (cond b (with_version (passed_at c uprn) born (Some x)) (passed_at c k))
    by_same k none true at =
        all_passed (passed_at c uprn) born x (λ (e : Passage). e.0 ≤ n) (subst (λ (q : ℕ). All (λ (e : Passage). e.0 ≤ n) (passed_at c q)) (sym (eqb-true uprn k at)) (was.touched k none)) life.begun
    by_same k none false at = was.touched k none

-- ---- of its BLPU's key

-- nothing from a volume on is a life that ends when it begins
before_twice : (vs : ItemVersions) (born : ℕ) (o : Option Item) → before (with_version vs born o) born ≡ before vs born
before_twice vs born o =
    let late : nat_lt born born ≡ false = grind (arith, nat_tests) in
    filter-append (λ (e : Version Item). nat_lt e.0 born) (before vs born) ((born, o) ∷ [])
    ∙ ap (λ b. before (before vs born) born ++ cond b ((born, o) ∷ []) []) late ∙ append-nil (before (before vs born) born)
    ∙ passes (λ (e : Version Item). nat_lt e.0 born) (λ (e : Version Item). nat_lt e.0 born) vs ∙ filter_agree _ _ (λ (e : Version Item). both e.0) vs
  where
    both : (a : ℕ) → (nat_lt a born && nat_lt a born) ≡ nat_lt a born
    both a = grind (arith, nat_tests)

-- a BLPU of the number
abbrev blpu_of : ℕ → Item
blpu_of uprn = item.Blpu (record alone { uprn = uprn })

pub as_lived : (g h : KeyHistories) (born uprn : ℕ) → SetsAt g h born (key.Blpu uprn) None → LivesAt g h (key.Blpu uprn) born (Some born) (blpu_of uprn)
as_lived g h born uprn change k =
    change k ∙ ap (λ ws. cond (eq_by_cmp key_cmp (key.Blpu uprn) k) (ws ++ (born, None) ∷ []) (versions_at g k)) (sym (before_twice (versions_at g (key.Blpu uprn)) born (Some (blpu_of uprn))))

life_of : (n born : ℕ) → IsLifeWithin n born None → IsLifeWithin n born (Some born)
life_of n born life = record { first = life.first; begun = life.begun; ended = (omega arith, life.begun) }

pub ledger_back : (n : ℕ) (g h : KeyHistories) (x : Index) (ks : List Key) (born uprn : ℕ) → IsLifeWithin n born None → SetsAt g h born (key.Blpu uprn) None → IsLedger n g x ks → IsLedger n h x ks
ledger_back n g h x ks born uprn life change was =
    let lives = as_lived g h born uprn change in
    let whole = life_of n born life in
    ledger_lived n g h x x ks (key.Blpu uprn) born (Some born) (blpu_of uprn) whole was
    (finds_lived x x g h (key.Blpu uprn) n born (Some born) (blpu_of uprn) whole (λ m k under. under) (λ none. cc) lives was.finds) lives

-- what was put and taken at once, where nothing stood
put_and_taken : (v : View) (uprn : ℕ) → finite.get v.items (key.Blpu uprn) ≡ None → without_key (with_item v (blpu_of uprn)) (key.Blpu uprn) ≡ record v { used = set.insert v.used (key.Blpu uprn) }
put_and_taken v uprn none =
    let same = finite.same_map keys_total keys_exact (finite.remove (finite.insert v.items (key.Blpu uprn) (blpu_of uprn)) (key.Blpu uprn)) v.items
    (λ k. finite.get-remove keys_total (finite.insert v.items (key.Blpu uprn) (blpu_of uprn)) (key.Blpu uprn) k
    ∙ ap (cond (eq_by_cmp key_cmp k (key.Blpu uprn)) None) (finite.get-insert keys_total v.items (key.Blpu uprn) (blpu_of uprn) k) ∙ by_key k (eq_by_cmp key_cmp k (key.Blpu uprn)) refl) in
    λ i. record { items = same i; used = set.insert v.used (key.Blpu uprn); custody = v.custody }
  where
    by_key : (k : Key) (b : Bool) → eq_by_cmp key_cmp k (key.Blpu uprn) ≡ b → ◌≡◌ {A = Option Item} (cond b None (cond b (Some (blpu_of uprn)) (finite.get v.items k))) (finite.get v.items k)
    by_key k true at = sym (ap (finite.get v.items) (same_key k (key.Blpu uprn) at) ∙ none)
    by_key k false at = refl

-- ---- the account

module _ (ds : List Verdict) (g h : KeyHistories) (c d : Custodies) (a : Account) (born uprn : ℕ) (x : Custody)
    (within : AreWithin (length ds) g c) (after : AreWithin (length ds) h d) (is : account_at ds g c ≡ a) where
  verdicts_stay : (volume : ℕ) → verdict_in (account_at ds h d) volume ≡ verdict_in a volume
  verdicts_stay volume = ap (λ o. cond (volume == 0) None o) (verdict_at ds (view_with h d) (volume - 1) ∙ sym (verdict_at ds (view_with g c) (volume - 1))) ∙ ap (λ (b : Account). verdict_in b volume) is

  pub account_back : IsLifeWithin (length a.judged) born None → IsFreeFrom a born (key.Blpu uprn) → SetsAt g h born (key.Blpu uprn) None → PassesAt c d born uprn (Some x) → RestoresPassage a (account_at ds h d) born uprn x
  account_back life free change passed = record {
    reached = count_judged ds (view_with h d) ∙ reached_of ds g c a is;
    verdicts = verdicts_stay;
    views = λ t. view_in_at ds h d after t ∙ by_birth t (nat_lt t born) refl ∙ ap (with_passage born uprn x t) (seen ds g c a within is t);
  }
    where
      lives : LivesAt g h (key.Blpu uprn) born (Some born) (blpu_of uprn)
      lives = as_lived g h born uprn change

      items_after : (t : ℕ) → view_at h t ≡ with_life born (Some born) (blpu_of uprn) t (view_at g t)
      items_after t = lived_view g h born (Some born) (blpu_of uprn) lives (omega arith) t

      by_birth : (t : ℕ) (b : Bool) → nat_lt t born ≡ b → view_with h d t ≡ cond b (view_with g c t) (with_passed (view_with g c t) uprn x)
      by_birth t true early =
          let lt : t < born = grind (arith, nat_tests) in
          let items = items_after t ∙ ap (λ b. cond b (view_at g t) (cond (nat_le born t) (without_key (with_item (view_at g t) (blpu_of uprn)) (key.Blpu uprn)) (with_item (view_at g t) (blpu_of uprn)))) early in
          let custody = past_after c d uprn (with_version (passed_at c uprn) born (Some x)) passed t (until_set (passed_at c uprn) born t (Some x) lt) in
          λ i. record (items i) { custody = custody i }
      by_birth t false late =
          let le : born ≤ t = grind (arith, nat_tests) in
          let over : nat_le born t ≡ true = grind (arith, nat_tests) in
          let none = ap (λ (v : View). finite.get v.items (key.Blpu uprn)) (seen ds g c a within is t) ∙ free t le in
          let items = items_after t
          ∙ ap (λ b. cond b (view_at g t) (cond (nat_le born t) (without_key (with_item (view_at g t) (blpu_of uprn)) (key.Blpu uprn)) (with_item (view_at g t) (blpu_of uprn)))) late
          ∙ ap (λ b. cond b (without_key (with_item (view_at g t) (blpu_of uprn)) (key.Blpu uprn)) (with_item (view_at g t) (blpu_of uprn))) over ∙ put_and_taken (view_at g t) uprn none in
          let custody = inserted_after c d uprn (with_version (passed_at c uprn) born (Some x)) passed t x (passed_from (passed_at c uprn) born x t le) in
          λ i. record (items i) { custody = custody i }

  -- where what stands at keys is as it was
  pub account_same : h ≡ g → SameItems a (account_at ds h d)
  account_same same = record {
    reached = count_judged ds (view_with h d) ∙ reached_of ds g c a is;
    verdicts = verdicts_stay;
    items = λ t. ap (λ (w : View). w.items) (view_in_at ds h d after t) ∙ ap (λ (k : KeyHistories). (view_at k t).items) same ∙ ap (λ (w : View). w.items) (seen ds g c a within is t);
    used = λ t. ap (λ (w : View). w.used) (view_in_at ds h d after t) ∙ ap (λ (k : KeyHistories). (view_at k t).used) same ∙ ap (λ (w : View). w.used) (seen ds g c a within is t);
  }

-- ---- what is known

so_still : (ps : Properties) (v w : View) → w.items ≡ v.items → AreSo ps v → AreSo ps w
so_still ps v w same so uprn = subst (λ (m : FinMap key_cmp Item). IfSome (known_in ps uprn) (λ p. property_of (record w { items = m }) uprn ≡ Some p)) (sym same) (so uprn)

pub passage_items : (born uprn : ℕ) (x : Custody) (t : ℕ) (v : View) → (with_passage born uprn x t v).items ≡ v.items
passage_items born uprn x t v = elim (nat_lt t born) as (λ b. (cond b v (with_passed v uprn x)).items ≡ v.items) [ true ↦ refl | false ↦ refl ]

pub known_same : (ps : Properties) (a b : Account) → length b.judged ≡ length a.judged → ((t : ℕ) → (view_in b t).items ≡ (view_in a t).items) → AreSo ps (last_of a) × AreSo ps a.working → AreSo ps (last_of b) × AreSo ps b.working
known_same ps a b reached same so =
    let n = length a.judged in
    let last_is : (last_of b).items ≡ (last_of a).items = ap (λ (v : View). v.items) (sym (last_seen b)) ∙ ap (λ m. (view_in b m).items) reached ∙ same n ∙ ap (λ (v : View). v.items) (last_seen a) in
    let working_is : b.working.items ≡ a.working.items = ap (λ (v : View). v.items) (sym (working_seen b)) ∙ ap (λ m. (view_in b (m + 1)).items) reached ∙ same (n + 1) ∙ ap (λ (v : View). v.items) (working_seen a) in
    (so_still ps (last_of a) (last_of b) last_is so.0, so_still ps a.working b.working working_is so.1)

-- whether or not it was put back
pub known_back : {T E : Type 0} (r : Result T E) (ps : Properties) (a b : Account) (born uprn : ℕ) (x : Custody) → OnOk r (RestoresPassage a b born uprn x) → OnErr r (SameItems a b) → AreSo ps (last_of a) × AreSo ps a.working → AreSo ps (last_of b) × AreSo ps b.working
known_back (Ok u) ps a b born uprn x ok err so = known_same ps a b ok.reached (λ t. ap (λ (v : View). v.items) (ok.views t) ∙ passage_items born uprn x t (view_in a t)) so
known_back (Err e) ps a b born uprn x ok err so = known_same ps a b err.reached err.items so
