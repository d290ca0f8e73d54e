-- A ledger and its account after each of its calls.
use Rattle.std.proofs.Common.{◌≡◌, ◌≤◌, ◌+◌, ℕ, true, false, List, [], ◌∷◌, ◌++◌, length, refl, sym, ap, subst, ◌∙◌, arith, is_some, length-append, Bor}
use Rattle.std.specs.Prelude.{Option, Some, None, option_map}
use Rattle.std.specs.Option.{option_map_or}
use Rattle.gaz_histories.specs.Histories.{before, standing_at}
use Rattle.gaz_records.specs.Keys.{key_of}
use Rattle.gaz_records.specs.declared.item.Item.{Item}
use Rattle.gaz_records.specs.declared.key.Key.{Key}
use Rattle.gaz_views.specs.Accounts.{Account, last_of}
use Rattle.gaz_views.specs.View.{View, with_item, without_key}
use Rattle.gaz_views.specs.Words.{entries}
use Rattle.gaz_views.specs.declared.verdict.Verdict.{Verdict}
use Rattle.gaz_standing.proofs.KeyHistories.{none_taken, past_view, put_view, row_at, settled_view, taken_view}
use Rattle.gaz_standing.proofs.Versions.{item_set, until_set, used_set}
use Rattle.gaz_standing.specs.KeyHistories.{ChangesAt, KeyHistories, versions_at, view_at}
use Rattle.gaz_standing.specs.Indexes.{has_mark, marked_at}
use Rattle.gaz_standing.specs.declared.index.Index.{Index}
use Rattle.gaz_standing.specs.declared.index.Mark.{Mark}
use Rattle.gaz_ledger.proofs.Becoming.{AreWithin, same_with, settled_after}
use Rattle.gaz_ledger.proofs.Judgements.{judged_now, last_at, working_now}
use Rattle.gaz_ledger.proofs.Ledgers.{finds_next, ledger_closed, ledger_set}
use Rattle.gaz_ledger.specs.Custodies.{Custodies, IsPassing, custody_after, view_with}
use Rattle.gaz_ledger.specs.Ledgers.{Finds, IsLedger, account_at}

-- an item stands at a key from a volume on, or none any more
abbrev pub Sets : KeyHistories → KeyHistories → Key → Option Item → ℕ → Type 0
Sets g h key o n = ChangesAt g h key (before (versions_at g key) (n + 1) ++ (n + 1, o) ∷ [])

module _ (ds : List Verdict) (g h : KeyHistories) (c : Custodies) (key : Key) (o : Option Item) (m : ℕ) (reach : m ≡ length ds) (change : Sets g h key o m) where
  changed : Sets g h key o (length ds)
  changed = subst (Sets g h key o) reach change

  pub ledger_changed : (x y : Index) (ks ls : List Key) → IsLedger (length ds) g x ks → (Finds x g m → Finds y h m) → ls ≡ ks ++ key ∷ [] → IsLedger (length ds) h y ls
  ledger_changed x y ks ls was finds is = ledger_set (length ds) g h x y ks ls key o was (subst (λ n. Finds x g n → Finds y h n) reach finds was.finds) is changed

  pub past : (v : ℕ) → v ≤ length ds → view_at h v ≡ view_at g v
  past v le = past_view g h key _ changed v (until_set (versions_at g key) (length ds + 1) v o (omega arith))

  account_changed : (w : View) → view_with h c (length ds + 1) ≡ w → account_at ds h c ≡ record { judged = (account_at ds g c).judged; working = w }
  account_changed w now = working_now ds g h c c w (λ v le. same_with h g c c v v (past v le) refl) now

pub account_put : (ds : List Verdict) (g h : KeyHistories) (c : Custodies) (a : Account) (key : Key) (i : Item) (m : ℕ) → m ≡ length ds → account_at ds g c ≡ a → key ≡ key_of i → Sets g h key (Some i) m
    → account_at ds h c ≡ record { judged = a.judged; working = with_item a.working i }
account_put ds g h c a key i m reach is named change =
    let now = put_view g h key _ (changed ds g h c key (Some i) m reach change) (length ds + 1) i named (item_set (versions_at g key) (length ds + 1) (Some i)) (used_set (versions_at g key) (length ds + 1) (Some i)) in
    account_changed ds g h c key (Some i) m reach change (with_item (view_with g c (length ds + 1)) i) (ap (λ (w : View). record w { custody = custody_after c (length ds + 1) }) now)
    ∙ ap (λ (b : Account). record { judged = b.judged; working = with_item b.working i }) is

found : (o : Option Item) → is_some o ≡ true → (i : Item) × (o ≡ Some i)
found None e = cc
found (Some i) e = (i, refl)

missing : (o : Option Item) → is_some o ≡ false → o ≡ None
missing None e = refl
missing (Some i) e = cc

behind : (o : Option (Bor Item)) (p : Option Item) → option_map (λ i. i.now) o ≡ p → is_some p ≡ is_some o
behind None p e = ap is_some (sym e)
behind (Some i) p e = ap is_some (sym e)

pub account_taken : (ds : List Verdict) (g h : KeyHistories) (c : Custodies) (a : Account) (key : Key) (r : Option (Bor Item)) (m : ℕ) → m ≡ length ds → account_at ds g c ≡ a → option_map (λ i. i.now) r ≡ standing_at (versions_at g key) (m + 1) → is_some r ≡ true
    → Sets g h key None m → account_at ds h c ≡ record { judged = a.judged; working = without_key a.working key }
account_taken ds g h c a key r m reach is read some change =
    let here = found (standing_at (versions_at g key) (m + 1)) (behind r _ read ∙ some) in
    let there : standing_at (versions_at g key) (length ds + 1) ≡ Some here.0 = ap (λ n. standing_at (versions_at g key) (n + 1)) (sym reach) ∙ here.1 in
    let now = taken_view g h key _ (changed ds g h c key None m reach change) (length ds + 1) here.0 (item_set (versions_at g key) (length ds + 1) None) (used_set (versions_at g key) (length ds + 1) None) there in
    account_changed ds g h c key None m reach change (without_key (view_with g c (length ds + 1)) key) (ap (λ (w : View). record w { custody = custody_after c (length ds + 1) }) now)
    ∙ ap (λ (b : Account). record { judged = b.judged; working = without_key b.working key }) is

pub account_untaken : (ds : List Verdict) (g : KeyHistories) (c : Custodies) (a : Account) (key : Key) (r : Option (Bor Item)) (m : ℕ) → m ≡ length ds → account_at ds g c ≡ a → option_map (λ i. i.now) r ≡ standing_at (versions_at g key) (m + 1) → is_some r ≡ false
    → a ≡ record { judged = a.judged; working = without_key a.working key }
account_untaken ds g c a key r m reach is read none =
    let gone : standing_at (versions_at g key) (length ds + 1) ≡ None = ap (λ n. standing_at (versions_at g key) (n + 1)) (sym reach) ∙ missing (standing_at (versions_at g key) (m + 1)) (behind r _ read ∙ none) in
    let same : view_with g c (length ds + 1) ≡ without_key (view_with g c (length ds + 1)) key = ap (λ (w : View). record w { custody = custody_after c (length ds + 1) }) (none_taken g (length ds + 1) key gone) in
    sym is ∙ (λ i. record { judged = (account_at ds g c).judged; working = same i }) ∙ ap (λ (b : Account). record { judged = b.judged; working = without_key b.working key }) is

-- a key without an item has no mark
pub account_unmarked : (ds : List Verdict) (g : KeyHistories) (c : Custodies) (a : Account) (key : Key) (r : Option (Bor Item)) (m : ℕ) → m ≡ length ds → account_at ds g c ≡ a → option_map (λ i. i.now) r ≡ standing_at (versions_at g key) (m + 1) → is_some r ≡ false
    → (mark : Mark) → marked_at (entries a.working) mark key ≡ false
account_unmarked ds g c a key r m reach is read none mark =
    let gone : standing_at (versions_at g key) (length ds + 1) ≡ None = ap (λ n. standing_at (versions_at g key) (n + 1)) (sym reach) ∙ missing (standing_at (versions_at g key) (m + 1)) (behind r _ read ∙ none) in
    ap (λ (b : Account). marked_at (entries b.working) mark key) (sym is) ∙ ap (λ o. option_map_or (has_mark mark) o false) (sym (row_at g (length ds + 1) key) ∙ gone)

pub account_undone : (ds : List Verdict) (g h : KeyHistories) (c d : Custodies) (y : Index) (ls : List Key) (ps : List ℕ) (a : Account) (m : ℕ) → m ≡ length ds → account_at ds g c ≡ a → AreWithin (length ds) g c → IsLedger m h y ls → ls ≡ [] → IsPassing m d ps → ps ≡ []
    → ((v : ℕ) → v ≤ m → view_at h v ≡ view_at g v) → ((v : ℕ) → v ≤ m → custody_after d v ≡ custody_after c v)
    → account_at ds h d ≡ record { judged = a.judged; working = last_of a }
account_undone ds g h c d y ls ps a m reach is within ledger none passing unpassed past behind =
    let still = subst (λ (n : ℕ). IsLedger n h y ls) reach ledger in
    let empty = subst (λ (l : List Key). IsLedger (length ds) h y l) none still in
    let passed = subst (λ (n : ℕ). IsPassing n d ps) reach passing in
    let rest = subst (λ (l : List ℕ). IsPassing (length ds) d l) unpassed passed in
    let items = settled_view h (length ds) (length ds + 1) (length ds) (omega arith) (omega arith) (λ k. empty.touched k refl) in
    let custody = settled_after d (length ds) (length ds + 1) (length ds) (omega arith) (omega arith) (λ k. rest.touched k refl) in
    let before : (v : ℕ) → v ≤ length ds → view_with h d v ≡ view_with g c v = λ v le. same_with h g d c v v (past v (omega arith)) (behind v (omega arith)) in
    working_now ds g h c d (last_of (account_at ds g c)) before (same_with h h d d (length ds + 1) (length ds) items custody ∙ before (length ds) (omega arith) ∙ sym (last_at ds g c within))
    ∙ ap (λ (b : Account). record { judged = b.judged; working = last_of b }) is

pub ledger_judged : (ds es : List Verdict) (d : Verdict) (g : KeyHistories) (x y : Index) (ks ls : List Key) (m : ℕ) → m ≡ length es → es ≡ ds ++ d ∷ [] → IsLedger (length ds) g x ks → (Finds x g m → Finds y g m) → ls ≡ [] → IsLedger (length es) g y ls
ledger_judged ds es d g x y ks ls m reach is was finds none =
    let long : length es ≡ length ds + 1 = omega (arith, ap length is, length-append ds (d ∷ [])) in
    let found = subst (λ (n : ℕ). Finds x g n → Finds y g n) (reach ∙ long) finds (finds_next x g (length ds) was.within was.finds) in
    subst (λ (n : ℕ). IsLedger n g y ls) (sym long) (ledger_closed (length ds) g x y ks ls was found none)

pub account_judged : (ds es : List Verdict) (d : Verdict) (g : KeyHistories) (c : Custodies) (a : Account) → AreWithin (length ds) g c → es ≡ ds ++ d ∷ [] → account_at ds g c ≡ a
    → account_at es g c ≡ record { judged = a.judged ++ record { verdict = d; view = a.working } ∷ []; working = a.working }
account_judged ds es d g c a within is same = judged_now ds es d g c within is ∙ ap (λ (b : Account). record { judged = b.judged ++ record { verdict = d; view = b.working } ∷ []; working = b.working }) same
