-- The judgements and views of a gazetteer's account.
use Rattle.std.proofs.Common.{◌≡◌, ◌≤◌, ◌<◌, ◌+◌, ℕ, zero, suc, Bool, true, false, cond, List, [], ◌∷◌, ◌++◌, length, refl, sym, ap, ◌∙◌, arith, slice_get, unwrap_or, length-append}
use Rattle.std.proofs.lemmas.Bool.Decides.{nat_tests}
use Rattle.std.specs.Prelude.{nat_le}
use Rattle.std.specs.List.{All}
use Rattle.gaz_records.specs.declared.item.Item.{Item}
use Rattle.gaz_histories.specs.Histories.{Version}
use Rattle.gaz_records.specs.declared.key.Key.{Key}
use Rattle.gaz_views.proofs.Judgements.{append_judged, count_judged, same_judged, view_judged}
use Rattle.gaz_views.specs.Judgements.{judgements, views}
use Rattle.gaz_views.specs.Accounts.{last_of, view_in}
use Rattle.gaz_views.specs.View.{View, empty_view}
use Rattle.gaz_views.specs.declared.verdict.Verdict.{Verdict}
use Rattle.gaz_standing.proofs.KeyHistories.{settled_view}
use Rattle.gaz_standing.specs.KeyHistories.{KeyHistories, versions_at, view_at}
use Rattle.gaz_ledger.proofs.Becoming.{AreWithin, first_with, later_with}
use Rattle.gaz_ledger.specs.Custodies.{Custodies, view_with}
use Rattle.gaz_ledger.specs.Ledgers.{account_at}

abbrev pub IsWithin : ℕ → KeyHistories → Type 0
IsWithin n g = (k : Key) → All (λ (e : Version Item). (0 < e.0) × (e.0 ≤ n + 1)) (versions_at g k)

upper : (n : ℕ) (g : KeyHistories) → IsWithin n g → (k : Key) → All (λ (e : Version Item). e.0 ≤ n + 1) (versions_at g k)
upper n g within k i d less = (within k i d less).1

-- the working view is that of any later volume too
pub later_view : (n : ℕ) (g : KeyHistories) → IsWithin n g → (v w : ℕ) → n < v → n < w → view_at g v ≡ view_at g w
later_view n g within v w after behind = settled_view g (n + 1) v w (omega arith) (omega arith) (upper n g within)

judged_view : (ds : List Verdict) (g : KeyHistories) (c : Custodies) → AreWithin (length ds) g c → (v : ℕ) → v ≤ length ds → unwrap_or (slice_get (views (judgements ds (view_with g c))) v) empty_view ≡ view_with g c v
judged_view ds g c within zero le = sym (first_with (length ds) g c within)
judged_view ds g c within (suc k) le =
    let e : 1 + k ≡ suc k = omega arith in
    ap (λ o. unwrap_or o empty_view) (view_judged ds (view_with g c) k (omega arith)) ∙ ap (view_with g c) e

-- an account's view is that of the gazetteer
pub view_in_at : (ds : List Verdict) (g : KeyHistories) (c : Custodies) → AreWithin (length ds) g c → (v : ℕ) → view_in (account_at ds g c) v ≡ view_with g c v
view_in_at ds g c within v = ap (λ n. cond (nat_le v n) (unwrap_or (slice_get (views (judgements ds (view_with g c))) v) empty_view) (view_with g c (length ds + 1))) (count_judged ds (view_with g c)) ∙ by_test (nat_le v (length ds)) refl
  where
    by_test : (b : Bool) → nat_le v (length ds) ≡ b → cond b (unwrap_or (slice_get (views (judgements ds (view_with g c))) v) empty_view) (view_with g c (length ds + 1)) ≡ view_with g c v
    by_test true is = let le : v ≤ length ds = grind (arith, nat_tests) in judged_view ds g c within v le
    by_test false is = let lt : length ds < v = grind (arith, nat_tests) in later_with (length ds) g c within (length ds + 1) v (omega arith) lt

pub last_at : (ds : List Verdict) (g : KeyHistories) (c : Custodies) → AreWithin (length ds) g c → last_of (account_at ds g c) ≡ view_with g c (length ds)
last_at ds g c within = ap (λ n. unwrap_or (slice_get (views (judgements ds (view_with g c))) n) empty_view) (count_judged ds (view_with g c)) ∙ judged_view ds g c within (length ds) (omega arith)

-- ---- the account after a change

-- the working view alone
pub working_now : (ds : List Verdict) (g h : KeyHistories) (c d : Custodies) (w : View) → ((v : ℕ) → v ≤ length ds → view_with h d v ≡ view_with g c v) → view_with h d (length ds + 1) ≡ w
    → account_at ds h d ≡ record { judged = (account_at ds g c).judged; working = w }
working_now ds g h c d w alike now = λ i. record { judged = same_judged ds (view_with g c) (view_with h d) alike i; working = now i }

-- one more judgement
pub judged_now : (ds es : List Verdict) (d : Verdict) (g : KeyHistories) (c : Custodies) → AreWithin (length ds) g c → es ≡ ds ++ d ∷ []
    → account_at es g c ≡ record { judged = (account_at ds g c).judged ++ record { verdict = d; view = (account_at ds g c).working } ∷ []; working = (account_at ds g c).working }
judged_now ds es d g c within is =
    let long : length es ≡ length ds + 1 = omega (arith, ap length is, length-append ds (d ∷ [])) in
    let swap : 1 + length ds ≡ length ds + 1 = omega arith in
    let judged : judgements es (view_with g c) ≡ judgements ds (view_with g c) ++ record { verdict = d; view = view_with g c (length ds + 1) } ∷ [] =
    ap (λ (l : List Verdict). judgements l (view_with g c)) is ∙ append_judged ds d (view_with g c) ∙ ap (λ (m : ℕ). judgements ds (view_with g c) ++ record { verdict = d; view = view_with g c m } ∷ []) swap in
    let working = later_with (length ds) g c within (length es + 1) (length ds + 1) (omega arith) (omega arith) in
    λ i. record { judged = judged i; working = working i }
