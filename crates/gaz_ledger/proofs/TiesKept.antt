-- What goes on being found under BLPUs in a ledger.
use Rattle.std.proofs.Common.{◌≡◌, ◌≤◌, ◌<◌, ◌+◌, ℕ, List, [], refl, sym, ap, subst, ◌∙◌, arith, inl, inr}
use Rattle.std.proofs.lemmas.Bool.{cases_lt}
use Rattle.std.specs.FinMap as finite
use Rattle.std.specs.Option.{option_and_then}
use Rattle.gaz_histories.specs.Histories.{standing_at}
use Rattle.gaz_records.specs.declared.key.Key.{Key}
use Rattle.gaz_views.specs.View.{View}
use Rattle.gaz_views.specs.Words.{blpu_named}
use Rattle.gaz_standing.proofs.KeyHistories.{get_at, settled_view}
use Rattle.gaz_standing.proofs.TieFacts.{finds_same}
use Rattle.gaz_standing.specs.KeyHistories.{KeyHistories, versions_at, view_at}
use Rattle.gaz_standing.specs.Ties.{AreTies, FindsTies}
use Rattle.gaz_standing.specs.declared.index.Index.{Index}
use Rattle.gaz_standing.specs.declared.ties.Ties.{Ties}
use Rattle.gaz_ledger.proofs.Judgements.{IsWithin, later_view}
use Rattle.gaz_ledger.specs.Ledgers.{IsLedger}

-- ---- once a volume is judged or undone

-- the working view is the last one again
pub ties_undone : (t : Ties) (g h : KeyHistories) (y : Index) (ls : List Key) (m : ℕ) → IsLedger m h y ls → ls ≡ [] → ((v : ℕ) → v ≤ m → view_at h v ≡ view_at g v) → AreTies t g m (m + 1) → AreTies t h m (m + 1)
ties_undone t g h y ls m ledger none past ties =
    let empty = subst (λ (l : List Key). IsLedger m h y l) none ledger in
    let again : view_at h (m + 1) ≡ view_at h m = settled_view h m (m + 1) m (omega arith) (omega arith) (λ k. empty.touched k refl) in
    (finds_same t g h m m (past m (omega arith)) ties.0, finds_same t g h m (m + 1) (again ∙ past m (omega arith)) ties.0)

-- the working view is the last one, and that of the next volume
pub ties_judged : (t : Ties) (g : KeyHistories) (m n : ℕ) → n ≡ m + 1 → IsWithin m g → AreTies t g m (m + 1) → AreTies t g n (n + 1)
ties_judged t g m n next within ties = subst (λ (p : ℕ). AreTies t g p (p + 1)) (sym next) (ties.1, finds_same t g g (m + 1) (m + 1 + 1) (later_view m g within (m + 1 + 1) (m + 1) (omega arith) (omega arith)) ties.1)

-- ---- once what stands at a key has changed

-- a change of what stands at a key
pub ties_changed : (n m : ℕ) (t s : Ties) (g h : KeyHistories) → m ≡ n → (AreTies t g m (m + 1) → AreTies s h m (m + 1)) → AreTies t g n (n + 1) → AreTies s h n (n + 1)
ties_changed n m t s g h reach goes = subst (λ (k : ℕ). AreTies t g k (k + 1) → AreTies s h k (k + 1)) reach goes

-- those of the last view and of any later one
pub ties_from : (n : ℕ) (g : KeyHistories) (t : Ties) → IsWithin n g → AreTies t g n (n + 1) → (v : ℕ) → n ≤ v → FindsTies t g v
ties_from n g t within ties v le = elim (cases_lt n v) [
  | inl h ↦ λ q k is. ties.1 q k (ap (option_and_then blpu_named) (later k h) ∙ is)
  | inr h ↦ let same : n ≡ v = omega arith in subst (λ (m : ℕ). FindsTies t g m) same ties.0
]
  where
    later : (k : Key) → n < v → standing_at (versions_at g k) (n + 1) ≡ standing_at (versions_at g k) v
    later k after = sym (get_at g (n + 1) k) ∙ ap (λ (w : View). finite.get w.items k) (later_view n g within (n + 1) v (omega arith) after) ∙ get_at g v k
