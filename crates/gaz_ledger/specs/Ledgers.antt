-- What a ledger keeps of a custodian.
use Rattle.std.specs.Prelude.{◌≡◌, ◌≤◌, ◌<◌, ◌+◌, ℕ, false, List, length}
use Rattle.std.specs.List.{All, list_any}
use Rattle.std.specs.Ordering.{eq_by_cmp}
use Rattle.gaz_records.specs.Keys.{key_cmp}
use Rattle.gaz_records.specs.declared.key.Key.{Key}
use Rattle.gaz_views.specs.Accounts.{Account}
use Rattle.gaz_views.specs.Judgements.{judgements}
use Rattle.gaz_views.specs.Words.{entries}
use Rattle.gaz_views.specs.declared.verdict.Verdict.{Verdict}
use Rattle.gaz_standing.specs.KeyHistories.{KeyHistories, versions_at, view_at}
use Rattle.gaz_standing.specs.Indexes.{FindsAll}
use Rattle.gaz_standing.specs.declared.index.Index.{Index}
use Rattle.gaz_ledger.specs.Custodies.{Custodies, view_with}

-- the account of a gazetteer whose volumes have these verdicts
abbrev pub account_at : List Verdict → KeyHistories → Custodies → Account
account_at verdicts g c = record {
  judged = judgements verdicts (view_with g c);
  working = view_with g c (length verdicts + 1);
}

-- ---- what holds of a ledger that has reached a volume

-- the items of the last view and of the working one are found under their marks
pub record Finds (x : Index) (g : KeyHistories) (reached : ℕ) : Type 0 where
  pub last : FindsAll x (entries (view_at g reached))
  pub working : FindsAll x (entries (view_at g (reached + 1)))

pub record IsLedger (reached : ℕ) (g : KeyHistories) (x : Index) (changed : List Key) : Type 0 where
  pub finds : Finds x g reached
  -- each version began at a volume that is judged or is being judged
  pub within : (k : Key) → All (λ v. (0 < v.0) × (v.0 ≤ reached + 1)) (versions_at g k)
  -- and at the latter only where the key was changed
  pub touched : (k : Key) → list_any (eq_by_cmp key_cmp k) changed ≡ false
      → All (λ v. v.0 ≤ reached) (versions_at g k)
