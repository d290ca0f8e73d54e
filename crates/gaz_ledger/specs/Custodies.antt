-- What became of a gazetteer's numbers through its volumes.
use Rattle.std.specs.Prelude.{◌≡◌, ◌≤◌, ◌<◌, ◌+◌, ◌==◌, ℕ, false, if◌then◌else◌, List, []}
use Rattle.std.specs.Prelude.{Option, Some, None, unwrap_or}
use Rattle.std.specs.FinMap as finite
use Rattle.std.specs.FinSet as set
use Rattle.std.specs.List.{All, list_any}
use Rattle.std.specs.Ordering.{nat_cmp}
use Rattle.gaz_histories.specs.Histories.{Versions, before, with_version}
use Rattle.gaz_records.specs.declared.item.Item.{Item}
use Rattle.gaz_records.specs.declared.key.Key.TheVariants as key
use Rattle.gaz_views.specs.View.{View}
use Rattle.gaz_views.specs.declared.custody.Custody.{Custody}
use Rattle.gaz_standing.specs.KeyHistories.{KeyHistories, rows_at, view_at}

-- what became of each number that was ever passed on
abbrev pub Custodies : Type 0
Custodies = finite.FinMap nat_cmp (Versions Custody)

-- what became of a number; nothing where it was never passed on
abbrev pub passed_at : Custodies → ℕ → Versions Custody
passed_at c uprn = unwrap_or (finite.get c uprn) []

-- this became of a number now, and of all others what did before
abbrev pub BecomesAt : Custodies → Custodies → ℕ → Versions Custody → Type 0
BecomesAt old new uprn vs = (n : ℕ) → passed_at new n ≡ (if uprn == n then vs else passed_at old n)

-- from a volume on this is what last became of the number, or nothing
abbrev pub PassesAt : Custodies → Custodies → ℕ → ℕ → Option Custody → Type 0
PassesAt old new volume uprn custody =
    BecomesAt old new uprn (with_version (passed_at old uprn) volume custody)

-- what became of the number at a volume or after it is forgotten
abbrev pub ForgetsAt : Custodies → Custodies → ℕ → ℕ → Type 0
ForgetsAt old new volume uprn = BecomesAt old new uprn (before (passed_at old uprn) volume)

-- ---- the view after a volume

-- what last became of each number
unfoldable pub custody_after : Custodies → ℕ → finite.FinMap nat_cmp Custody
custody_after c volume = finite.from_entries (rows_at (finite.entries c) volume)

-- what stands at keys, and what last became of numbers
abbrev pub view_with : KeyHistories → Custodies → ℕ → View
view_with g c volume = record (view_at g volume) { custody = custody_after c volume }

-- ---- what holds of the numbers of a ledger that has reached a volume

pub record IsPassing (reached : ℕ) (c : Custodies) (passed : List ℕ) : Type 0 where
  -- whatever became of a number began at a volume that is judged or is being judged
  pub within : (n : ℕ) → All (λ v. (0 < v.0) × (v.0 ≤ reached + 1)) (passed_at c n)
  -- and at the latter only where the number was passed on
  pub touched : (n : ℕ) → list_any (λ m. n == m) passed ≡ false
      → All (λ v. v.0 ≤ reached) (passed_at c n)

-- ---- a number that is passed on

-- this became of the number, and this stands at its BLPU's key, which is marked as used, or nothing
abbrev pub with_passing : View → ℕ → Custody → Option Item → View
with_passing v uprn custody None = record {
  items = finite.remove v.items (key.Blpu uprn);
  used = set.insert v.used (key.Blpu uprn);
  custody = finite.insert v.custody uprn custody;
}
with_passing v uprn custody (Some i) = record {
  items = finite.insert v.items (key.Blpu uprn) i;
  used = set.insert v.used (key.Blpu uprn);
  custody = finite.insert v.custody uprn custody;
}
