-- The rows in which tables keep what became of a custodian's numbers, beside the items.
use Rattle.std.specs.Prelude.{◌≡◌, ◌≤◌, ◌+◌, ◌&&◌, ◌||◌, ℕ, Bool, nat_le, nat_lt, List, map, filter}
use Rattle.std.specs.FinMap as finite
use Rattle.std.specs.FinSet as set
use Rattle.std.specs.Ordering.{nat_cmp}
use Rattle.gaz_records.specs.Keys.{key_cmp}
use Rattle.gaz_records.specs.declared.key.Key.{Key}
use Rattle.gaz_records.specs.declared.key.Key.TheVariants as key
use Rattle.gaz_views.specs.View.{View}
use Rattle.gaz_views.specs.declared.custody.Custody.{Custody}
use Rattle.gaz_overlay.specs.Changes.{Changes, is_passed_key}
use Rattle.gaz_overlay.specs.Laid.{laid_custody}

-- this is what last became of a number in the views after volumes t with born <= t < gone
pub record PassageRow : Type 0 where
  pub uprn : ℕ
  pub born : ℕ
  pub gone : ℕ
  pub custody : Custody

abbrev pub lasts_after : ℕ → PassageRow → Bool
lasts_after t p = nat_le p.born t && nat_lt t p.gone

abbrev pub is_passed_by : ℕ → PassageRow → Bool
is_passed_by t p = nat_le p.born t

-- what last became of numbers, after a volume
unfoldable pub custody_after : List PassageRow → ℕ → finite.FinMap nat_cmp Custody
custody_after passages t =
    finite.from_entries (map (λ p. (p.uprn, p.custody)) (filter (lasts_after t) passages))

-- the BLPUs' keys of the numbers that were passed on by then, which count as used
unfoldable pub passed_keys : List PassageRow → ℕ → set.FinSet key_cmp
passed_keys passages t =
    set.from_list (map (λ p. key.Blpu p.uprn) (filter (is_passed_by t) passages))

-- a view of items after a volume, with what became of numbers
abbrev pub with_passages : View → List PassageRow → ℕ → View
with_passages v passages t = record v {
  used = set.union v.used (passed_keys passages t);
  custody = custody_after passages t;
}

-- ---- what is written

abbrev pub has_passed : List PassageRow → ℕ → Key → Bool
has_passed passages t k = set.contains (passed_keys passages t) k

-- with the volume after n numbers became what the changes say, and the keys of their BLPUs are
-- used; after the volumes before it is as it was
pub record PassOn (c : Changes) (n : ℕ) (old new : List PassageRow) : Type 0 where
  pub next : custody_after new (n + 1) ≡ laid_custody (custody_after old n) c.view.custody
  pub used : (k : Key)
      → has_passed new (n + 1) k ≡ (has_passed old n k || is_passed_key c k)
  pub past : (t : ℕ) → t ≤ n → custody_after new t ≡ custody_after old t
  pub past_used : (t : ℕ) → t ≤ n → passed_keys new t ≡ passed_keys old t
