-- What became of a number at a volume, put back.
use Rattle.std.specs.Prelude.{◌≡◌, ℕ, nat_lt, if◌then◌else◌, length}
use Rattle.std.specs.FinMap as map
use Rattle.std.specs.FinSet as set
use Rattle.gaz_records.specs.declared.key.Key.TheVariants as key
use Rattle.gaz_views.specs.Accounts.{Account, view_in}
use Rattle.gaz_views.specs.View.{View}
use Rattle.gaz_views.specs.declared.custody.Custody.{Custody}
use Rattle.gaz_ledger.specs.Changing.{verdict_in}

-- this became of the number last, and its BLPU's key counts as used
abbrev pub with_passed : View → ℕ → Custody → View
with_passed v uprn custody = record v {
  used = set.insert v.used (key.Blpu uprn);
  custody = map.insert v.custody uprn custody;
}

-- the view after volume t, where this became of the number at a volume
abbrev pub with_passage : ℕ → ℕ → Custody → ℕ → View → View
with_passage born uprn custody t v = if nat_lt t born then v else with_passed v uprn custody

-- what became of the number is put back into an account
pub record RestoresPassage (old new : Account) (born uprn : ℕ) (custody : Custody) : Type 0 where
  pub reached : length new.judged ≡ length old.judged
  pub verdicts : (volume : ℕ) → verdict_in new volume ≡ verdict_in old volume
  pub views : (t : ℕ) → view_in new t ≡ with_passage born uprn custody t (view_in old t)

-- each view has the items and the used keys that it had
pub record SameItems (old new : Account) : Type 0 where
  pub reached : length new.judged ≡ length old.judged
  pub verdicts : (volume : ℕ) → verdict_in new volume ≡ verdict_in old volume
  pub items : (t : ℕ) → (view_in new t).items ≡ (view_in old t).items
  pub used : (t : ℕ) → (view_in new t).used ≡ (view_in old t).used
