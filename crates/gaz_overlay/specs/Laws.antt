-- What laid views keep to.
use Rattle.std.specs.Prelude.{◌≡◌, ◌||◌, ℕ, true, false, if◌then◌else◌, Option, None}
use Rattle.std.specs.FinMap as map
use Rattle.std.specs.Option.{option_or}
use Rattle.gaz_records.specs.Blpus.{BlpuValue}
use Rattle.gaz_records.specs.Items.{is_entry}
use Rattle.gaz_records.specs.declared.item.Item.{Item}
use Rattle.gaz_records.specs.declared.key.Key.{Key}
use Rattle.gaz_views.specs.Lawful.{IsLawfulView}
use Rattle.gaz_views.specs.View.{View, custody_at, empty_view, was_used, with_adoption, with_item}
use Rattle.gaz_views.specs.View.{with_release, without_key}
use Rattle.gaz_views.specs.declared.custody.Custody.{Custody}
use Rattle.gaz_overlay.specs.Laid.{laid, with_copied}

-- what a laid view has at a key
pub record LaidAt (v s : View) (k : Key) : Type 0 where
  pub item : map.get (laid v s).items k
      ≡ (if was_used s k then map.get s.items k else map.get v.items k)
  pub used : was_used (laid v s) k ≡ (was_used v k || was_used s k)

-- what became of a number in it
abbrev pub custody_laid_at : View → View → ℕ → Option Custody
custody_laid_at v s uprn = option_or (custody_at s uprn) (custody_at v uprn)

-- the changes have used a key, or the view has nothing there
abbrev pub CanTake : View → View → Key → Type 0
CanTake v s k = was_used s k ≡ false → map.get v.items k ≡ None

-- the changes, once they have a copy of what the view has at a key
abbrev pub copied_at : View → View → Key → View
copied_at v s k = with_copied s k (map.get v.items k)

-- a change of the laid view is one of the changes; where there are none the view is as it was
pub record LaidViews : Type 0 where
  pub at : (v s : View) → IsLawfulView s → (k : Key) → LaidAt v s k
  pub custody : (v s : View) (uprn : ℕ) → custody_at (laid v s) uprn ≡ custody_laid_at v s uprn
  pub nothing : (v : View) → laid v empty_view ≡ v
  pub lawful : (v s : View) → IsLawfulView v → IsLawfulView s → IsLawfulView (laid v s)
  pub put : (v s : View) → IsLawfulView s → (i : Item) → is_entry i ≡ true
      → with_item (laid v s) i ≡ laid v (with_item s i)
  pub taken : (v s : View) → IsLawfulView s → (k : Key) → CanTake v s k
      → without_key (laid v s) k ≡ laid v (without_key s k)
  -- to copy what the view has at a key alters nothing, and the key can be taken then
  pub copied : (v s : View) → IsLawfulView v → IsLawfulView s → (k : Key)
      → laid v (copied_at v s k) ≡ laid v s
  pub ready : (v s : View) → IsLawfulView v → (k : Key) → CanTake v (copied_at v s k) k
  -- a number is passed on, whatever stands at its BLPU's key
  pub released : (v s : View) → IsLawfulView s → (uprn to hop : ℕ)
      → with_release (laid v s) uprn to hop ≡ laid v (with_release s uprn to hop)
  pub adopted : (v s : View) → IsLawfulView s → (blpu : BlpuValue) (from hop : ℕ)
      → with_adoption (laid v s) blpu from hop ≡ laid v (with_adoption s blpu from hop)
