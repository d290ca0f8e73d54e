-- What each change makes of the working view.
use Rattle.std.specs.Prelude.{◌≡◌, ◌||◌, ℕ, true, false, Option, Some, is_some}
use Rattle.std.specs.FinMap as map
use Rattle.gaz_records.specs.Blpus.{BlpuValue}
use Rattle.gaz_records.specs.Items.{is_entry}
use Rattle.gaz_records.specs.Keys.{key_of}
use Rattle.gaz_records.specs.declared.item.Item.{Item}
use Rattle.gaz_records.specs.declared.key.Key.{Key}
use Rattle.gaz_records.specs.declared.key.Key.TheVariants as key
use Rattle.gaz_views.specs.Lawful.{IsLawfulView}
use Rattle.gaz_views.specs.View.{View, custody_at, was_used, with_adoption, with_item, with_release}
use Rattle.gaz_views.specs.View.{without_key}
use Rattle.gaz_overlay.specs.Changes.{Changes, is_passed, is_touched, no_changes, was_used_in}
use Rattle.gaz_overlay.specs.Changes.{with_adopted_blpu, with_put, with_released, with_taken}
use Rattle.gaz_overlay.specs.Changes.{with_touched}
use Rattle.gaz_overlay.specs.Laws.{custody_laid_at}
use Rattle.gaz_overlay.specs.Over.{IsStood, Make, key_view}
use Rattle.gaz_overlay.specs.Writings.{writing_at}
use Rattle.gaz_overlay.specs.declared.touch.NewRow.{NewRow}
use Rattle.gaz_overlay.specs.declared.touch.Stood.{Stood}

-- where a number is passed on first, a volume is given just if something had become of it before
abbrev pub IsSince : View → Changes → ℕ → Option ℕ → Type 0
IsSince v c uprn since =
    is_passed c uprn ≡ false → is_some since ≡ is_some (custody_at v uprn)

-- what changes make of the last view, and what they say of the view that they make
pub record ChangesMake : Type 0 where
  -- no changes make the last view
  pub nothing : (v : View) → Make v no_changes v
  -- to touch a key alters nothing
  pub touched : (v : View) (c : Changes) (w : View) → IsLawfulView v → Make v c w
      → (k : Key) (stood : Stood) → is_touched c k ≡ false → IsStood stood (key_view v k)
      → Make v (with_touched c k stood (map.get v.items k)) w
  -- to put and to take, to release and to adopt do just that
  pub put : (v : View) (c : Changes) (w : View) → Make v c w → (i : Item) → is_entry i ≡ true
      → is_touched c (key_of i) ≡ true → Make v (with_put c i) (with_item w i)
  pub taken : (v : View) (c : Changes) (w : View) → Make v c w → (k : Key) → is_touched c k ≡ true
      → Make v (with_taken c k) (without_key w k)
  pub released : (v : View) (c : Changes) (w : View) → Make v c w → (uprn to hop : ℕ)
      → (since : Option ℕ) → is_touched c (key.Blpu uprn) ≡ true → IsSince v c uprn since
      → Make v (with_released c uprn to hop since) (with_release w uprn to hop)
  pub adopted : (v : View) (c : Changes) (w : View) → Make v c w → (blpu : BlpuValue)
      → (from hop : ℕ) (since : Option ℕ) → is_touched c (key.Blpu blpu.uprn) ≡ true
      → IsSince v c blpu.uprn since
      → Make v (with_adopted_blpu c blpu from hop since) (with_adoption w blpu from hop)
  -- what is put hides the item that stood at its key
  pub put_hides : (v : View) (was i : Item) → key_of was ≡ key_of i
      → with_item (with_item v was) i ≡ with_item v i
  -- and to pass a number on hides its BLPU
  pub release_hides : (v : View) (was : Item) (uprn to hop : ℕ) → key_of was ≡ key.Blpu uprn
      → with_release (with_item v was) uprn to hop ≡ with_release v uprn to hop
  pub adoption_hides : (v : View) (was : Item) (blpu : BlpuValue) (from hop : ℕ)
      → key_of was ≡ key.Blpu blpu.uprn
      → with_adoption (with_item v was) blpu from hop ≡ with_adoption v blpu from hop
  -- of a number that was passed on the changes say what became of it, of others the last view
  pub custody : (v : View) (c : Changes) (w : View) → Make v c w → (uprn : ℕ)
      → custody_at w uprn ≡ custody_laid_at v c.view uprn
  -- which item stands at a touched key the changes alone say
  pub there : (v : View) (c : Changes) (w : View) → Make v c w → (k : Key) → is_touched c k ≡ true
      → map.get w.items k ≡ map.get c.view.items k
  -- a key is used where the changes or the last view say so
  pub used : (v : View) (c : Changes) (w : View) → Make v c w → (k : Key)
      → was_used w k ≡ (was_used_in c k || was_used v k)
  -- at a key that isn't touched it is as in the last view
  pub elsewhere : (v : View) (c : Changes) (w : View) → Make v c w → (k : Key)
      → is_touched c k ≡ false → key_view w k ≡ key_view v k
  -- what is to be written for a key is an entry of that key
  pub own : (v : View) (c : Changes) (w : View) → Make v c w → (k : Key) (r : NewRow)
      → (writing_at c k).adds ≡ Some r → key_of r.item ≡ k
  pub entries : (v : View) (c : Changes) (w : View) → Make v c w → (k : Key) (r : NewRow)
      → (writing_at c k).adds ≡ Some r → is_entry r.item ≡ true
