-- Changes that lie over a last view and make a working one of it.
use Rattle.std.specs.Prelude.{◌≡◌, ◌||◌, true, ℕ, Bool, Option, Some, None, is_some}
use Rattle.std.specs.FinMap as map
use Rattle.gaz_records.specs.Items.{is_entry}
use Rattle.gaz_records.specs.Keys.{key_of}
use Rattle.gaz_records.specs.declared.item.Item.{Item}
use Rattle.gaz_records.specs.declared.key.Key.{Key}
use Rattle.gaz_records.specs.declared.key.Key.TheVariants as key
use Rattle.gaz_views.specs.Lawful.{IsLawfulView}
use Rattle.gaz_views.specs.View.{View, custody_at, was_used}
use Rattle.gaz_overlay.specs.Changes.{Changes, is_passed, is_passed_key, is_touched}
use Rattle.gaz_overlay.specs.Laid.{laid}
use Rattle.gaz_overlay.specs.declared.touch.Stood.{Stood}
use Rattle.gaz_overlay.specs.declared.touch.Stood.TheVariants.{NoRow, Past, Since}
use Rattle.gaz_overlay.specs.declared.touch.Touch.{Touch}

-- what a view has at a key
pub record KeyView : Type 0 where
  pub item : Option Item
  pub used : Bool

abbrev pub key_view : View → Key → KeyView
key_view v k = record { item = map.get v.items k; used = was_used v k }

-- this stood at a key of the last view; where there was no row, it isn't said whether the key was
-- used, since a number that was passed on uses its key too
abbrev pub IsStood : Stood → KeyView → Type 0
IsStood NoRow before = before.item ≡ None
IsStood Past before = (before.item ≡ None) × (before.used ≡ true)
IsStood (Since volume) before = (is_some before.item ≡ true) × (before.used ≡ true)

-- this entry was put last at a key, so that no other stands there; where none was put, only what
-- stood there before may stand, and the key is used where it was before, or was `passed` on
abbrev pub IsLast : Option Item → Key → Bool → KeyView → KeyView → Type 0
IsLast None k passed before now =
    (now.used ≡ true → (before.used || passed) ≡ true)
    × (is_some now.item ≡ true → now.item ≡ before.item)
IsLast (Some i) k passed before now =
    (now.used ≡ true) × (is_some now.item ≡ true → now.item ≡ Some i) × (key_of i ≡ k)
    × (is_entry i ≡ true)

-- what is kept of a touched key is so, and an item that stood there before is copied
pub record IsTouch (k : Key) (t : Touch) (passed : Bool) (before now : KeyView) : Type 0 where
  pub stood : IsStood t.stood before
  pub copied : (volume : ℕ) → t.stood ≡ Since volume → now.used ≡ true
  pub last : IsLast t.last k passed before now

-- of just the numbers that were passed on it is known what became of them, and of each whether it
-- had been passed on before; the keys of their BLPUs are used
pub record ArePassed (v : View) (c : Changes) : Type 0 where
  pub told : (uprn : ℕ) → is_some (custody_at c.view uprn) ≡ is_passed c uprn
  pub since : (uprn : ℕ) (born : Option ℕ) → map.get c.passed uprn ≡ Some born
      → is_some born ≡ is_some (custody_at v uprn)
  pub used : (uprn : ℕ) → is_passed c uprn ≡ true → was_used c.view (key.Blpu uprn) ≡ true

-- the changes were made on a view, touched keys alone
pub record LieOver (v : View) (c : Changes) : Type 0 where
  pub lawful : IsLawfulView c.view
  pub touched : (k : Key) → was_used c.view k ≡ true → is_touched c k ≡ true
  pub each : (k : Key) (t : Touch) → map.get c.touched k ≡ Some t
      → IsTouch k t (is_passed_key c k) (key_view v k) (key_view c.view k)
  pub passed : ArePassed v c

-- they make this working view of it
pub record Make (v : View) (c : Changes) (working : View) : Type 0 where
  pub over : LieOver v c
  pub is_laid : working ≡ laid v c.view
