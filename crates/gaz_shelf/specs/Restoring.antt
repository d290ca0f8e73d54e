-- What putting back an item's life, or what became of a number, makes of a board.
use Rattle.std.specs.Prelude.{◌≡◌, ◌≢◌, ◌≤◌, ℕ, Option, None}
use Rattle.std.specs.FinMap as map
use Rattle.gaz_records.specs.Keys.{key_of}
use Rattle.gaz_records.specs.declared.item.Item.{Item}
use Rattle.gaz_keeper.specs.Board.{Board, reached, verdict_on, view_after}
use Rattle.gaz_records.specs.declared.key.Key.TheVariants as key
use Rattle.gaz_views.specs.declared.custody.Custody.{Custody}
use Rattle.gaz_ledger.specs.Lives.{IsLifeWithin, with_life}
use Rattle.gaz_ledger.specs.Passages.{with_passage}

-- the item's life is put back into the views of a custodian, under a key at which nothing stood
-- from then on
pub record IsRestored (old new : Board) (c born : ℕ) (gone : Option ℕ) (i : Item) : Type 0 where
  pub within : IsLifeWithin (reached old c) born gone
  pub free : (t : ℕ) → born ≤ t → t ≤ reached old c
      → map.get (view_after old c t).items (key_of i) ≡ None
  pub views : (t : ℕ) → t ≤ reached old c
      → view_after new c t ≡ with_life born gone i t (view_after old c t)
  pub verdicts : (d volume : ℕ) → verdict_on new d volume ≡ verdict_on old d volume
  pub others : (d : ℕ) → d ≢ c → new d ≡ old d
  pub reached : (d : ℕ) → reached new d ≡ reached old d

-- what became of a number at a volume is put back into the views of a custodian, where nothing
-- stood at its BLPU's key from then on
pub record IsPassageRestored (old new : Board) (c born uprn : ℕ) (custody : Custody) : Type 0 where
  pub within : IsLifeWithin (reached old c) born None
  pub free : (t : ℕ) → born ≤ t → t ≤ reached old c
      → map.get (view_after old c t).items (key.Blpu uprn) ≡ None
  pub views : (t : ℕ) → t ≤ reached old c
      → view_after new c t ≡ with_passage born uprn custody t (view_after old c t)
  pub verdicts : (d volume : ℕ) → verdict_on new d volume ≡ verdict_on old d volume
  pub others : (d : ℕ) → d ≢ c → new d ≡ old d
  pub reached : (d : ℕ) → reached new d ≡ reached old d
