-- An item's life: from which volume on it stands under its key, and until which.
use Rattle.std.specs.Prelude.{◌≡◌, ◌≤◌, ℕ, nat_le, nat_lt, Bool, false, if◌then◌else◌, length}
use Rattle.std.specs.Prelude.{Option, None}
use Rattle.std.specs.FinMap as map
use Rattle.std.specs.Option.{IfSome, option_map_or}
use Rattle.gaz_records.specs.Keys.{key_of}
use Rattle.gaz_records.specs.declared.item.Item.{Item}
use Rattle.gaz_records.specs.declared.key.Key.{Key}
use Rattle.gaz_views.specs.Accounts.{Account, view_in}
use Rattle.gaz_views.specs.View.{View, with_item, without_key}
use Rattle.gaz_ledger.specs.Changing.{verdict_in}

-- what goes with a volume, if it goes, is gone by another
abbrev pub is_gone_by : Option ℕ → ℕ → Bool
is_gone_by gone t = option_map_or (λ g. nat_le g t) gone false

-- the view after volume t, where an item came to stand under its key from a volume on, and until
-- another where one is given
abbrev pub with_life : ℕ → Option ℕ → Item → ℕ → View → View
with_life born gone i t v =
    if nat_lt t born then v
    else (if is_gone_by gone t then without_key (with_item v i) (key_of i) else with_item v i)

-- a life begins at one of the volumes that are reached, and ends, where it does, at that one or at
-- a later one that is reached too
pub record IsLifeWithin (reached born : ℕ) (gone : Option ℕ) : Type 0 where
  pub first : 1 ≤ born
  pub begun : born ≤ reached
  pub ended : IfSome gone (λ g. (born ≤ g) × (g ≤ reached))

-- nothing stands under the key after a volume, nor after any later one
abbrev pub IsFreeFrom : Account → ℕ → Key → Type 0
IsFreeFrom a born key = (t : ℕ) → born ≤ t → map.get (view_in a t).items key ≡ None

-- the item's life is put back into an account, the working view of which is that of each volume
-- that isn't judged
pub record Restores (old new : Account) (born : ℕ) (gone : Option ℕ) (i : Item) : Type 0 where
  pub reached : length new.judged ≡ length old.judged
  pub verdicts : (volume : ℕ) → verdict_in new volume ≡ verdict_in old volume
  pub views : (t : ℕ) → view_in new t ≡ with_life born gone i t (view_in old t)
