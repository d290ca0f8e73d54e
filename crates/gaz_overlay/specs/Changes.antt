-- The changes that a judgement has made so far.
use Rattle.std.specs.Prelude.{◌||◌, ℕ, true, false, Bool, Option, Some, None, if◌then◌else◌}
use Rattle.std.specs.FinMap as map
use Rattle.std.specs.Option.{option_flatten, option_map_or}
use Rattle.std.specs.Ordering.{nat_cmp}
use Rattle.gaz_records.specs.Blpus.{BlpuValue}
use Rattle.gaz_records.specs.Keys.{key_cmp, key_of}
use Rattle.gaz_records.specs.declared.item.Item.{Item}
use Rattle.gaz_records.specs.declared.item.Item.TheVariants as item
use Rattle.gaz_records.specs.declared.key.Key.{Key}
use Rattle.gaz_records.specs.declared.key.Key.TheVariants as key
use Rattle.gaz_views.specs.Numbered.{as_blpu}
use Rattle.gaz_views.specs.View.{View, empty_view, was_used, with_adoption, with_item, with_release}
use Rattle.gaz_views.specs.View.{without_key}
use Rattle.gaz_overlay.specs.Laid.{with_some}
use Rattle.gaz_overlay.specs.declared.touch.Stood.{Stood}
use Rattle.gaz_overlay.specs.declared.touch.Stood.TheVariants.{NoRow, Past, Since}
use Rattle.gaz_overlay.specs.declared.touch.Touch.{Touch}

-- what is kept of each key that was touched
abbrev pub Touched : Type 0
Touched = map.FinMap key_cmp Touch

-- the numbers that were passed on, each with the volume in which its current passage was born,
-- where it had one
abbrev pub Passed : Type 0
Passed = map.FinMap nat_cmp (Option ℕ)

-- the touched keys; and what was put and taken there, beside copies of what stood there before; and
-- the numbers that were passed on, of which the view says what last became of them
pub record Changes : Type 0 where
  pub view : View
  pub touched : Touched
  pub passed : Passed

abbrev pub no_changes : Changes
no_changes = record { view = empty_view; touched = map.empty; passed = map.empty }

abbrev pub is_touched : Changes → Key → Bool
is_touched c k = map.contains_key c.touched k

-- what stood at a touched key before
abbrev pub stood_in : Touched → Key → Stood
stood_in touched k = option_map_or (λ t. t.stood) (map.get touched k) NoRow

-- a key had a row
abbrev pub was_there : Stood → Bool
was_there NoRow = false
was_there Past = true
was_there (Since volume) = true

-- a touched key had a row, or an item was put there
abbrev pub was_used_in : Changes → Key → Bool
was_used_in c k = was_used c.view k || was_there (stood_in c.touched k)

-- a key is touched at which this item stood before, or none; one that is hidden next may be left
-- out
abbrev pub with_touched : Changes → Key → Stood → Option Item → Changes
with_touched c k stood found = record c {
  view = with_some c.view found;
  touched = map.insert c.touched k (record { stood = stood; last = None });
}

-- an item is put at its key, which is touched
abbrev pub with_put : Changes → Item → Changes
with_put c i = record c {
  view = with_item c.view i;
  touched = map.insert c.touched (key_of i) (record {
    stood = stood_in c.touched (key_of i);
    last = Some i;
  });
}

-- the item of a touched key is taken
abbrev pub with_taken : Changes → Key → Changes
with_taken c k = record c { view = without_key c.view k }

-- ---- numbers that are passed on

abbrev pub is_passed : Changes → ℕ → Bool
is_passed c uprn = map.contains_key c.passed uprn

-- the key is that of the BLPU of such a number
abbrev pub is_passed_key : Changes → Key → Bool
is_passed_key c (key.Blpu uprn) = is_passed c uprn
is_passed_key c _ = false

-- in which volume a number's current passage was born before, where it had one
abbrev pub born_before : Passed → ℕ → Option ℕ
born_before passed uprn = option_flatten (map.get passed uprn)

-- that is told when the number is passed on first
abbrev pub noted : Passed → ℕ → Option ℕ → Passed
noted passed uprn since =
    if map.contains_key passed uprn then passed else map.insert passed uprn since

-- a number is released to a custodian at a hop; its BLPU's key is touched
abbrev pub with_released : Changes → (uprn to hop : ℕ) → Option ℕ → Changes
with_released c uprn to hop since = record c {
  view = with_release c.view uprn to hop;
  passed = noted c.passed uprn since;
}

-- a BLPU is adopted from a custodian at a hop; its key is touched
abbrev pub with_adopted_blpu : Changes → BlpuValue → (from hop : ℕ) → Option ℕ → Changes
with_adopted_blpu c blpu from hop since = record {
  view = with_adoption c.view blpu from hop;
  touched = map.insert c.touched (key.Blpu blpu.uprn) (record {
    stood = stood_in c.touched (key.Blpu blpu.uprn);
    last = Some (item.Blpu blpu);
  });
  passed = noted c.passed blpu.uprn since;
}

-- the item, which is a BLPU; no other item is adopted
abbrev pub with_adopted : Changes → Item → (from hop : ℕ) → Option ℕ → Changes
with_adopted c i from hop since =
    option_map_or (λ b. with_adopted_blpu c b from hop since) (as_blpu i) c
