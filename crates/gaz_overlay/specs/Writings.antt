-- What is to be written for a touched key when a volume is kept.
use Rattle.std.specs.Prelude.{ℕ, Bool, not, ◌||◌}
use Rattle.std.specs.Prelude.{Option, Some, None, is_some, option_map, if◌then◌else◌}
use Rattle.std.specs.FinMap as map
use Rattle.std.specs.Option.{option_map_or}
use Rattle.gaz_records.specs.declared.key.Key.{Key}
use Rattle.gaz_views.specs.View.{custody_at, holds}
use Rattle.gaz_overlay.specs.Changes.{Changes, born_before}
use Rattle.gaz_overlay.specs.declared.passage.Passage.{Passage}
use Rattle.gaz_overlay.specs.declared.touch.Stood.{Stood}
use Rattle.gaz_overlay.specs.declared.touch.Stood.TheVariants.{NoRow, Past, Since}
use Rattle.gaz_overlay.specs.declared.touch.Touch.{Touch}
use Rattle.gaz_overlay.specs.declared.touch.Writing.{Writing}

-- the volume in which the current row was born, where there is one
abbrev pub born_in : Stood → Option ℕ
born_in NoRow = None
born_in Past = None
born_in (Since volume) = Some volume

-- a key that was put or taken closes its current row, and one that was put has a row of the volume,
-- which is current while the item stands
abbrev pub writing_of : Touch → Bool → Writing
writing_of t stands = record {
  closes = if is_some t.last || not stands then born_in t.stood else None;
  adds = option_map (λ i. record { item = i; current = stands }) t.last;
}

abbrev pub nothing : Writing
nothing = record { closes = None; adds = None }

-- what is to be written for a key: nothing, where it isn't touched
abbrev pub writing_at : Changes → Key → Writing
writing_at c k = option_map_or (λ t. writing_of t (holds c.view k)) (map.get c.touched k) nothing

-- what is to be written for a number: nothing, where it wasn't passed on. However often it was,
-- what became of it last is all that is written
abbrev pub passage_at : Changes → ℕ → Option Passage
passage_at c uprn =
    option_map (λ custody. record { closes = born_before c.passed uprn; custody = custody })
    (custody_at c.view uprn)
