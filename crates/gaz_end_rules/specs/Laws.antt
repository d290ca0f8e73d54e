-- What a reader of the end rules may rely on.
use Rattle.std.specs.Prelude.{◌≡◌, ◌≤◌, ◌↔◌, ℕ, Some, true}
use Rattle.gaz_records.specs.declared.key.Key.{Key}
use Rattle.gaz_records.specs.declared.key.Key.TheVariants as key
use Rattle.gaz_views.specs.View.{View}
use Rattle.gaz_end_rules.specs.EndRules.{ancestor, is_own_ancestor}

-- ---- rings

-- a BLPU, and a chain of one or more parents leads from it to itself
pub record IsOnRing (v : View) (k : Key) : Type 0 where
  pub uprn : ℕ
  pub is : k ≡ key.Blpu uprn
  pub steps : ℕ
  pub at_least_one : 1 ≤ steps
  pub leads : ancestor v steps uprn ≡ Some uprn

-- rule 36 is broken on a ring of any length, and nowhere else
abbrev pub FindsRings : Type 0
FindsRings = (v : View) (k : Key) → (is_own_ancestor v k ≡ true) ↔ IsOnRing v k
