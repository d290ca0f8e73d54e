-- What is known of rings of parents.
use Rattle.std.specs.Prelude.{◌≡◌, ℕ, Bool, true, List, Option, Some, is_some, slice_get}
use Rattle.std.specs.Ordering.{nat_cmp}
use Rattle.std.specs.BTreeMap as tree
use Rattle.gaz_records.specs.declared.key.Key.TheVariants as key
use Rattle.gaz_views.specs.View.{View}
use Rattle.gaz_end_rules.specs.EndRules.{is_own_ancestor, parent_of}
use Rattle.gaz_end_rules.specs.declared.rings.Walked.{Walked}

-- each BLPU that was walked has the number of its visit, which leads to whether it is its own
-- ancestor, and its parent was walked too
pub record IsKnown (v : View) (visit_of : ℕ → Option ℕ) (on_ring : List Bool) : Type 0 where
  pub right : (x i : ℕ) → visit_of x ≡ Some i → slice_get on_ring i
      ≡ Some (is_own_ancestor v (key.Blpu x))
  pub closed : (x i p : ℕ) → visit_of x ≡ Some i → parent_of v x ≡ Some p → is_some (visit_of p)
      ≡ true

-- the number of a BLPU's visit
abbrev pub visit_of : Walked → ℕ → Option ℕ
visit_of w x = tree.get nat_cmp w.visits x

-- what was walked is right of a view
abbrev pub Knows : View → Walked → Type 0
Knows v w = IsKnown v (visit_of w) w.on_ring.items
