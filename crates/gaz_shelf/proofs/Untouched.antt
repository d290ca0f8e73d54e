-- What is read on custody of a custodian of which nothing is kept.
use Rattle.std.proofs.Common.{◌≡◌, ◌∙◌, ℕ, false, List, ap, sym}
use Rattle.std.specs.Prelude.{None}
use Rattle.std.specs.List.{list_any}
use Rattle.gaz_records.specs.declared.item.Item.{Item}
use Rattle.gaz_records.specs.declared.key.Key.{Key}
use Rattle.gaz_views.proofs.Emptiness.{no_custody, no_entries_yet}
use Rattle.gaz_views.specs.View.{View, custody_at, empty_view}
use Rattle.gaz_views.specs.Words.{names, tied}

module _ (v : View) (empty : v ≡ empty_view) where
  pub no_custody_there : (n : ℕ) → None ≡ custody_at v n
  no_custody_there n = sym (ap (λ (w : View). custody_at w n) empty ∙ no_custody n)

  pub no_ties : (n : ℕ) → false ≡ tied v n
  no_ties n = sym (ap (λ (w : View). tied w n) empty ∙ ap (λ (es : List (Key × Item)). list_any (λ e. names n e.1) es) no_entries_yet)
