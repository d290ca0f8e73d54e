-- What a change makes of a number, and what is asked of it.
use Rattle.std.specs.Prelude.{◌≡◌, ◌<◌, ◌==◌, ◌+◌, ℕ, true, if◌then◌else◌, List, Option, None, Some}
use Rattle.std.specs.Option.{option_or}
use Rattle.gaz_changefile.specs.declared.action.Action.{Action}
use Rattle.gaz_records.specs.declared.item.Item.{Item}
use Rattle.gaz_records.specs.declared.item.Item.TheVariants as item
use Rattle.gaz_register.specs.Registers.{Blocks}
use Rattle.gaz_views.specs.View.{View, custody_at, hop_at}
use Rattle.gaz_views.specs.declared.custody.Custody.{Custody}
use Rattle.gaz_views.specs.declared.custody.Custody.TheVariants.{Adopted, Released}
use Rattle.gaz_rules.specs.CustodyRules.{basis_of, holds_number}
use Rattle.gaz_rules.specs.Rules.{effect_of, record_rules}
use Rattle.gaz_changefile.specs.Rules.{first_broken}

-- what a change makes of the number
abbrev pub made_of : ℕ → Item → Option Custody
made_of uprn (item.Release r) = if uprn == r.uprn then Some (Released r.to r.hop) else None
made_of uprn (item.Adopt a) = if uprn == a.blpu.uprn then Some (Adopted a.from a.hop) else None
made_of uprn _ = None

-- what the rules ask of it in a file of custodian c: only who holds the number releases it, at the
-- next hop; and whom it was released to adopts it, at that hop, which is greater than the own
abbrev pub IsAsked : ℕ → Blocks → List (ℕ × View) → View → ℕ → Custody → Type 0
IsAsked c own others v uprn (Released to hop) =
    (holds_number own v uprn ≡ true) × (hop ≡ hop_at v uprn + 1)
IsAsked c own others v uprn (Adopted from hop) =
    (w : View) × (basis_of others from ≡ Some w) × (custody_at w uprn ≡ Some (Released c hop))
    × (hop_at v uprn < hop)

pub record PassesAsAsked : Type 0 where
  -- what last became of a number is what the change makes of it, else what it was
  pub after : (uprn : ℕ) (v : View) (a : Action) (i : Item)
      → custody_at (effect_of a v i) uprn ≡ option_or (made_of uprn i) (custody_at v uprn)
  -- what is made by a change that breaks no rule is as the rules ask
  pub asked : (c : ℕ) (own : Blocks) (others : List (ℕ × View)) (v : View) (a : Action) (i : Item)
      (uprn : ℕ) (e : Custody)
      → first_broken (record_rules c own others v a i) ≡ None → made_of uprn i ≡ Some e
      → IsAsked c own others v uprn e
