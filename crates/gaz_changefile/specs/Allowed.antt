-- Which changes a file of a custodian may hold.
use Rattle.std.specs.Prelude.{◌≡◌, ℕ, ◌==◌, not, List, Option, Some, None, Bool, true, false}
use Rattle.std.specs.List.{All}
use Rattle.gaz_records.specs.declared.item.Item.{Item}
use Rattle.gaz_records.specs.declared.item.Item.TheVariants as item
use Rattle.gaz_changefile.specs.declared.action.Action.{Action}
use Rattle.gaz_changefile.specs.declared.action.Action.TheVariants.{Insert, Update, Delete}
use Rattle.gaz_changefile.specs.declared.change.Change.{Change}

-- the custodian to whom a property is released, or from whom it is adopted
abbrev pub named_in : Item → Option ℕ
named_in (item.Street x) = None
named_in (item.Descriptor x) = None
named_in (item.Blpu x) = None
named_in (item.Xref x) = None
named_in (item.Lpi x) = None
named_in (item.Release x) = Some x.to
named_in (item.Adopt x) = Some x.from

-- what names a custodian is an insertion, and names another than the own
abbrev pub may_name : ℕ → Action → Option ℕ → Bool
may_name own action None = true
may_name own Insert (Some other) = not (other == own)
may_name own Update (Some other) = false
may_name own Delete (Some other) = false

-- a file of the own custodian may hold the change: any of an entry, and of a release or an adoption
-- an insertion that names another custodian
abbrev pub is_allowed : ℕ → Change → Bool
is_allowed own x = may_name own x.action (named_in x.item)

-- each of the changes is allowed
abbrev pub AreAllowed : ℕ → List Change → Type 0
AreAllowed own changes = All (λ x. is_allowed own x ≡ true) changes
