-- What a change makes of an account and of what is known, and what of a view has a mark.
use Rattle.std.specs.Prelude.{◌≡◌, ◌-◌, ◌==◌, ◌||◌, ◌++◌, ◌∷◌, [], ℕ, Bool, false}
use Rattle.std.specs.Prelude.{if◌then◌else◌, List}
use Rattle.std.specs.Prelude.{Option, None, Some, option_map, slice_get, filter}
use Rattle.gaz_records.specs.declared.item.Item.{Item}
use Rattle.gaz_records.specs.declared.key.Key.{Key}
use Rattle.gaz_views.specs.Accounts.{Account}
use Rattle.gaz_views.specs.View.{View}
use Rattle.gaz_views.specs.Words.{entries}
use Rattle.gaz_views.specs.declared.property.Property.{Property}
use Rattle.gaz_views.specs.declared.verdict.Verdict.{Verdict}
use Rattle.gaz_standing.specs.Changing.{Pair}
use Rattle.gaz_standing.specs.Indexes.{has_mark}
use Rattle.gaz_standing.specs.declared.index.Mark.{Mark}
use Rattle.gaz_ledger.specs.Properties.{is_address_of, known_in}
use Rattle.gaz_ledger.specs.declared.properties.Properties.{Properties}

-- ---- an account

abbrev pub with_working : Account → View → Account
with_working a view = record { judged = a.judged; working = view }

-- its next volume is judged so, and the working view is the view after it
abbrev pub with_verdict : Account → Verdict → Account
with_verdict a verdict = record {
  judged = a.judged ++ record { verdict = verdict; view = a.working } ∷ [];
  working = a.working;
}

-- the verdict on a volume, from 1
abbrev pub verdict_in : Account → ℕ → Option Verdict
verdict_in a volume =
    if volume == 0 then None else option_map (λ j. j.verdict) (slice_get a.judged (volume - 1))

-- ---- a view

-- what a view holds that has a mark, in the order of keys
abbrev pub entries_with : Mark → View → List (Key × Item)
entries_with mark view = filter (λ e. has_mark mark e.1) (entries view)

-- ---- what is known of properties

-- this is known of the property, or it isn't known, and of others what was known
abbrev pub KnowsOf : Properties → Properties → ℕ → Option Property → Type 0
KnowsOf old new uprn known =
    (n : ℕ) → known_in new n ≡ (if uprn == n then known else known_in old n)

-- these properties aren't known any more, and of others what was known
abbrev pub Forgets : Properties → Properties → (ℕ → Bool) → Type 0
Forgets old new is_one = (n : ℕ) → known_in new n ≡ (if is_one n then None else known_in old n)

-- whatever is known was known
abbrev pub LearnsNothing : Properties → Properties → Type 0
LearnsNothing old new = (n : ℕ) (p : Property) → known_in new n ≡ Some p → known_in old n ≡ Some p

-- none of these properties is known
abbrev pub KnowsNone : Properties → (ℕ → Bool) → Type 0
KnowsNone known is_one = (n : ℕ) (p : Property) → known_in known n ≡ Some p → is_one n ≡ false

-- one of the marks is that of an address of this property
abbrev pub is_addressed_by : Pair → ℕ → Bool
is_addressed_by marks uprn = is_address_of uprn marks.0 || is_address_of uprn marks.1
