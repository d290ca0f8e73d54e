-- What is gathered of a judgement, and what it makes of a view.
use Rattle.std.specs.Prelude.{◌≡◌, Bool, if◌then◌else◌, List, Result, fold}
use Rattle.gaz_keeper.specs.Keeper.{Seen, Sets}
use Rattle.gaz_keeper.specs.declared.fault.ShelfFault.{ShelfFault}
use Rattle.gaz_views.specs.Numbered.{with_adopted}
use Rattle.gaz_views.specs.View.{View, with_item, with_release, without_key}
use Rattle.gaz_mirror.specs.declared.gathered.Change.{Change}
use Rattle.gaz_mirror.specs.declared.gathered.Change.TheVariants.{Adopt, Put, Release, Take}

-- the view with a change made; were what is adopted no BLPU, the view would stay as it is
abbrev pub makes : View → Change → View
makes view (Put entry) = with_item view entry.item
makes view (Take key) = without_key view key
makes view (Release uprn to hop) = with_release view uprn to hop
makes view (Adopt a) = with_adopted view a.blpu a.from a.hop

-- with these changes made, one after another
abbrev pub made : View → List Change → View
made view changes = fold makes view changes

-- two changes make the same of every view
abbrev pub IsSameChange : Change → Change → Type 0
IsSameChange one other = (view : View) → makes view other ≡ makes view one

-- two lists of changes do
abbrev pub AreSameChanges : List Change → List Change → Type 0
AreSameChanges some others = (view : View) → made view others ≡ made view some

-- these make what those made, and then this change where it was added
abbrev pub AreThen : List Change → List Change → Bool → Change → Type 0
AreThen some others added change = (view : View) → made view others
    ≡ (if added then makes (made view some) change else made view some)

-- a keeper's call makes a change of its working view
abbrev pub Makes : {K T : Type 0} → (K → Seen) → K → K → Result T ShelfFault → Change → Type 0
Makes seen old new result change =
    Sets (seen old) (seen new) result (makes (seen old).content.working change)

-- one makes several of them
abbrev pub MakesAll : {K T : Type 0} → (K → Seen) → K → K → Result T ShelfFault → List Change
    → Type 0
MakesAll seen old new result changes =
    Sets (seen old) (seen new) result (made (seen old).content.working changes)
