-- What a change of the working view and a phase of a judgement tell of the keeper before and after,
-- where `seen` is how it is seen.
use Rattle.std.specs.Prelude.{◌≡◌, ℕ, true, List, Option, Result}
use Rattle.std.specs.List.{fold}
use Rattle.gaz_changefile.specs.Contents.{Contents}
use Rattle.gaz_changefile.specs.declared.change.Basis.{Basis}
use Rattle.gaz_changefile.specs.declared.change.Change.{Change}
use Rattle.gaz_register.specs.Registers.{Blocks}
use Rattle.gaz_keeper.specs.Keeper.{Reads, Seen, with_working}
use Rattle.gaz_keeper.specs.declared.fault.ShelfFault.{ShelfFault}
use Rattle.gaz_views.specs.View.{View}
use Rattle.gaz_end_rules.specs.Bases.{are_reached, basis_views}
use Rattle.gaz_rules.specs.Judging.{end_faults, record_faults}
use Rattle.gaz_rules.specs.Phases.{Finds, IsFirst, Works, faults_in}
use Rattle.gaz_rules.specs.Rules.{effect}
use Rattle.gaz_rules.specs.declared.judging.Fault as found

-- ---- one call

-- the working view becomes what this makes of it
abbrev pub MakesView : {K T : Type 0} → (K → Seen) → K → K → Result T ShelfFault → (View → View)
    → Type 0
MakesView seen old new result becomes =
    Works (seen old) (seen new) result
    (λ _. (seen new).content ≡ with_working (seen old).content (becomes (seen old).content.working))

-- ---- the phases

-- the changes of this custodian are done, up to the first that doesn't fit
abbrev pub DoesRecords : {K : Type 0} → (K → Seen) → K → K → Result (Option found.Fault) ShelfFault
    → ℕ → Blocks → List Basis → List Change → Type 0
DoesRecords seen old new result c own bases changes =
    let k = (seen old).content in
    Works (seen old) (seen new) result (λ r. are_reached k.board bases ≡ true
    → Finds k (seen new).content
    (record_faults c own (basis_views k.board bases) k.working changes)
    (fold effect k.working changes) r)

-- the first change whose key breaks an end rule
abbrev pub FindsEndFault : {K : Type 0} → (K → Seen) → K → K
    → Result (Option found.Fault) ShelfFault → List Basis → List Change → Type 0
FindsEndFault seen old new result bases changes =
    let k = (seen old).content in
    Reads (seen old) (seen new) result
    (λ r. are_reached k.board bases ≡ true
    → IsFirst (end_faults k.working (basis_views k.board bases) changes) r)

-- the changes are done, and the first fault of the records is found, else the first of their keys
abbrev pub DoesPhases : {K : Type 0} → (K → Seen) → K → K → Result (Option found.Fault) ShelfFault
    → ℕ → Blocks → Contents → Type 0
DoesPhases seen old new result c own file =
    let k = (seen old).content in
    Works (seen old) (seen new) result (λ r. are_reached k.board file.bases ≡ true
    → Finds k (seen new).content (faults_in c own k file) (fold effect k.working file.changes) r)
