-- What a change file comes to.
use Rattle.std.specs.Prelude.{ℕ, List, [], ◌∷◌, ◌++◌, Option}
use Rattle.std.specs.Option.{option_map}
use Rattle.std.specs.List.{filter_map, fold}
use Rattle.gaz_records.specs.Keys.{key_of}
pub use Rattle.gaz_changefile.specs.Reading.{Bad, Fault, Good, Reading}
use Rattle.gaz_changefile.specs.declared.change.Basis.{Basis}
use Rattle.gaz_changefile.specs.declared.change.Change.{Change}
use Rattle.gaz_views.specs.View.{View}
use Rattle.gaz_keeper.specs.Board.{Board, Judgement, last_view}
use Rattle.gaz_views.specs.declared.verdict.Verdict.TheVariants.{Applied, Rejected}
use Rattle.gaz_register.specs.Registers.{Blocks}
use Rattle.gaz_end_rules.specs.Bases.{basis_views}
use Rattle.gaz_end_rules.specs.EndRules.{end_rules}
use Rattle.gaz_rules.specs.Rules.{effect, record_rules}
use Rattle.gaz_changefile.specs.Rules.{first_broken}

-- a file with a fault has no basis
abbrev pub bases_of : Reading → List Basis
bases_of (Good file) = file.bases
bases_of (Bad place rule) = []

-- each change with the view that stands before it
abbrev pub with_views : View → List Change → List (View × Change)
with_views v [] = []
with_views v (c ∷ cs) = (v, c) ∷ with_views (effect v c) cs

abbrev pub fault_at : ℕ → Option ℕ → Option Fault
fault_at place rule = option_map (λ r. record { place = place; rule = r }) rule

-- the changes that don't fit the view before them, each with its least rule
abbrev pub record_faults : ℕ → Blocks → List (ℕ × View) → View → List Change → List Fault
record_faults c own others v cs =
    filter_map
    (λ s. fault_at s.1.place (first_broken (record_rules c own others s.0 s.1.action s.1.item)))
    (with_views v cs)

-- the changes whose keys break an end rule in the view w, each with its least rule
abbrev pub end_faults : View → List (ℕ × View) → List Change → List Fault
end_faults w others cs =
    filter_map (λ c. fault_at c.place (first_broken (end_rules w others (key_of c.item)))) cs

-- rejected at the first fault, the view staying as it was; with no fault, applied
abbrev pub judged_by_faults : View → View → List Fault → Judgement
judged_by_faults v w [] = record { verdict = Applied; view = w }
judged_by_faults v w (f ∷ fs) = record { verdict = Rejected f.place f.rule; view = v }

-- the judgement of a file of the custodian with this code and these blocks, on its view and on
-- those of its basis custodians
unfoldable pub judge : ℕ → Blocks → View → List (ℕ × View) → Reading → Judgement
judge c own v others (Bad place rule) = record { verdict = Rejected place rule; view = v }
judge c own v others (Good file) =
    let w = fold effect v file.changes in
    judged_by_faults v w
    (record_faults c own others v file.changes ++ end_faults w others file.changes)

-- what a custodian's next file comes to, which reads so
abbrev pub judged_on : Blocks → Board → ℕ → Reading → Judgement
judged_on own board c r = judge c own (last_view board c) (basis_views board (bases_of r)) r
