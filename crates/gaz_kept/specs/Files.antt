-- What the rows of `received` stand for.
use Rattle.std.specs.Prelude.{ℕ, ◌==◌, if◌then◌else◌, List, []}
use Rattle.std.specs.Prelude.{Option, None, Some, length, map, option_map}
use Rattle.std.specs.FinMap as finite
use Rattle.std.specs.List.{filter_map}
use Rattle.std.specs.Ordering.{nat_cmp}
use Rattle.sqlite.specs.declared.types.Value.{Value}
use Rattle.sqlite.specs.declared.types.Value.TheVariants.{Null, Int, Real, Text, Blob}
use Rattle.sqlite.specs.Order.{Row}
use Rattle.gaz_views.specs.declared.verdict.Verdict.{Verdict}
use Rattle.gaz_views.specs.declared.verdict.Verdict.TheVariants.{Applied, Rejected}
use Rattle.gaz_keeper.specs.Received.{Received}
use Rattle.gaz_tables.specs.Receiveds.{bytes_of, cust_of, place_of, rule_of, state_of, volume_of}
use Rattle.gaz_row_items.specs.Versions.{number_in}

-- bytes, or none where there are none
abbrev pub bytes_in : Value → List ℕ
bytes_in (Blob b) = b
bytes_in Null = []
bytes_in (Int n) = []
bytes_in (Real x) = []
bytes_in (Text t) = []

-- whose a row is, and which volume
abbrev pub custodian_in : Row → ℕ
custodian_in r = number_in (cust_of r)

abbrev pub volume_in : Row → ℕ
volume_in r = number_in (volume_of r)

-- a received file, under its custodian and volume
abbrev pub file_in : Row → (ℕ × ℕ) × List ℕ
file_in r = ((custodian_in r, volume_in r), bytes_in (bytes_of r))

abbrev pub files_in : List Row → Received
files_in rows = finite.from_entries (map file_in rows)

-- state 0 is unjudged, 1 applied, 2 rejected at a place by a rule
abbrev pub verdict_of : ℕ → ℕ → ℕ → Option Verdict
verdict_of state place rule =
    if state == 1 then Some Applied else if state == 2 then Some (Rejected place rule) else None

abbrev pub verdict_in : Row → Option Verdict
verdict_in r = verdict_of (number_in (state_of r)) (number_in (place_of r)) (number_in (rule_of r))

-- a custodian's judged volume with its verdict, where the row is one
abbrev pub judged_in : ℕ → Row → Option (ℕ × Verdict)
judged_in c r =
    if custodian_in r == c then option_map (λ v. (volume_in r, v)) (verdict_in r) else None

-- the judged volumes of a custodian, by number
abbrev pub Judged : Type 0
Judged = finite.FinMap nat_cmp Verdict

abbrev pub judged_volumes : List Row → ℕ → Judged
judged_volumes rows c = finite.from_entries (filter_map (judged_in c) rows)

-- their verdicts, as the volumes rise
abbrev pub verdicts_in : List Row → ℕ → List Verdict
verdicts_in rows c = finite.values (judged_volumes rows c)

-- how many there are
abbrev pub reached_in : List Row → ℕ → ℕ
reached_in rows c = length (verdicts_in rows c)
