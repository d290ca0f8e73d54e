-- What a custodian is told of its files.
use Rattle.std.specs.Prelude.{ℕ, ◌+◌, nat_le, not, if◌then◌else◌, List, Option, Some, None}
use Rattle.std.specs.Option.{option_map, option_map_or}
use Rattle.std.specs.List.{find}
use Rattle.gaz_ids.specs.Limits.{last_volume}
use Rattle.gaz_changefile.specs.Reading.{Reading}
use Rattle.gaz_changefile.specs.declared.change.Basis.{Basis}
use Rattle.gaz_keeper.specs.Board.{Board, reached, verdict_on}
use Rattle.gaz_views.specs.declared.verdict.Verdict.{Verdict}
use Rattle.gaz_views.specs.declared.verdict.Verdict.TheVariants as verdict
use Rattle.gaz_rules.specs.Judging.{bases_of}
use Rattle.gaz_keeper.specs.Received.{Received, count_above}
use Rattle.gaz_steps.specs.Standing.{next_reading}
use Rattle.gaz_steps.specs.declared.standing.Standing.{Standing}
use Rattle.gaz_steps.specs.declared.outcome.Outcome.{Outcome}
use Rattle.gaz_steps.specs.declared.outcome.Outcome.TheVariants.{Applied, Rejected, Held}

-- the first basis line whose volume isn't reached
abbrev pub first_unreached : Board → List Basis → Option Basis
first_unreached board bases =
    find (λ basis. not (nat_le basis.volume (reached board basis.custodian))) bases

-- what a custodian's next volume waits for: itself where it wasn't received, else the first basis
-- line that isn't reached
abbrev pub wants_as : Board → ℕ → Option Reading → Option (ℕ × ℕ)
wants_as board c None = Some (c, reached board c + 1)
wants_as board c (Some r) =
    option_map (λ basis. (basis.custodian, basis.volume)) (first_unreached board (bases_of r))

-- what a custodian's next volume waits for, by how it reads; nothing after the last volume
abbrev pub wants : Received → Board → ℕ → Option (ℕ × ℕ)
wants files board c =
    if nat_le (reached board c + 1) last_volume then wants_as board c (next_reading files board c)
    else None

abbrev pub outcome_of : Verdict → Outcome
outcome_of verdict.Applied = Applied
outcome_of (verdict.Rejected place rule) = Rejected place rule

-- the outcome of a received file: its verdict where it is judged, else what its custodian's next
-- volume waits for
abbrev pub outcome : Received → Board → ℕ → ℕ → Option Outcome
outcome files board c volume =
    option_map_or (λ v. Some (outcome_of v)) (verdict_on board c volume)
    (option_map (λ w. Held w.0 w.1) (wants files board c))

-- how many files of a custodian were received and aren't judged
abbrev pub held_count : Received → Board → ℕ → ℕ
held_count files board c = count_above files c (reached board c)

abbrev pub status : Received → Board → ℕ → Standing
status files board c =
    record {
      custodian = c;
      held = held_count files board c;
      judged = reached board c;
      wants = wants files board c;
    }
