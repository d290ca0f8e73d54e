-- How files and verdicts change, row by row, and what becomes of the board.
use Rattle.std.specs.Prelude.{◌≡◌, ◌≢◌, ◌≤◌, ◌<◌, ◌+◌, ◌++◌, ℕ, pos, List, [], ◌∷◌, Some, None}
use Rattle.std.specs.FinMap as finite
use Rattle.sqlite.specs.declared.types.Value.{Value}
use Rattle.sqlite.specs.Order.{Row}
use Rattle.sqlite_rules.specs.Lists.{Has}
use Rattle.gaz_ids.specs.Limits.{last_volume}
use Rattle.gaz_views.specs.declared.verdict.Verdict.{Verdict}
use Rattle.gaz_keeper.specs.Board.{adds, reached, verdict_on, view_after}
use Rattle.gaz_keeper.specs.Received.{with_file}
use Rattle.gaz_overlay.specs.Passages.{PassageRow}
use Rattle.gaz_overlay.specs.Rows.{HistoryRow, never, view_of_rows}
use Rattle.gaz_sql_facts.specs.Changes.{IsAdded, IsChanged}
use Rattle.gaz_tables.specs.Receiveds.{IsVolume, judged, unjudged}
use Rattle.gaz_row_items.specs.Versions.{histories_in, passages_in, view_in}
use Rattle.gaz_kept.specs.Contents.{board_in}
use Rattle.gaz_kept.specs.Files.{custodian_in, files_in, judged_volumes, reached_in, verdict_of}
use Rattle.gaz_kept.specs.Files.{verdicts_in, volume_in}
use Rattle.gaz_kept.specs.Kept.{AreFirst, ArePassages, AreThrough, IsFile}

-- two rows of one volume
abbrev pub AreOfVolume : Row → Row → Type 0
AreOfVolume r s = (custodian_in r ≡ custodian_in s) × (volume_in r ≡ volume_in s)

-- the rows of `received`: no volume of a custodian has two
pub record AreFiles (rows : List Row) : Type 0 where
  pub each : (r : Row) → Has rows r → IsFile r
  pub once : (r s : Row) → Has rows r → Has rows s → AreOfVolume r s → r ≡ s

-- ---- a file comes

-- a file is received as a custodian's volume, and nothing is judged by that
pub record Arrives (c volume : ℕ) (bytes : List ℕ) (old new : List Row) : Type 0 where
  pub are_files : AreFiles new
  pub files : files_in new ≡ with_file (files_in old) c volume bytes
  pub judged : (d : ℕ) → judged_volumes new d ≡ judged_volumes old d

abbrev pub InsertArrives : Type 0
InsertArrives = (id : Value) (c volume : ℕ) (bytes : List ℕ) (old new : List Row)
    → 1 ≤ volume → volume ≤ last_volume → AreFiles old
    → finite.get (files_in old) (c, volume) ≡ None
    → IsAdded (id ∷ unjudged c volume bytes) old new → Arrives c volume bytes old new

-- ---- a volume is judged

-- the custodian's next volume has a verdict, and the files are as they were
pub record IsJudged (c volume : ℕ) (v : Verdict) (old new : List Row) : Type 0 where
  pub are_files : AreFiles new
  pub files : files_in new ≡ files_in old
  pub first : AreFirst new c
  pub verdicts : verdicts_in new c ≡ verdicts_in old c ++ v ∷ []
  pub others : (d : ℕ) → d ≢ c → judged_volumes new d ≡ judged_volumes old d

-- what states and rules there are
pub record IsVerdict (state place rule : ℕ) (v : Verdict) : Type 0 where
  pub verdict : verdict_of state place rule ≡ Some v
  pub states : state ≤ 2
  pub rules : rule ≤ 255
  pub no_place : state ≢ 2 → place ≡ 0
  pub no_rule : state ≢ 2 → rule ≡ 0

abbrev pub UpdateJudges : Type 0
UpdateJudges = (c state place rule : ℕ) (v : Verdict) (old new : List Row)
    → IsVerdict state place rule v → AreFiles old → AreFirst old c
    → (r : Row) → Has old r → IsVolume c (reached_in old c + 1) r
    → IsChanged (IsVolume c (reached_in old c + 1)) (judged state (pos place) rule) old new
    → IsJudged c (reached_in old c + 1) v old new

pub record FilesChange : Type 0 where
  pub insert : InsertArrives
  pub update : UpdateJudges

-- ---- the board

-- no row was born before the first volume
abbrev pub AreBornLater : List HistoryRow → Type 0
AreBornLater rows = (r : HistoryRow) → Has rows r → 1 ≤ r.born

abbrev pub ArePassedLater : List PassageRow → Type 0
ArePassedLater rows = (p : PassageRow) → Has rows p → 1 ≤ p.born

-- what is read on the board is what the rows say
pub record BoardReads (files rows : List Row) (c : ℕ) : Type 0 where
  pub reached : reached (board_in files rows) c ≡ reached_in files c
  pub verdict : AreFirst files c → (volume : ℕ)
      → verdict_on (board_in files rows) c volume ≡ finite.get (judged_volumes files c) volume
  pub view : AreBornLater (histories_in rows c) → ArePassedLater (passages_in rows c)
      → (t : ℕ) → t ≤ reached_in files c
      → view_after (board_in files rows) c t ≡ view_in rows c t

-- where a custodian has one more verdict and its past views stay, the board has one more judgement
abbrev pub BoardAdds : Type 0
BoardAdds = (files new_files rows new_rows : List Row) (c : ℕ) (v : Verdict)
    → verdicts_in new_files c ≡ verdicts_in files c ++ v ∷ []
    → ((d : ℕ) → d ≢ c → verdicts_in new_files d ≡ verdicts_in files d)
    → ((t : ℕ) → t ≤ reached_in files c → view_in new_rows c t ≡ view_in rows c t)
    → ((d : ℕ) → d ≢ c → (t : ℕ) → view_in new_rows d t ≡ view_in rows d t)
    → board_in new_files new_rows ≡ adds (board_in files rows) c
    (record { verdict = v; view = view_in new_rows c (reached_in files c + 1) })

-- a volume that changes no row leaves the view as it was
abbrev pub StaysNext : Type 0
StaysNext = (n : ℕ) (rows : List HistoryRow) (passages : List PassageRow) → n + 1 < never
    → AreThrough n rows → ArePassages n passages
    → view_of_rows rows passages (n + 1) ≡ view_of_rows rows passages n

pub record BoardChanges : Type 0 where
  pub reads : (files rows : List Row) (c : ℕ) → BoardReads files rows c
  pub adds : BoardAdds
  pub stays : StaysNext
