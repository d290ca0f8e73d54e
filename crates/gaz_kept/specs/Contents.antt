-- The content for which the tables stand.
use Rattle.std.specs.Prelude.{List}
use Rattle.sqlite.specs.Effect.{Database}
use Rattle.sqlite.specs.Order.{Row}
use Rattle.gaz_views.specs.Judgements.{judgements}
use Rattle.gaz_views.specs.View.{View}
use Rattle.gaz_keeper.specs.Board.{Board}
use Rattle.gaz_keeper.specs.Keeper.{Content}
use Rattle.gaz_tables.specs.Schema.{received, version2}
use Rattle.gaz_tables.specs.Tables.{rows_of}
use Rattle.gaz_row_items.specs.Versions.{view_in}
use Rattle.gaz_kept.specs.Files.{files_in, verdicts_in}

-- each custodian's verdicts, and its views after their volumes
abbrev pub board_in : List Row → List Row → Board
board_in files rows = λ c. judgements (verdicts_in files c) (view_in rows c)

abbrev pub board_of : Database → Board
board_of db = board_in (rows_of db received) (rows_of db version2)

-- rows of files and of items hold files and board; the working view stands beside them
abbrev pub content_of : List Row → List Row → View → Content
content_of received items working = record {
  files = files_in received;
  board = board_in received items;
  working = working;
}

-- the files and the board that the tables of a database hold, with this working view beside them
abbrev pub content_in : Database → View → Content
content_in db working = content_of (rows_of db received) (rows_of db version2) working
