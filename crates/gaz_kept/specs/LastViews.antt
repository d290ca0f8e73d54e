-- A custodian's last view.
use Rattle.std.specs.Prelude.{ℕ}
use Rattle.sqlite.specs.Effect.{Database}
use Rattle.gaz_views.specs.View.{View}
use Rattle.gaz_tables.specs.Schema.{received, version2}
use Rattle.gaz_tables.specs.Tables.{rows_of}
use Rattle.gaz_row_items.specs.Versions.{view_in}
use Rattle.gaz_kept.specs.Files.{reached_in}

-- the view after the last volume that is judged
abbrev pub last_in : Database → ℕ → View
last_in db c = view_in (rows_of db version2) c (reached_in (rows_of db received) c)
