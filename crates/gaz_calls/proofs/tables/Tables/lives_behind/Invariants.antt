use Rattle.std.proofs.Common.{Ok}
use Rattle.gaz_tables.specs.Schema.{version2}
use Rattle.gaz_tables.specs.Tables.{rows_of}
use Rattle.gaz_calls.specs.Asking.{AsksTables}
use Rattle.gaz_answers.specs.Lives.{GoesOn}
use Rattle.gaz_calls.proofs.tables.Tables.lives_behind.Given as goal

-- no row of an item is between where it begins and where the next page does
abbrev pub invariant-pages : goal.invariant-pages
invariant-pages g l = AsksTables l.fn.self l.self (Ok l.place) (λ db place. GoesOn l.fn.after place (rows_of db version2))
