use Rattle.std.proofs.Common.{Ok}
use Rattle.std.specs.Prelude.{option_map}
use Rattle.std.specs.String.{string_bytes}
use Rattle.gaz_kept.specs.LastViews.{last_in}
use Rattle.gaz_calls.specs.Asking.{AsksTables}
use Rattle.gaz_answers.specs.Streets.{AreBehind, is_left_on}
use Rattle.gaz_calls.proofs.tables.Tables.left_on.Given as goal

-- what is asked for comes behind the id at which the next page begins
abbrev pub invariant-pages : goal.invariant-pages
invariant-pages g l =
    AsksTables l.fn.self l.self (Ok l.start) (λ db start. AreBehind (is_left_on l.usrn l.lang (option_map (λ c. c.now) l.passed)) (last_in db l.code) (string_bytes start))
