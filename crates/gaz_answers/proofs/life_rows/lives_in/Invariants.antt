use Rattle.std.proofs.Common.{◌≡◌, take, true}
use Rattle.std.specs.Prelude.{All}
use Rattle.gaz_records.specs.Items.{is_entry}
use Rattle.gaz_answers.specs.Lives.{SayLives}
use Rattle.gaz_answers.proofs.life_rows.lives_in.Given as goal

abbrev pub invariant-loop-row : goal.invariant-loop-row
invariant-loop-row l = record { said : SayLives (take l.row-index l.rows) l.lives.items; entries : All (λ life. is_entry life.item ≡ true) l.lives.items }
