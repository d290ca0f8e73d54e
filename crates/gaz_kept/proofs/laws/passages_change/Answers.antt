use Rattle.gaz_kept.proofs.PassageRows.{last_is_current, rows_say}
use Rattle.gaz_kept.proofs.PassageStatements.{ends_passing, insert_passes}
use Rattle.gaz_kept.proofs.laws.passages_change.Goals as goal

pub returns : goal.returns
returns c = record { insert = insert_passes; update = ends_passing; say = rows_say; current = last_is_current }
