use Rattle.gaz_loaded.proofs.Lives.{lives_join}
use Rattle.gaz_loaded.proofs.laws.lives_join.Goals as goal

pub returns : goal.returns
returns c = lives_join
