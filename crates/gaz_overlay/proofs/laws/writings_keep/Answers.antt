use Rattle.gaz_overlay.proofs.Apart.{writings_keep}
use Rattle.gaz_overlay.proofs.laws.writings_keep.Goals as goal

pub returns : goal.returns
returns c = writings_keep
