use Rattle.gaz_kept.proofs.MetaRows.{create_opens}
use Rattle.gaz_kept.proofs.laws.create_opens.Goals as goal

pub returns : goal.returns
returns c = create_opens
