use Rattle.gaz_records.proofs.ReadItems.{reads_items}
use Rattle.gaz_records.proofs.laws.what_is_read.Goals as goal

pub returns : goal.returns
returns c = reads_items
