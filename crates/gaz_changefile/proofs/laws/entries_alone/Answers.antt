use Rattle.gaz_changefile.proofs.Entries.{entries-alone}
use Rattle.gaz_changefile.proofs.laws.entries_alone.Goals as goal

pub returns : goal.returns
returns c = entries-alone
