use Rattle.gaz_shelf.proofs.Untouched.{no_custody_there}
use Rattle.gaz_shelf.proofs.mem_shelf.MemShelf.find_custody.Goals as goal

pub returns-in-None : goal.returns-in-None
returns-in-None c = no_custody_there _ c.in-None.ensures.none c.args.uprn
