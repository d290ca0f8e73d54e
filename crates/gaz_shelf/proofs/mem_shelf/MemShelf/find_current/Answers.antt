use Rattle.gaz_views.proofs.Emptiness.{no_item}
use Rattle.gaz_shelf.proofs.mem_shelf.MemShelf.find_current.Goals as goal

pub returns-in-None : goal.returns-in-None
returns-in-None c = no_item _ c.in-None.ensures.none c.args.key.now
