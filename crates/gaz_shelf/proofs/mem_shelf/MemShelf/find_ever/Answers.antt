use Rattle.gaz_views.proofs.Emptiness.{never_used}
use Rattle.gaz_shelf.proofs.mem_shelf.MemShelf.find_ever.Goals as goal

pub returns-in-None : goal.returns-in-None
returns-in-None c = never_used _ c.in-None.ensures.none c.args.key.now
