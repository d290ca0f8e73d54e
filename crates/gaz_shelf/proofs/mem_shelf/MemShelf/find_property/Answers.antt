use Rattle.gaz_views.proofs.Emptiness.{no_property}
use Rattle.gaz_shelf.proofs.mem_shelf.MemShelf.find_property.Goals as goal

pub returns-in-None : goal.returns-in-None
returns-in-None c = no_property _ c.in-None.ensures.none c.args.uprn
