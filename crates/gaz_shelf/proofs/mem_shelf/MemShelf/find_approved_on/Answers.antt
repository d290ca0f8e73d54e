use Rattle.gaz_views.proofs.Emptiness.{none_approved_on}
use Rattle.gaz_shelf.proofs.mem_shelf.MemShelf.find_approved_on.Goals as goal

pub returns-in-None : goal.returns-in-None
returns-in-None c = none_approved_on _ c.in-None.ensures.none c.args.usrn c.args.lang
