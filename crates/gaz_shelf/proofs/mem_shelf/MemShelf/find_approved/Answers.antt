use Rattle.std.proofs.Common.{◌∙◌}
use Rattle.gaz_views.proofs.Emptiness.{none_approved}
use Rattle.gaz_shelf.proofs.mem_shelf.MemShelf.find_approved.Goals as goal

pub returns-in-None : goal.returns-in-None
returns-in-None c = c.new.ensures.items ∙ none_approved _ c.in-None.ensures.none c.args.uprn
