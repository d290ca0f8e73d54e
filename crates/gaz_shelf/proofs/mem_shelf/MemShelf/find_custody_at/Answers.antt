use Rattle.gaz_shelf.proofs.Boards.{never_changed}
use Rattle.gaz_shelf.proofs.Untouched.{no_custody_there}
use Rattle.gaz_shelf.proofs.mem_shelf.MemShelf.find_custody_at.Goals as goal

pub returns-in-None : goal.returns-in-None
returns-in-None c _ = no_custody_there _ (never_changed c.args.self.now.accounts.by_code.entries c.args.code c.in-None.ensures c.args.volume) c.args.uprn
