use Rattle.gaz_shelf.proofs.Mem.{same_board}
use Rattle.gaz_shelf.proofs.mem_shelf.MemShelf.bring_to_hand.Goals as goal

pub returns-clause-same : goal.returns-clause-same
returns-clause-same c = same_board c.args.self.now.judging c.args.self.now.files c.args.self.now.accounts.by_code.entries c.undo.new.self.by_code.entries c.requires c.undo.ensures.board
