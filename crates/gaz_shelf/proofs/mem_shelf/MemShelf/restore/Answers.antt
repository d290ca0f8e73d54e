use Rattle.gaz_views.proofs.Outcomes.{where_err}
use Rattle.gaz_shelf.proofs.Mem.{same_content}
use Rattle.gaz_shelf.proofs.mem_shelf.MemShelf.restore.Goals as goal

pub returns-in_err-restore-clause-err : goal.returns-in_err-restore-clause-err
returns-in_err-restore-clause-err c = where_err c.from_residual.result (same_content c.args.self.now.judging c.args.self.now.files c.args.self.now.accounts.by_code.entries c.restore.new.self.by_code.entries c.in_err-restore.ensures.err)
