use Rattle.gaz_shelf.proofs.Mem.{same_content}
use Rattle.gaz_shelf.proofs.mem_shelf.MemShelf.find_page.Goals as goal

pub returns-in_err-page-clause-content : goal.returns-in_err-page-clause-content
returns-in_err-page-clause-content c = same_content c.args.self.now.judging c.args.self.now.files c.args.self.now.accounts.by_code.entries c.page.new.self.by_code.entries c.page.ensures.same

pub returns-clause-content : goal.returns-clause-content
returns-clause-content c = same_content c.args.self.now.judging c.args.self.now.files c.args.self.now.accounts.by_code.entries c.page.new.self.by_code.entries c.page.ensures.same
