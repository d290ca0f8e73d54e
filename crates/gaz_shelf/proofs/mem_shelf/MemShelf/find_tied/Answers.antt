use Rattle.gaz_shelf.proofs.Mem.{same_content}
use Rattle.gaz_shelf.proofs.Untouched.{no_ties}
use Rattle.gaz_shelf.proofs.mem_shelf.MemShelf.find_tied.Goals as goal

pub returns-in_default-clause-tied : goal.returns-in_default-clause-tied
returns-in_default-clause-tied c = no_ties _ c.in_default.ensures.none c.args.uprn

pub returns-in_err-tied-clause-content : goal.returns-in_err-tied-clause-content
returns-in_err-tied-clause-content c = same_content c.args.self.now.judging c.args.self.now.files c.args.self.now.accounts.by_code.entries c.tied.new.self.by_code.entries c.tied.ensures.same

pub returns-clause-content : goal.returns-clause-content
returns-clause-content c = same_content c.args.self.now.judging c.args.self.now.files c.args.self.now.accounts.by_code.entries c.tied.new.self.by_code.entries c.tied.ensures.same
