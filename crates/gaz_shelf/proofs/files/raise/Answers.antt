use Rattle.std.proofs.Common.{sym}
use Rattle.gaz_shelf.proofs.Highest.{raised}
use Rattle.gaz_shelf.proofs.files.raise.Goals as goal

pub returns-clause-kept : goal.returns-clause-kept
returns-clause-kept c = raised c.args.highest.now.entries c.insert.new.self.entries c.args.code c.args.volume c.in_ok-insert.ensures.updates.0 (sym c.if-is_below.ensures)
