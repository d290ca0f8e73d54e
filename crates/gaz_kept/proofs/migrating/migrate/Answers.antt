use Rattle.std.proofs.Common.{sym}
use Rattle.sqlite.specs.Held.{state}
use Rattle.gaz_kept.proofs.FirstTables.{nothing_first_lacks}
use Rattle.gaz_kept.proofs.MetaRows.{not_both, not_store}
use Rattle.gaz_kept.proofs.migrating.migrate.Goals as goal

pub returns-then-is_first-clause-told : goal.returns-then-is_first-clause-told
returns-then-is_first-clause-told g c clean all =
    absurd (not_both c.args.conn.now.schema all (sym c.if-is_first.ensures))

pub returns-then-is_first-clause-judged : goal.returns-then-is_first-clause-judged
returns-then-is_first-clause-judged g c clean has =
    absurd (not_store c.args.conn.now.schema has.there (sym c.if-is_first.ensures))

pub returns-else-is_first-clause-moved : goal.returns-else-is_first-clause-moved
returns-else-is_first-clause-moved g c clean has =
    absurd (nothing_first_lacks (state g.S.Store c.args.conn.now).now has c.if-is_first.ensures)

pub returns-else-is_first-clause-judged_first : goal.returns-else-is_first-clause-judged_first
returns-else-is_first-clause-judged_first g c clean has =
    absurd (nothing_first_lacks (state g.S.Store c.args.conn.now).now has c.if-is_first.ensures)
