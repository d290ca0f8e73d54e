use Rattle.std.proofs.Common.{◌∙◌, ap}
use Rattle.gaz_kept.specs.Opening.{has_all}
use Rattle.gaz_kept.proofs.MetaRows.{nothing_lacks}
use Rattle.gaz_kept.proofs.opening.check.Goals as goal

pub returns-then-not-has_all-clause-judged : goal.returns-then-not-has_all-clause-judged
returns-then-not-has_all-clause-judged g c clean has r numbered =
    nothing_lacks c.args.conn.now.schema has.there (c.if-not-has_all.ensures ∙ ap has_all c.schema.ensures.value)
