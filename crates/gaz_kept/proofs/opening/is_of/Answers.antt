use Rattle.std.proofs.Common.{◌∙◌, ap}
use Rattle.gaz_kept.specs.Opening.{has_all}
use Rattle.gaz_kept.proofs.MetaRows.{nothing_lacks}
use Rattle.gaz_kept.proofs.opening.is_of.Goals as goal

pub returns-then-not-has_all-clause-told : goal.returns-then-not-has_all-clause-told
returns-then-not-has_all-clause-told g c clean has =
    absurd (nothing_lacks c.args.conn.now.schema has.there (c.if-not-has_all.ensures ∙ ap has_all c.schema.ensures.value))
