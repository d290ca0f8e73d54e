use Rattle.std.proofs.Common.{◌∙◌, ap, sym}
use Rattle.std.specs.Ordering.{is_lt}
use Rattle.gaz_extract.proofs.Ranks.{fewer_left}
use Rattle.gaz_extract.proofs.page.is_later.Goals as goal

pub returns-clause-fewer : goal.returns-clause-fewer
returns-clause-fewer c = λ e. fewer_left c.args.before.now c.args.key.now c.read_ranges.ensures.number c.read_ranges-2.ensures.number c.read_ranges.ensures.label c.read_ranges-2.ensures.label (ap is_lt (sym c.compare.ensures) ∙ sym c.is_lt.ensures ∙ e)
