use Rattle.std.proofs.Common.{◌∙◌, ap}
use Rattle.std.specs.FinMap as finite
use Rattle.gaz_standing.specs.KeyHistories.{KeyHistories}
use Rattle.gaz_standing.proofs.Stored.{as_many}
use Rattle.gaz_standing.proofs.histories.Histories.len.Goals as goal

pub returns : goal.returns
returns c = c.len.ensures.len ∙ as_many c.self.inside.by_key.entries c.len.ensures.unique ∙ ap (λ (h : KeyHistories). finite.len h) c.self.view_is
