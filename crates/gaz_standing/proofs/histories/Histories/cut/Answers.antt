use Rattle.std.proofs.Common.{◌∙◌, ap}
use Rattle.gaz_standing.proofs.Stored.{stores_none}
use Rattle.gaz_standing.specs.KeyHistories.{versions_at}
use Rattle.gaz_standing.proofs.histories.Histories.cut.Goals as goal

pub returns-then-len : goal.returns-then-len
returns-then-len c =
    let g = c.cut_there.new.self in
    λ k. stores_none g c.self.inside.by_key.entries c.remove.new.self.entries c.of.result c.self.view_is c.remove.ensures.updates.0 (ap (versions_at g) c.of.ensures ∙ c.if-cut_there.ensures.empty) k ∙ c.cut_there.ensures.changes k

pub returns-else-len : goal.returns-else-len
returns-else-len c =
    let g = c.cut_there.new.self in
    λ k. stores_none g c.self.inside.by_key.entries c.remove.new.self.entries c.of.result c.self.view_is c.remove.ensures.updates.0 (ap (versions_at g) c.of.ensures ∙ c.if-cut_there.ensures.empty) k ∙ c.cut_there.ensures.changes k
