use Rattle.std.proofs.Common.{◌∙◌, ap, is_some}
use Rattle.gaz_overlay.proofs.PassedTree.{found}
use Rattle.gaz_overlay.proofs.passes.Passes.has.Goals as goal

pub returns-in-Some : goal.returns-in-Some
returns-in-Some c = ap is_some (c.in-Some.ensures.value ∙ found c.args.self.now c.self.inside.by_uprn.entries c.args.uprn c.self.view_is)

pub returns-in-None : goal.returns-in-None
returns-in-None c = ap is_some (c.in-None.ensures.value ∙ found c.args.self.now c.self.inside.by_uprn.entries c.args.uprn c.self.view_is)
