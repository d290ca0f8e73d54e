use Rattle.std.proofs.Common.{◌∙◌, ap}
use Rattle.std.specs.Option.{option_flatten}
use Rattle.gaz_overlay.proofs.PassedTree.{found}
use Rattle.gaz_overlay.proofs.passes.Passes.born_before.Goals as goal

pub returns-in-Some : goal.returns-in-Some
returns-in-Some c = ap option_flatten (c.in-Some.ensures.value ∙ found c.args.self.now c.self.inside.by_uprn.entries c.args.uprn c.self.view_is)

pub returns-in-None : goal.returns-in-None
returns-in-None c = ap option_flatten (c.in-None.ensures.value ∙ found c.args.self.now c.self.inside.by_uprn.entries c.args.uprn c.self.view_is)
