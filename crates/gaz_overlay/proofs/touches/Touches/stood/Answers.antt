use Rattle.std.proofs.Common.{◌∙◌, ap}
use Rattle.std.specs.Option.{option_map_or}
use Rattle.gaz_overlay.specs.declared.touch.Stood.TheVariants.{NoRow}
use Rattle.gaz_overlay.proofs.Kept.{found}
use Rattle.gaz_overlay.proofs.touches.Touches.stood.Goals as goal

pub returns-in-Some : goal.returns-in-Some
returns-in-Some c =
    ap (λ o. option_map_or (λ t. t.stood) o NoRow) (c.in-Some.ensures.value ∙ found c.args.self.now c.self.inside.by_key.entries c.args.key.now c.self.view_is)

pub returns-in-None : goal.returns-in-None
returns-in-None c =
    ap (λ o. option_map_or (λ t. t.stood) o NoRow) (c.in-None.ensures.value ∙ found c.args.self.now c.self.inside.by_key.entries c.args.key.now c.self.view_is)
