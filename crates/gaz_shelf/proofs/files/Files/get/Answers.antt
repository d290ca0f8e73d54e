use Rattle.std.proofs.Common.{◌∙◌, sym, ap, refl, Some}
use Rattle.std.specs.FinMap as map
use Rattle.gaz_views.proofs.Trees.{get_tree}
use Rattle.gaz_keeper.specs.Received.{Received, pair_cmp}
use Rattle.gaz_keeper.proofs.Pairs.{pairs_total}
use Rattle.gaz_shelf.proofs.files.Files.get.Goals as goal

pub returns-in-Some : goal.returns-in-Some
returns-in-Some c =
    ap Some c.as_slice.ensures ∙ c.in-Some.ensures.value ∙ sym (get_tree {S = pair_cmp} (λ a b. refl) pairs_total c.self.inside.by_pair.entries (c.args.code, c.args.volume))
    ∙ ap (λ (F : Received). map.get F (c.args.code, c.args.volume)) c.self.view_is

pub returns-in-None : goal.returns-in-None
returns-in-None c =
    c.in-None.ensures.value ∙ sym (get_tree {S = pair_cmp} (λ a b. refl) pairs_total c.self.inside.by_pair.entries (c.args.code, c.args.volume))
    ∙ ap (λ (F : Received). map.get F (c.args.code, c.args.volume)) c.self.view_is
