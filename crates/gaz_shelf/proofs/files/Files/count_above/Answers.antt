use Rattle.std.proofs.Common.{◌∙◌, sym, ap, refl, ℕ, List, map}
use Rattle.std.specs.Prelude.{count_by}
use Rattle.std.specs.FinMap as finite
use Rattle.std.specs.Option.{option_copied}
use Rattle.gaz_views.proofs.Trees.{entries_tree}
use Rattle.gaz_keeper.specs.Received.{Received, pair_cmp}
use Rattle.gaz_shelf.proofs.Counting.{above, above_highest, above_nothing}
use Rattle.gaz_keeper.proofs.Pairs.{pairs_total}
use Rattle.gaz_shelf.proofs.files.Files.count_above.Goals as goal

pub returns-in-Some : goal.returns-in-Some
returns-in-Some c =
    let es = entries_tree {S = pair_cmp} (λ a b. refl) pairs_total c.self.inside.by_pair.entries c.len-count.ensures.ordered in
    c.count_between.ensures
    ∙ above_highest c.self.inside.highest.entries c.self.inside.by_pair.entries c.self.invariant c.args.code c.args.reached c.in-Some.highest.now (sym c.get.ensures.value ∙ ap option_copied c.in-Some.is)
    ∙ ap (λ (l : List ((ℕ × ℕ) × List ℕ)). count_by (above c.args.code c.args.reached) (map (λ e. e.0) l)) (sym es)
    ∙ ap (λ (F : Received). count_by (above c.args.code c.args.reached) (finite.keys F)) c.self.view_is

pub returns-in-None : goal.returns-in-None
returns-in-None c =
    let es = entries_tree {S = pair_cmp} (λ a b. refl) pairs_total c.self.inside.by_pair.entries c.len-count.ensures.ordered in
    sym (above_nothing c.self.inside.highest.entries c.self.inside.by_pair.entries c.self.invariant c.args.code c.args.reached (sym c.get.ensures.value ∙ ap option_copied c.in-None.is))
    ∙ ap (λ (l : List ((ℕ × ℕ) × List ℕ)). count_by (above c.args.code c.args.reached) (map (λ e. e.0) l)) (sym es)
    ∙ ap (λ (F : Received). count_by (above c.args.code c.args.reached) (finite.keys F)) c.self.view_is
