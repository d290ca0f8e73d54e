use Rattle.std.proofs.Common.{◌≡◌, ◌++◌, ◌∷◌, [], drop, map}
use Rattle.toml.specs.View.{view}
use Rattle.gaz_register.specs.Drafts.{all_good, pair_of}
use Rattle.gaz_register.proofs.Gather.{onto}
use Rattle.gaz_register.proofs.draft.pairs_from.Given as goal

abbrev pub invariant-loop-item : goal.invariant-loop-item
invariant-loop-item l =
    onto (λ v. pair_of (view v)) (λ ys y. ys ++ y ∷ []) l.pairs.items (drop l.item-index l.items) ≡ all_good (map (λ v. pair_of (view v)) l.items)
