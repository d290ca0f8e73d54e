use Rattle.std.proofs.Common.{◌≡◌, ◌∙◌, ◌<◌, ◌+◌, ℕ, List, [], ◌∷◌, ◌++◌, ap, get_or, length, subst, sym, take}
use Rattle.std.proofs.lemmas.List.Sums.{fold-append, fold_more}
use Rattle.gaz_mirror.specs.Gathering.{AreSameChanges, IsSameChange, made, makes}
use Rattle.gaz_mirror.specs.declared.gathered.Change.{Change}
use Rattle.gaz_mirror.proofs.gathered.Gathered.copy.Goals as goal

-- one more at the end of both
one_more : (xs zs : List Change) (i : ℕ) (x y : Change) → i < length xs → x ≡ get_or xs i x → IsSameChange x y → AreSameChanges (take i xs) zs → AreSameChanges (take (i + 1) xs) (zs ++ y ∷ [])
one_more xs zs i x y below is same so_far = λ view.
    fold-append makes view zs (y ∷ []) ∙ same (made view zs) ∙ ap (λ v. makes v x) (so_far view)
    ∙ ap (makes (made view (take i xs))) is ∙ sym (fold_more makes view xs i x below)

pub loop-change-preserved : goal.loop-change-preserved
loop-change-preserved c =
    let xs = c.deref-change-items.result.now in
    subst (AreSameChanges (take (c.loop-change.change-index + 1) xs)) (sym c.in_ok-push.ensures.items)
    (one_more xs c.loop-change.changes.items c.loop-change.change-index c.change-item.result c.in_ok-share.field-0 c.loop-change-test.true c.change-item.is c.in_ok-share.ensures c.loop-change.invariant)
