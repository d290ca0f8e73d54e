use Rattle.std.proofs.Common.{◌≡◌, ◌∙◌, ap}
use Rattle.std.specs.FinMap as finite
use Rattle.gaz_overlay.specs.Changes.{Passed}
use Rattle.gaz_overlay.proofs.PassedTree.{forgotten}
use Rattle.gaz_overlay.proofs.overlay.Overlay.release.Goals as goal

pub returns-then-first-clause-err : goal.returns-then-first-clause-err
returns-then-first-clause-err c =
    let n = c.args.uprn in
    let fresh = c.in_ok-first.ensures.first.0 c.if-first.true in
    let again : c.forget.new.self ≡ c.self.inside.passes =
    c.forget.ensures ∙ ap (λ (p : Passed). finite.remove p n) c.in_ok-first.ensures.ok ∙ forgotten c.self.inside.passes n c.args.since fresh in
    (λ i. record { view = (c.in-Err.ensures.err i).working; touched = c.self.inside.touches; passed = again i }) ∙ c.self.view_is
