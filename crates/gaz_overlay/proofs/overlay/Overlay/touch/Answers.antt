use Rattle.std.proofs.Common.{◌≡◌, ◌∙◌, ap}
use Rattle.std.specs.FinMap as finite
use Rattle.gaz_overlay.specs.Changes.{Changes, Touched, is_touched}
use Rattle.gaz_overlay.proofs.Kept.{forgotten, noted_there}
use Rattle.gaz_overlay.proofs.overlay.Overlay.touch.Goals as goal

pub returns-in-Err-clause-err : goal.returns-in-Err-clause-err
returns-in-Err-clause-err c =
    let k = c.args.key.now in
    let views : c.self-2.inside.ledger.working ≡ c.self.inside.ledger.working = ap (λ (a : Changes). a.view) c.self-2.view_is ∙ c.in-Err.ensures.err in
    let touches : c.self-2.inside.touches ≡ c.note.new.self = ap (λ (a : Changes). a.touched) c.self-2.view_is ∙ c.in-Err.ensures.touched in
    let fresh = ap (λ (a : Changes). is_touched a k) c.self.view_is ∙ c.requires in
    let again : c.forget.new.self ≡ c.self.inside.touches =
    c.forget.ensures ∙ ap (λ (m : Touched). finite.remove m k) (touches ∙ c.in_ok-note.ensures.ok) ∙ forgotten c.self.inside.touches k (record { stood = c.args.stood; last = _ }) fresh in
    let passes : c.self-2.inside.passes ≡ c.self.inside.passes = ap (λ (a : Changes). a.passed) c.self-2.view_is ∙ c.in-Err.ensures.passed in
    (λ i. record { view = views i; touched = again i; passed = passes i }) ∙ c.self.view_is

pub returns-clause-touched : goal.returns-clause-touched
returns-clause-touched c =
    ap (λ (m : Touched). finite.contains_key m c.args.key.now) (c.in_default.ensures.touched ∙ c.in_ok-note.ensures.ok)
    ∙ noted_there c.self.inside.touches c.args.key.now (record { stood = c.args.stood; last = _ })
