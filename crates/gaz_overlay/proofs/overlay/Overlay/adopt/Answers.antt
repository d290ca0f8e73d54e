use Rattle.std.proofs.Common.{◌≡◌, ◌∙◌, Bool, true, false, ap, refl, sym, true≢false}
use Rattle.std.specs.FinMap as finite
use Rattle.gaz_overlay.specs.Changes.{Passed}
use Rattle.gaz_overlay.proofs.PassedTree.{forgotten, noted_already}
use Rattle.gaz_overlay.proofs.overlay.Overlay.adopt.Goals as goal
use Rattle.gaz_overlay.proofs.overlay.Overlay.adopt.Goals.{then-first, else-first}

not_first : (b : Bool) → ¬ (b ≡ false) → b ≡ true
not_first true h = refl
not_first false h = absurd (h refl)

pub returns-in-Err-clause-err : goal.returns-in-Err-clause-err
returns-in-Err-clause-err c = elim c.if-first.branch [
  | then-first w ↦
      let fresh = c.in_ok-first.ensures.first.0 w.if-first.true in
      let again : w.forget.new.self ≡ c.self.inside.passes =
      w.forget.ensures ∙ ap (λ (p : Passed). finite.remove p c.in-Blpu.uprn) c.in_ok-first.ensures.ok ∙ forgotten c.self.inside.passes c.in-Blpu.uprn c.args.since fresh in
      w.self-is ∙ (λ i. record { view = (c.in-Err.ensures.err i).working; touched = c.self.inside.touches; passed = again i }) ∙ c.self.view_is
  | else-first w ↦
      let there : finite.contains_key c.self.inside.passes c.in-Blpu.uprn ≡ true =
      not_first (finite.contains_key c.self.inside.passes c.in-Blpu.uprn) (λ fresh. true≢false (sym (c.in_ok-first.ensures.first.1 fresh) ∙ w.if-first.false)) in
      let again : c.note.new.self ≡ c.self.inside.passes = c.in_ok-first.ensures.ok ∙ noted_already c.self.inside.passes c.in-Blpu.uprn c.args.since there in
      w.self-is ∙ (λ i. record { view = (c.in-Err.ensures.err i).working; touched = c.self.inside.touches; passed = again i }) ∙ c.self.view_is
]
