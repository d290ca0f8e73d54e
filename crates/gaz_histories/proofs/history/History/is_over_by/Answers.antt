use Rattle.std.proofs.Common.{◌∙◌, ap, sym}
use Rattle.gaz_histories.specs.Kept.{versions_in, versions_of}
use Rattle.gaz_histories.proofs.Lives.{same_over, stands_on}
use Rattle.gaz_histories.proofs.history.History.is_over_by.Goals as goal

pub returns-in-Standing : goal.returns-in-Standing
returns-in-Standing g c =
    ((λ no. cc), (λ over. absurd (stands_on c.in-Standing.field-0 c.args.volume c.in-Standing.field-1 (same_over _ _ c.args.volume (sym c.self.view_is ∙ ap versions_in c.in-Standing.is) over))))

pub returns-in-Several : goal.returns-in-Several
returns-in-Several g c =
    let is = ap versions_of (c.deref-in-Several.ensures.value ∙ ap (λ b. b.items) c.deref.ensures) ∙ sym (ap versions_in c.in-Several.is) ∙ c.self.view_is in
    ((λ yes. same_over _ _ c.args.volume is (c.are_over_by.ensures.0 yes)), (λ over. c.are_over_by.ensures.1 (same_over _ _ c.args.volume (sym is) over)))
