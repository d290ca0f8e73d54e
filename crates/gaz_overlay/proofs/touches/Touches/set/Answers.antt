use Rattle.std.proofs.Common.{◌∙◌, sym}
use Rattle.gaz_views.proofs.Outcomes.{where_err}
use Rattle.gaz_overlay.proofs.Kept.{found, set_at}
use Rattle.gaz_overlay.proofs.touches.Touches.set.Goals as goal

pub returns-in_err-insert-clause-absent : goal.returns-in_err-insert-clause-absent
returns-in_err-insert-clause-absent c =
    where_err c.from_residual.result (sym (found c.args.self.now c.self.inside.by_key.entries c.args.key c.self.view_is) ∙ c.in_err-insert.ensures.absent)

pub returns-clause-ok : goal.returns-clause-ok
returns-clause-ok c =
    set_at c.args.self.now c.self.inside.by_key.entries c.insert.new.self.entries c.args.key c.args.touch c.self.view_is c.in_ok-insert.ensures.updates.0
