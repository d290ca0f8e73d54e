use Rattle.std.proofs.Common.{◌≡◌, ◌∙◌, ap, sym, true, true≢false, Bool}
use Rattle.std.specs.Prelude.{◌&&◌}
use Rattle.gaz_records.specs.Lpis.{LpiValue}
use Rattle.gaz_views.specs.Words.{is_approved}
use Rattle.gaz_extract.specs.Closing.{is_closed_elsewhere}
use Rattle.gaz_extract.proofs.Readings.{looks_as}
use Rattle.gaz_extract.proofs.streets.is_on_closed.Goals.{in-Approved, in_default}
use Rattle.gaz_extract.proofs.streets.is_on_closed.Goals as goal

pub returns-clause-tells : goal.returns-clause-tells
returns-clause-tells g c =
    let B = (g.K.Shelf.seen c.args.keeper.now).content.board in
    let elsewhere = is_closed_elsewhere B c.args.register.now c.args.code in
    let approved : is_approved c.args.lpi.now.status ≡ true = elim c.match-matches.branch [
      | in-Approved w ↦ ap (λ (l : LpiValue). is_approved l.status) (sym c.lpi.view_is) ∙ ap is_approved w.in-Approved.is
      | in_default w ↦ absurd (true≢false (sym c.if-not-matches.false ∙ w.matches-is))
    ] in
    looks_as _ _ _ _ _
    (λ x recalls right.
    let both = recalls right in
    (both.0, both.1 ∙ ap (λ (l : LpiValue). elsewhere l.usrn) c.lpi.view_is ∙ ap (λ (b : Bool). b && elsewhere c.args.lpi.now.usrn) (sym approved)))
    c.is_closed_elsewhere.ensures.tells
