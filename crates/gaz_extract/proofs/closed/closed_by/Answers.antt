use Rattle.std.proofs.Common.{◌≡◌, ◌∙◌, ap, sym, true, false, Bool, cond}
use Rattle.std.specs.Prelude.{Some, None}
use Rattle.gaz_records.specs.Lpis.{LpiValue}
use Rattle.gaz_extract.specs.Closing.{closed_by, is_on_closed}
use Rattle.gaz_extract.proofs.closed.closed_by.Goals as goal

pub returns-clause-tells : goal.returns-clause-tells
returns-clause-tells g c =
    let told = c.in_ok-is_on_closed.ensures.tells in
    let B = (g.K.Shelf.seen c.args.keeper.now).content.board in
    let tells = λ (l : LpiValue). Some (record { custodian = c.args.code; lpi = l.key; usrn = l.usrn }) in
    record {
      keeps = told.keeps;
      right = λ stood fine right.
          let both = told.right stood fine right in
          let on_closed : is_on_closed B c.args.register.now c.args.code c.in-Lpi.lpi ≡ true = sym both.1 ∙ c.if-not-branch.false in
          (both.0, ap tells c.lpi.view_is ∙ sym (ap (closed_by B c.args.register.now c.args.code) c.in-Lpi.is ∙ ap (λ (b : Bool). cond b (tells c.in-Lpi.lpi) None) on_closed));
      counts = record { kept = told.counts.kept; store = tt; trust = told.counts.trust };
    }

pub returns-then-not-branch-clause-tells : goal.returns-then-not-branch-clause-tells
returns-then-not-branch-clause-tells g c =
    let told = c.in_ok-is_on_closed.ensures.tells in
    let B = (g.K.Shelf.seen c.args.keeper.now).content.board in
    let tells = λ (l : LpiValue). Some (record { custodian = c.args.code; lpi = l.key; usrn = l.usrn }) in
    record {
      keeps = told.keeps;
      right = λ stood fine right.
          let both = told.right stood fine right in
          let off : is_on_closed B c.args.register.now c.args.code c.in-Lpi.lpi ≡ false = sym both.1 ∙ c.if-not-branch.true in
          (both.0, sym (ap (closed_by B c.args.register.now c.args.code) c.in-Lpi.is ∙ ap (λ (b : Bool). cond b (tells c.in-Lpi.lpi) None) off));
      counts = record { kept = told.counts.kept; store = tt; trust = told.counts.trust };
    }
