use Rattle.std.proofs.Common.{◌∙◌, arith}
use Rattle.std.proofs.lemmas.Bool.Decides.{nat_tests}
use Rattle.gaz_cells.proofs.Digits.{more_added, none_added}
use Rattle.gaz_cells.proofs.id.+add_digits.Goals as goal

pub returns-then-width-eq0 : goal.returns-then-width-eq0
returns-then-width-eq0 t c = none_added c.args.width c.args.number c.args.out.now.items (grind (arith, nat_tests))

pub returns : goal.returns
returns t c =
    c.in_ok-push.ensures.items
    ∙ more_added c.args.width c.args.number c.args.out.now.items c.add_digits.new.out.items c.if-width-eq0.false c.in_ok-add_digits.ensures
