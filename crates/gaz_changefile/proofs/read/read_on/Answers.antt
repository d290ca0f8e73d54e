use Rattle.std.proofs.Common.{refl}
use Rattle.std.proofs.lemmas.Result.{err_from_is_err_and}
use Rattle.gaz_changefile.proofs.read.read_on.Goals as goal

pub returns-then-not-branch-clause-read : goal.returns-then-not-branch-clause-read
returns-then-not-branch-clause-read c left is =
    let n = rw c.if-not-branch.true at (c.in_ok-next_row.ensures.read left is) in rw n.0 (refl, n.1, refl)

pub returns-in_err-add-clause-read : goal.returns-in_err-add-clause-read
returns-in_err-add-clause-read c left is =
    let n = rw c.if-not-branch.false at (c.in_ok-next_row.ensures.read left is) in
    let p = err_from_is_err_and c.from_residual-in_err-add.result c.from_residual-in_err-add.ensures.1 in
    rw (n.1, p.1, p.2) c.in_err-add.ensures.bad

pub returns-clause-read : goal.returns-clause-read
returns-clause-read c left is =
    let n = rw c.if-not-branch.false at (c.in_ok-next_row.ensures.read left is) in rw n.1 (refl, n.2, c.in_ok-add.ensures.good)
