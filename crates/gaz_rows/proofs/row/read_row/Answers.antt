use Rattle.std.proofs.Common.{sym, ap}
use Rattle.gaz_rows.specs.Rows.{rows_of, only}
use Rattle.gaz_rows.proofs.Back.{one-only, two-only}
use Rattle.gaz_rows.proofs.row.read_row.Goals as goal

pub returns-then-not-branch : goal.returns-then-not-branch
returns-then-not-branch c =
    let k = rw c.if-not-branch.true at (c.in_ok-next_row.ensures.read (rows_of c.args.text.now) c.open_rows-rdr.ensures) in
    sym (ap only k.0)

pub returns-then-branch : goal.returns-then-branch
returns-then-branch c =
    let k = rw c.if-not-branch.false at (c.in_ok-next_row.ensures.read (rows_of c.args.text.now) c.open_rows-rdr.ensures) in
    let m = rw c.if-branch.true at (c.in_ok-next_row-2.ensures.read k.0 k.2) in
    two-only _ _ _ k.0 m.0 k.1 m.1

pub returns : goal.returns
returns c =
    let k = rw c.if-not-branch.false at (c.in_ok-next_row.ensures.read (rows_of c.args.text.now) c.open_rows-rdr.ensures) in
    let m = rw c.if-branch.false at (c.in_ok-next_row-2.ensures.read k.0 k.2) in
    one-only _ _ k.0 k.1 m.0
