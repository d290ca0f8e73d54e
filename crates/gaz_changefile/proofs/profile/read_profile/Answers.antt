use Rattle.std.proofs.Common.{sym, ap, ◌∙◌}
use Rattle.gaz_rows.specs.Rows.{rows_of}
use Rattle.gaz_changefile.specs.Profile.{profile_first, profile_of}
use Rattle.gaz_changefile.proofs.profile.read_profile.Goals as goal

pub returns-then-not-branch : goal.returns-then-not-branch
unfolding profile_of
returns-then-not-branch c =
    let k = rw c.if-not-branch.true at (c.in_ok-next_row.ensures.read (rows_of c.args.bytes.now) c.open_rows-rdr.ensures) in
    sym (ap profile_first k.0)

pub returns : goal.returns
unfolding profile_of
returns c =
    let k = rw c.if-not-branch.false at (c.in_ok-next_row.ensures.read (rows_of c.args.bytes.now) c.open_rows-rdr.ensures) in
    c.profile_in.ensures ∙ sym (ap profile_first k.1)
