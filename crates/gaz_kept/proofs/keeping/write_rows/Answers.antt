use Rattle.std.proofs.Common.{◌∙◌, subst}
use Rattle.gaz_kept.specs.Keeping.{WritesAll, WritesKeys, WritesNumbers}
use Rattle.gaz_kept.proofs.Writes.{writes_then}
use Rattle.gaz_kept.proofs.keeping.write_rows.Goals as goal

pub returns-clause-written : goal.returns-clause-written
returns-clause-written g c =
    let code = c.args.code in
    let volume = c.args.volume in
    let changes = c.args.changes.now in
    let keys = c.deref.ensures.value ∙ c.in_ok-keys.ensures in
    let numbers = c.deref-2.ensures.value ∙ c.in_ok-numbers.ensures in
    writes_then g.S.Store c.args.tx.now.conn.now c.write_keys.new.tx.conn.now c.write_numbers.new.tx.conn.now _ c.write_numbers.result c.in_ok-write_keys.ensures.inside c.write_numbers.ensures.inside
    (WritesKeys code volume changes c.deref.result.now) (WritesNumbers code volume changes c.deref-2.result.now) (WritesAll code volume changes)
    (λ old mid new one two. (mid, subst (λ l. WritesKeys code volume changes l old mid) keys one, subst (λ l. WritesNumbers code volume changes l mid new) numbers two))
    c.in_ok-write_keys.ensures.written c.write_numbers.ensures.written
