use Rattle.std.proofs.Common.{subst}
use Rattle.gaz_kept.specs.Keeping.{AddsItem, ClosesRow, WritesKey, WritesVersions}
use Rattle.gaz_kept.proofs.Writes.{writes_then}
use Rattle.gaz_kept.proofs.keeping_keys.write_key.Goals as goal

pub returns-clause-written : goal.returns-clause-written
returns-clause-written g c =
    let w = c.in_ok-writing.writing in
    let k = c.args.key.now in
    subst (λ x. WritesVersions g.S.Store c.args.tx.now.conn.now c.add_item.new.tx.conn.now c.add_item.result (WritesKey c.args.code c.args.volume k x)) c.in_ok-writing.ensures
    (writes_then g.S.Store c.args.tx.now.conn.now c.close_row.new.tx.conn.now c.add_item.new.tx.conn.now _ c.add_item.result c.in_ok-close_row.ensures.inside c.add_item.ensures.inside
    (ClosesRow c.args.code c.args.volume k w.closes) (AddsItem c.args.code c.args.volume w.adds) (WritesKey c.args.code c.args.volume k w)
    (λ old mid new closes adds. record { between = mid; closes = closes; adds = adds }) c.in_ok-close_row.ensures.closed c.add_item.ensures.added)
